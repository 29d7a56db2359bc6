use Rattle.std.proofs.Common.{◌≡◌, ℕ, ◌+◌, ◌-◌, ◌<◌, ◌≤◌, List, [], ◌++◌, length, take, Some, Result, Ok, Err, refl, sym, ap, ◌∙◌, subst}
use Rattle.std.proofs.Common.{arith, inl, inr}
use Rattle.daide_frame.proofs.Common.{Head, Code, More, Fault, IsFed}
use Rattle.daide_frame.specs.Frames.{Cut, missing, step_of_events, last_items, IsEnd}
use Rattle.daide_frame.proofs.CutterLemmas.{in_header, refused_closed, empty_closed, IsHeaderStep, header_held, consistent_short}
use Rattle.daide_frame.proofs.CutterLemmas.{consistent_head, header_told, told_ok, header_step, step_of_events-empty}
use Rattle.daide_frame.proofs.CutterLemmas.{step_of_events-begun, missing-header, length_of_header}
use Rattle.daide_frame.proofs.HeaderFeeding.{bytes_put, short_fed, fourth_fed}
use Rattle.daide_frame.proofs.FramesLemmas.{at_head}
use Rattle.daide_frame.proofs.cutter.Cutter.feed_header.Goals as goal
use Rattle.daide_frame.proofs.cutter.Cutter.feed_header.Goals.{then-head-eq0, else-head-eq0}

-- an incomplete header takes what is missing of its four bytes
room_left : (cap have : ℕ) (header body : List ℕ) (old : Cut) (n : ℕ) → have < 4 → length header ≡ 4 → body ≡ [] →
    record { cap = cap; bytes = take have header ++ body } ≡ old → n ≤ missing old.cap old.bytes → have + n ≤ 4
room_left cap have header body old n less four none same room =
    let left : missing old.cap old.bytes ≡ 4 - have =
    ap (λ (v : Cut). missing v.cap v.bytes) (sym same) ∙ missing-header cap have header body less four none in
    omega (arith, less, left, room)

pub put-requires : goal.put-requires
put-requires g c =
    let a = c.self.inside in
    let h = in_header a.cap a.have a.header a.head a.is_faulty a.body.items _ c.self.invariant
    (subst (λ (v : Cut). length v.bytes < 4) (sym c.self.view_is) c.requires.header) in
    record {
      room = room_left a.cap a.have a.header a.body.items c.args.self.now (length c.args.piece.now) h.less c.self.told
          h.no_body c.self.view_is c.requires.room;
    }

pub invariant_of-self : goal.invariant_of-self
invariant_of-self g c =
    let a = c.self.inside in
    let h = in_header a.cap a.have a.header a.head a.is_faulty a.body.items _ c.self.invariant
    (subst (λ (v : Cut). length v.bytes < 4) (sym c.self.view_is) c.requires.header) in
    consistent_short a.cap (a.have + length c.args.piece.now) c.put.new.header a.head a.is_faulty a.body.items _
    c.if-self-lt-HEADER.true c.put.ensures.four h.no_body h.no_head h.no_fault
    c.self.invariant.reserved

pub returns-then-self-lt-HEADER-clause-fed : goal.returns-then-self-lt-HEADER-clause-fed
returns-then-self-lt-HEADER-clause-fed g c =
    let a = c.self.inside in
    let p = c.args.piece.now in
    let h = in_header a.cap a.have a.header a.head a.is_faulty a.body.items _ c.self.invariant
    (subst (λ (v : Cut). length v.bytes < 4) (sym c.self.view_is) c.requires.header) in
    let new = take (a.have + length p) c.put.new.header ++ a.body.items in
    let size = length_of_header (a.have + length p) c.put.new.header a.body.items
    (omega (arith, c.if-self-lt-HEADER.true)) c.put.ensures.four h.no_body in
    subst (λ (v : Cut). IsFed v.cap v.bytes p More new) c.self.view_is
    (short_fed a.cap (take a.have a.header ++ a.body.items) p new
    (bytes_put a.have (length p) a.header c.put.new.header a.body.items p h.no_body c.put.ensures.bytes)
    (omega (arith, size, c.if-self-lt-HEADER.true)))

pub invariant_of-self-in-Err : goal.invariant_of-self-in-Err
invariant_of-self-in-Err g c =
    let a = c.self.inside in
    let h = in_header a.cap a.have a.header a.head a.is_faulty a.body.items _ c.self.invariant
    (subst (λ (v : Cut). length v.bytes < 4) (sym c.self.view_is) c.requires.header) in
    let whole : a.have + length c.args.piece.now ≡ 4 =
    let most = room_left a.cap a.have a.header a.body.items c.args.self.now (length c.args.piece.now) h.less c.self.told
    h.no_body c.self.view_is c.requires.room in
    omega (arith, most, c.if-self-lt-HEADER.false) in
    consistent_head a.cap (a.have + length c.args.piece.now) c.put.new.header a.head a.is_faulty a.body.items _
    (Err c.in-Err.code) whole c.put.ensures.four h.no_body h.no_fault (sym c.read_head.ensures
    ∙ c.in-Err.is) h.no_head c.self.invariant.reserved

pub invariant_of-self-in-Ok : goal.invariant_of-self-in-Ok
invariant_of-self-in-Ok g c =
    let a = c.self.inside in
    let h = in_header a.cap a.have a.header a.head a.is_faulty a.body.items _ c.self.invariant
    (subst (λ (v : Cut). length v.bytes < 4) (sym c.self.view_is) c.requires.header) in
    let whole : a.have + length c.args.piece.now ≡ 4 =
    let most = room_left a.cap a.have a.header a.body.items c.args.self.now (length c.args.piece.now) h.less c.self.told
    h.no_body c.self.view_is c.requires.room in
    omega (arith, most, c.if-self-lt-HEADER.false) in
    consistent_head a.cap (a.have + length c.args.piece.now) c.put.new.header (Some c.in-Ok.head) a.is_faulty
    a.body.items _ (Ok c.in-Ok.head) whole c.put.ensures.four h.no_body h.no_fault
    (sym c.read_head.ensures ∙ c.in-Ok.is) refl c.self.invariant.reserved

pub returns-in-Err-clause-fed : goal.returns-in-Err-clause-fed
returns-in-Err-clause-fed g c =
    let a = c.self.inside in
    let p = c.args.piece.now in
    let n = a.have + length p in
    let h = in_header a.cap a.have a.header a.head a.is_faulty a.body.items _ c.self.invariant
    (subst (λ (v : Cut). length v.bytes < 4) (sym c.self.view_is) c.requires.header) in
    let four = c.put.ensures.four in
    let whole : a.have + length p ≡ 4 =
    let most = room_left a.cap a.have a.header a.body.items c.args.self.now (length c.args.piece.now) h.less c.self.told
    h.no_body c.self.view_is c.requires.room in
    omega (arith, most, c.if-self-lt-HEADER.false) in
    let read = sym c.read_head.ensures ∙ c.in-Err.is in
    let size = length_of_header n c.put.new.header a.body.items (omega (arith, whole)) four h.no_body in
    let old = length_of_header a.have a.header a.body.items (omega (arith, h.less)) c.self.told h.no_body in
    let step = header_step a.cap n c.put.new.header a.body.items whole four h.no_body in
    let new = take (a.have + length p) c.put.new.header ++ a.body.items in
    subst (λ (v : Cut). IsFed v.cap v.bytes p (Fault c.in-Err.code) new) c.self.view_is
    (fourth_fed a.cap (take a.have a.header ++ a.body.items) p new (Fault c.in-Err.code) (omega (arith, old, h.less))
    (bytes_put a.have (length p) a.header c.put.new.header a.body.items p h.no_body c.put.ensures.bytes)
    (omega (arith, size, whole))
    (step ∙ ap (λ (r : Result Head Code). step_of_events (at_head r)) read)
    (header_told a.cap n c.put.new.header a.body.items (Err c.in-Err.code) (Fault c.in-Err.code) whole four h.no_body
    read refl)
    tt
    (λ _. refused_closed a.cap n c.put.new.header a.body.items c.in-Err.code whole four read))

pub returns-after-head-eq0-clause-fed : goal.returns-after-head-eq0-clause-fed
returns-after-head-eq0-clause-fed g c =
    let a = c.self.inside in
    let p = c.args.piece.now in
    let n = a.have + length p in
    let h = in_header a.cap a.have a.header a.head a.is_faulty a.body.items _ c.self.invariant
    (subst (λ (v : Cut). length v.bytes < 4) (sym c.self.view_is) c.requires.header) in
    let four = c.put.ensures.four in
    let whole : a.have + length p ≡ 4 =
    let most = room_left a.cap a.have a.header a.body.items c.args.self.now (length c.args.piece.now) h.less c.self.told
    h.no_body c.self.view_is c.requires.room in
    omega (arith, most, c.if-self-lt-HEADER.false) in
    let read = sym c.read_head.ensures ∙ c.in-Ok.is in
    let size = length_of_header n c.put.new.header a.body.items (omega (arith, whole)) four h.no_body in
    let old = length_of_header a.have a.header a.body.items (omega (arith, h.less)) c.self.told h.no_body in
    let new = take (a.have + length p) c.put.new.header ++ a.body.items in
    let at : IsHeaderStep c.in-Ok.head c.if-head-eq0.result = elim c.if-head-eq0.branch [
      | then-head-eq0 w ↦ inl (w.if-head-eq0.true, w.result-is)
      | else-head-eq0 w ↦ inr (w.if-head-eq0.false, w.result-is)
    ] in
    let step : step_of_events (last_items a.cap new) ≡ step_of_events (at_head (Ok c.in-Ok.head)) =
    header_step a.cap n c.put.new.header a.body.items whole four h.no_body
    ∙ ap (λ (r : Result Head Code). step_of_events (at_head r)) read in
    subst (λ (v : Cut). IsFed v.cap v.bytes p c.if-head-eq0.result new) c.self.view_is
    (fourth_fed a.cap (take a.have a.header ++ a.body.items) p new c.if-head-eq0.result (omega (arith, old, h.less))
    (bytes_put a.have (length p) a.header c.put.new.header a.body.items p h.no_body c.put.ensures.bytes)
    (omega (arith, size, whole))
    (elim c.if-head-eq0.branch [
      | then-head-eq0 w ↦ step ∙ step_of_events-empty c.in-Ok.head w.if-head-eq0.true ∙ sym w.result-is
      | else-head-eq0 w ↦ step ∙ step_of_events-begun c.in-Ok.head w.if-head-eq0.false ∙ sym w.result-is
    ])
    (header_told a.cap n c.put.new.header a.body.items (Ok c.in-Ok.head) c.if-head-eq0.result whole four h.no_body read
    (told_ok c.in-Ok.head c.if-head-eq0.result at))
    (header_held a.cap n c.put.new.header a.body.items c.in-Ok.head c.if-head-eq0.result whole four h.no_body read at)
    (λ ends. empty_closed a.cap n c.put.new.header a.body.items c.in-Ok.head whole four h.no_body read
    (elim c.if-head-eq0.branch [
      | then-head-eq0 w ↦ w.if-head-eq0.true
      | else-head-eq0 w ↦ absurd (subst IsEnd w.result-is ends)
    ])))
