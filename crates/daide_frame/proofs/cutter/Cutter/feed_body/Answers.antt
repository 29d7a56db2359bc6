use Rattle.std.proofs.Common.{◌≡◌, ◌≤◌, ◌++◌, length, take, Option, Some, None, vec_len, sym, ap, ◌∙◌, subst, inl, inr}
use Rattle.std.proofs.Common.{arith, length-append}
use Rattle.daide_frame.proofs.Common.{Head, InvalidToken, Fault, IsFed}
use Rattle.daide_frame.specs.Frames.{Cut, missing, missing_of_body, alien_in}
use Rattle.daide_frame.proofs.CutterLemmas.{whole_header, missing-body}
use Rattle.daide_frame.proofs.FeedingLemmas.{not_empty, ready, known_front, fed_wrong, fed_right, consistent_wrong}
use Rattle.daide_frame.proofs.FeedingLemmas.{consistent_right}
use Rattle.daide_frame.proofs.cutter.Cutter.feed_body.Goals.{then-len-from, else-len-from}
use Rattle.daide_frame.proofs.cutter.Cutter.feed_body.Goals as goal

pub unreachable-requires : goal.unreachable-requires
unreachable-requires g c =
    let a = c.self.inside in
    let i = c.self.invariant in
    let whole = whole_header a.cap a.have a.header a.head a.is_faulty a.body.items _ i
    (subst (λ (v : Cut). 4 ≤ length v.bytes) (sym c.self.view_is) c.requires.header) in
    let left : missing c.args.self.now.cap c.args.self.now.bytes ≡ 0 =
    ap (λ (v : Cut). missing v.cap v.bytes) (sym c.self.view_is)
    ∙ missing-body a.cap a.have a.header a.head a.body.items whole i.four i.read
    ∙ ap (λ (o : Option Head). missing_of_body o a.body.items) c.in_default.is in
    let filled = not_empty (length c.args.piece.now) (sym c.is_empty.ensures ∙ c.if-is_empty.false) in
    omega (arith, left, filled, c.requires.room)

pub unwrap-requires : goal.unwrap-requires
unwrap-requires g c =
    let a = c.self.inside in
    let p = c.args.piece.now in
    let r = ready a.cap a.have a.header a.head a.is_faulty a.body.items _ c.args.piece.now c.in-Some.head
    c.self.invariant c.in-Some.is (subst (λ (v : Cut). 4 ≤ length v.bytes) (sym c.self.view_is) c.requires.header)
    (not_empty (length c.args.piece.now) (sym c.is_empty.ensures ∙ c.if-is_empty.false))
    (subst (λ (v : Cut). length c.args.piece.now ≤ missing v.cap v.bytes)
    (sym c.self.view_is) c.requires.room) in
    c.extend_from_slice.ensures.succeeds
    (omega (arith, r.fits, r.lawful.within, r.reserved, a.body.ok.0, length-append a.body.items p))

pub alien_end-requires-clause-within : goal.alien_end-requires-clause-within
alien_end-requires-clause-within g c =
    let a = c.self.inside in
    let p = c.args.piece.now in
    let r = ready a.cap a.have a.header a.head a.is_faulty a.body.items _ c.args.piece.now c.in-Some.head
    c.self.invariant c.in-Some.is (subst (λ (v : Cut). 4 ≤ length v.bytes) (sym c.self.view_is) c.requires.header)
    (not_empty (length c.args.piece.now) (sym c.is_empty.ensures ∙ c.if-is_empty.false))
    (subst (λ (v : Cut). length c.args.piece.now ≤ missing v.cap v.bytes)
    (sym c.self.view_is) c.requires.room) in
    let after : c.extend_from_slice.new.self.items ≡ a.body.items ++ p =
    rw c.unwrap.ensures at c.extend_from_slice.ensures.items in
    omega (arith, r.fits, ap length (c.deref.ensures.value ∙ after))

pub alien_end-requires-clause-looked_at : goal.alien_end-requires-clause-looked_at
alien_end-requires-clause-looked_at g c =
    let a = c.self.inside in
    let p = c.args.piece.now in
    let r = ready a.cap a.have a.header a.head a.is_faulty a.body.items _ c.args.piece.now c.in-Some.head
    c.self.invariant c.in-Some.is (subst (λ (v : Cut). 4 ≤ length v.bytes) (sym c.self.view_is) c.requires.header)
    (not_empty (length c.args.piece.now) (sym c.is_empty.ensures ∙ c.if-is_empty.false))
    (subst (λ (v : Cut). length c.args.piece.now ≤ missing v.cap v.bytes)
    (sym c.self.view_is) c.requires.room) in
    let after : c.extend_from_slice.new.self.items ≡ a.body.items ++ p =
    rw c.unwrap.ensures at c.extend_from_slice.ensures.items in
    known_front c.in-Some.head a.body.items p _ _ r.no_alien r.fits (c.deref.ensures.value ∙ after)
    (omega (arith, a.body.ok.0, c.len-known.ensures))

pub invariant_of-self : goal.invariant_of-self
invariant_of-self g c =
    let a = c.self.inside in
    let p = c.args.piece.now in
    let r = ready a.cap a.have a.header a.head a.is_faulty a.body.items _ c.args.piece.now c.in-Some.head
    c.self.invariant c.in-Some.is (subst (λ (v : Cut). 4 ≤ length v.bytes) (sym c.self.view_is) c.requires.header)
    (not_empty (length c.args.piece.now) (sym c.is_empty.ensures ∙ c.if-is_empty.false))
    (subst (λ (v : Cut). length c.args.piece.now ≤ missing v.cap v.bytes)
    (sym c.self.view_is) c.requires.room) in
    let after : c.extend_from_slice.new.self.items ≡ a.body.items ++ p =
    rw c.unwrap.ensures at c.extend_from_slice.ensures.items in
    let found : alien_in c.in-Some.head (a.body.items ++ p) ≡ Some c.in-Some-alien_end.end =
    ap (alien_in c.in-Some.head) (sym (c.deref.ensures.value ∙ after)) ∙ sym c.alien_end.ensures
    ∙ c.in-Some-alien_end.is in
    consistent_wrong a.cap a.have a.header a.head a.is_faulty a.body.items _ p c.in-Some.head c.in-Some-alien_end.end
    c.truncate.new.self.items _ r c.in-Some.is found (c.truncate.ensures.items
    ∙ ap (take c.in-Some-alien_end.end) after)
    (omega (arith, r.reserved, c.extend_from_slice.ensures.capacity, c.truncate.ensures.capacity))

pub returns-in-Some-alien_end-clause-fed : goal.returns-in-Some-alien_end-clause-fed
returns-in-Some-alien_end-clause-fed g c =
    let a = c.self.inside in
    let p = c.args.piece.now in
    let r = ready a.cap a.have a.header a.head a.is_faulty a.body.items _ c.args.piece.now c.in-Some.head
    c.self.invariant c.in-Some.is (subst (λ (v : Cut). 4 ≤ length v.bytes) (sym c.self.view_is) c.requires.header)
    (not_empty (length c.args.piece.now) (sym c.is_empty.ensures ∙ c.if-is_empty.false))
    (subst (λ (v : Cut). length c.args.piece.now ≤ missing v.cap v.bytes)
    (sym c.self.view_is) c.requires.room) in
    let after : c.extend_from_slice.new.self.items ≡ a.body.items ++ p =
    rw c.unwrap.ensures at c.extend_from_slice.ensures.items in
    let found : alien_in c.in-Some.head (a.body.items ++ p) ≡ Some c.in-Some-alien_end.end =
    ap (alien_in c.in-Some.head) (sym (c.deref.ensures.value ∙ after)) ∙ sym c.alien_end.ensures
    ∙ c.in-Some-alien_end.is in
    subst (λ (v : Cut). IsFed v.cap v.bytes p (Fault InvalidToken) (take a.have a.header ++ c.truncate.new.self.items))
    c.self.view_is
    (fed_wrong a.cap a.have a.header a.is_faulty a.body.items _ p c.in-Some.head c.in-Some-alien_end.end
    c.truncate.new.self.items r found (c.truncate.ensures.items ∙ ap (take c.in-Some-alien_end.end) after))

pub invariant_of-self-2 : goal.invariant_of-self-2
invariant_of-self-2 g c =
    let a = c.self.inside in
    let p = c.args.piece.now in
    let r = ready a.cap a.have a.header a.head a.is_faulty a.body.items _ c.args.piece.now c.in-Some.head
    c.self.invariant c.in-Some.is (subst (λ (v : Cut). 4 ≤ length v.bytes) (sym c.self.view_is) c.requires.header)
    (not_empty (length c.args.piece.now) (sym c.is_empty.ensures ∙ c.if-is_empty.false))
    (subst (λ (v : Cut). length c.args.piece.now ≤ missing v.cap v.bytes)
    (sym c.self.view_is) c.requires.room) in
    let after : c.extend_from_slice.new.self.items ≡ a.body.items ++ p =
    rw c.unwrap.ensures at c.extend_from_slice.ensures.items in
    let none : alien_in c.in-Some.head (a.body.items ++ p) ≡ None =
    ap (alien_in c.in-Some.head) (sym (c.deref.ensures.value ∙ after)) ∙ sym c.alien_end.ensures
    ∙ c.in_default-alien_end.is in
    consistent_right a.cap a.have a.header a.head a.is_faulty a.body.items _ p c.in-Some.head
    c.extend_from_slice.new.self.items _ r c.in-Some.is none after
    (omega (arith, r.reserved, c.extend_from_slice.ensures.capacity))

pub returns-clause-fed : goal.returns-clause-fed
returns-clause-fed g c =
    let a = c.self.inside in
    let p = c.args.piece.now in
    let r = ready a.cap a.have a.header a.head a.is_faulty a.body.items _ c.args.piece.now c.in-Some.head
    c.self.invariant c.in-Some.is (subst (λ (v : Cut). 4 ≤ length v.bytes) (sym c.self.view_is) c.requires.header)
    (not_empty (length c.args.piece.now) (sym c.is_empty.ensures ∙ c.if-is_empty.false))
    (subst (λ (v : Cut). length c.args.piece.now ≤ missing v.cap v.bytes)
    (sym c.self.view_is) c.requires.room) in
    let after : c.extend_from_slice.new.self.items ≡ a.body.items ++ p =
    rw c.unwrap.ensures at c.extend_from_slice.ensures.items in
    let none : alien_in c.in-Some.head (a.body.items ++ p) ≡ None =
    ap (alien_in c.in-Some.head) (sym (c.deref.ensures.value ∙ after)) ∙ sym c.alien_end.ensures
    ∙ c.in_default-alien_end.is in
    let size : vec_len c.extend_from_slice.new.self ≡ length (a.body.items ++ p) =
    sym c.deref.ensures.len ∙ ap length (c.deref.ensures.value ∙ after) in
    subst (λ (v : Cut). IsFed v.cap v.bytes p c.if-len-from.result
    (take a.have a.header ++ c.extend_from_slice.new.self.items)) c.self.view_is
    (fed_right a.cap a.have a.header a.is_faulty a.body.items _ p c.in-Some.head c.if-len-from.result
    c.extend_from_slice.new.self.items r none after (elim c.if-len-from.branch [
      | then-len-from w ↦ inl (sym size ∙ sym c.len.ensures ∙ w.if-len-from.true ∙ c.from.ensures, w.result-is)
      | else-len-from w ↦ inr (λ h. w.if-len-from.false (c.len.ensures ∙ size ∙ h ∙ sym c.from.ensures), w.result-is)
    ]))
