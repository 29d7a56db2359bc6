-- A wire that accepts all that it is offered has accepted a frame after as many turns as the frame has parts.
use Rattle.std.proofs.Common.{◌≡◌, ℕ, zero, suc, ◌+◌, ◌-◌, ◌<◌, ◌≤◌, ◌⊎◌, Bool, List, [], ◌∷◌, ◌++◌, length}
use Rattle.std.proofs.Common.{take, drop, Option, Some, None, inl, inr, refl, sym, ◌∙◌, ap, subst, arith}
use Rattle.std.proofs.Common.{append_assoc, append-nil, length-append, length-drop}
use Rattle.std.specs.Prelude.{if◌then◌else◌, ◌*◌}
use Rattle.std.proofs.lemmas.Bool.{cases_lt}
use Rattle.std.proofs.Math.Seq.{drop-length}
use Rattle.daide_reader.specs.declared.verdict.Verdict.{Verdict}
use Rattle.daide_reader.specs.declared.verdict.Verdict.TheVariants.{Relay, Prn, Huh}
use Rattle.daide_frame.specs.declared.side.Side.{Side}
use Rattle.daide_frame.specs.declared.side.Side.TheVariants.{Bot, Server}
use Rattle.daide_protocol.specs.Answers.{answer_body, huh_open, err_bytes, close_bytes}
use Rattle.daide_frame.specs.Side.{other}
use Rattle.daide_protocol.specs.Machine.{Sent}
use Rattle.daide_protocol.specs.Wires.{SessionView, queued, parts_of, next_part, parts_after, front_of, no_frame}
use Rattle.daide_protocol.specs.Wires.{without, first_len, sent_to}
use Rattle.daide_protocol.proofs.WireLemmas.{same_self}
use Rattle.daide_channels.specs.Receiver.{parts_by}
use Rattle.daide_channels.specs.Fronts.{AreFresh, ArePartsOf, KeepsFront}
use Rattle.daide_channels.proofs.PartsLemmas.{below}
use Rattle.daide_io.specs.declared.ports.ClockEvent.{ClockEvent}
use Rattle.daide_io.specs.declared.ports.ClockEvent.TheVariants.{NoEvent, ImTimeIsOver, StopIsRequested}
use Rattle.daide_io.specs.declared.ports.Pull.{Pull}
use Rattle.daide_io.specs.declared.ports.Pull.TheVariants.{Got, Idle, Ended}
use Rattle.daide_io.specs.declared.ports.Put.{Put}
use Rattle.daide_io.specs.declared.ports.Put.TheVariants.{Took, Failed}
use Rattle.daide_io.specs.Ports.{PortCall, Offered, taken}
use Rattle.daide_driver.specs.Turn.{Then, Hears, AsksClock, Hands, Puts, Gets, Pulls, Turn}
use Rattle.daide_driver.specs.Due.{AreTurns, TakesAll, EachTakesAll, EachTurnTakesAll, taken_in}
use Rattle.daide_io.proofs.TraceLemmas.{taken-append}
use Rattle.daide_driver.proofs.DueLemmas.{own_taken}

-- ---- parts

-- the parts joined
abbrev whole_of : List (List ℕ) → List ℕ
whole_of [] = []
whole_of (part ∷ parts) = part ++ whole_of parts

-- how many of the parts are not empty
abbrev left_of : List (List ℕ) → ℕ
left_of [] = 0
left_of ([] ∷ parts) = left_of parts
left_of ((byte ∷ part) ∷ parts) = suc (left_of parts)

left-few : (parts : List (List ℕ)) → left_of parts ≤ length parts
left-few [] = omega arith
left-few ([] ∷ parts) = omega (arith, left-few parts)
left-few ((byte ∷ part) ∷ parts) = omega (arith, left-few parts)

none_left : (parts : List (List ℕ)) → left_of parts ≤ 0 → whole_of parts ≡ []
none_left [] h = refl
none_left ([] ∷ parts) h = none_left parts h
none_left ((byte ∷ part) ∷ parts) h = absurd (omega (arith, h))

after_none : (parts : List (List ℕ)) → parts_after 0 parts ≡ parts
after_none [] = refl
after_none (part ∷ parts) =
    let zero_less : 0 - length part ≡ 0 = omega arith in
    ap (λ (rest : List (List ℕ)). part ∷ rest) (ap (λ (n : ℕ). parts_after n parts) zero_less ∙ after_none parts)

drop_empty : (k : ℕ) → ◌≡◌ {A = List ℕ} (drop k []) []
drop_empty zero = refl
drop_empty (suc k) = refl

drop_front : (a b : List ℕ) → drop (length a) (a ++ b) ≡ b
drop_front [] b = refl
drop_front (x ∷ a) b = drop_front a b

-- the next part is sent, and no other
one_gone : (parts : List (List ℕ)) → 0 < length (next_part parts) →
    (suc (left_of (parts_after (length (next_part parts)) parts)) ≤ left_of parts)
    × (whole_of parts ≡ next_part parts ++ whole_of (parts_after (length (next_part parts)) parts))
one_gone [] h = absurd (omega (arith, h))
one_gone ([] ∷ parts) h =
    let n = length (next_part parts) in
    let rest = one_gone parts h in
    let same : parts_after (n - 0) parts ≡ parts_after n parts = ap (λ (k : ℕ). parts_after k parts) (omega arith) in
    let none : ◌≡◌ {A = List ℕ} (drop n []) [] = drop_empty n in (
      subst (λ (ps : List (List ℕ)). suc (left_of ps) ≤ left_of parts)
          (sym (ap (λ (p : List ℕ). p ∷ parts_after (n - 0) parts) none
          ∙ ap (λ (ps : List (List ℕ)). [] ∷ ps) same)) rest.0,
      rest.1 ∙ ap (λ (ps : List (List ℕ)). next_part parts ++ whole_of ps)
          (sym (ap (λ (p : List ℕ). p ∷ parts_after (n - 0) parts) none
          ∙ ap (λ (ps : List (List ℕ)). [] ∷ ps) same)),
    )
one_gone ((byte ∷ part) ∷ parts) h =
    let n = suc (length part) in
    let none : drop n (byte ∷ part) ≡ [] = drop-length (byte ∷ part) in
    let same : parts_after (n - n) parts ≡ parts =
    ap (λ (k : ℕ). parts_after k parts) (omega arith) ∙ after_none parts in
    let after : parts_after n ((byte ∷ part) ∷ parts) ≡ [] ∷ parts =
    ap (λ (p : List ℕ). p ∷ parts_after (n - n) parts) none ∙ ap (λ (ps : List (List ℕ)). [] ∷ ps) same in (
      subst (λ (ps : List (List ℕ)). suc (left_of ps) ≤ suc (left_of parts)) (sym after) (omega arith),
      ap (λ (ps : List (List ℕ)). (byte ∷ part) ++ whole_of ps) (sym after),
    )

-- ---- the rest of a frame

-- n bytes of the first frame are left, in at most k parts
record HasLeft (side : Side) (k n : ℕ) (g : SessionView) : Type 0 where
  frame : Sent
  frames : List Sent
  waits : queued g side ≡ frame ∷ frames
  whole : whole_of (parts_of g side) ≡ frame.bytes
  few : left_of (parts_of g side) ≤ k
  size : length frame.bytes ≡ n

kept_left : (side : Side) (k n : ℕ) (old new : SessionView) (more : List Sent) → queued new side ≡ queued old side ++ more →
    KeepsFront old side new → HasLeft side k n old → HasLeft side k n new
kept_left side k n old new more e kept h =
    let same : parts_of new side ≡ parts_of old side = kept.same (ap no_frame h.waits) in
    record {
      frame = h.frame;
      frames = h.frames ++ more;
      waits = e ∙ ap (λ (w : List Sent). w ++ more) h.waits;
      whole = ap whole_of same ∙ h.whole;
      few = subst (λ (ps : List (List ℕ)). left_of ps ≤ k) (sym same) h.few;
      size = h.size;
    }

same_left : (side : Side) (k n : ℕ) (old new : SessionView) → new ≡ old → HasLeft side k n old → HasLeft side k n new
same_left side k n old new e h = subst (HasLeft side k n) (sym e) h

-- ---- the steps of a turn

-- a step of this kind leaves the rest
abbrev AllLeave : Side → (SessionView → List PortCall → SessionView → Type 0) → Type 0
AllLeave side K = (o : SessionView) (a : List PortCall) (n : SessionView) (k size : ℕ) → K o a n → HasLeft side k size o →
    HasLeft side k size n

-- the wire accepts the rest, or at least one part of it
abbrev Advances : Side → ℕ → ℕ → List PortCall → SessionView → Type 0
Advances side k size trace new =
    (size ≤ length (taken side trace))
    ⊎ ((fewer : ℕ) × (less : ℕ) × (k ≡ suc fewer) × (size ≤ length (taken side trace) + less)
    × HasLeft side fewer less new)

abbrev AllAdvance : Side → (SessionView → List PortCall → SessionView → Type 0) → Type 0
AllAdvance side K = (o : SessionView) (a : List PortCall) (n : SessionView) (k size : ℕ) → K o a n → EachTakesAll side a →
    HasLeft side k size o → Advances side k size a n

clock_leaves : (side : Side) → AllLeave side AsksClock
clock_leaves side old trace new k size h left = go h.0 h.2
  where
    go : (event : ClockEvent) → Hears event old new → HasLeft side k size new
    go NoEvent heard = same_left side k size old new heard left
    go ImTimeIsOver heard =
        kept_left side k size old new (sent_to side heard.0.1.effects) (heard.0.1.kept side) (heard.1 side) left
    go StopIsRequested heard =
        kept_left side k size old new (sent_to side heard.0.1.effects) (heard.0.1.kept side) (heard.1 side) left

gets_leaves : (side from : Side) (pull : Pull) (bytes : List ℕ) (old new : SessionView) (k size : ℕ) →
    Gets from pull bytes old new → HasLeft side k size old → HasLeft side k size new
gets_leaves side from (Got n) bytes old new k size g left =
    kept_left side k size old new (sent_to side g.0.1.effects) (g.0.1.kept side) (g.1 side) left
gets_leaves side from Idle bytes old new k size g left = same_left side k size old new g left
gets_leaves side from Ended bytes old new k size g left =
    kept_left side k size old new (sent_to side g.0.1.effects) (g.0.1.kept side) (g.1 side) left

pull_leaves : (side from : Side) → AllLeave side (Pulls from)
pull_leaves side from old trace new k size (inl h) left = same_left side k size old new h.2 left
pull_leaves side from old trace new k size (inr h) left =
    gets_leaves side from h.pull h.bytes old new k size h.gets left

hands_leaves : (side : Side) (put : Put) (old new : SessionView) (k size : ℕ) → Hands (other side) put old new →
    HasLeft side k size old → HasLeft side k size new
hands_leaves Bot (Took n) old new k size h left =
    kept_left Bot k size old new [] (h.0.other_wire ∙ sym (append-nil (queued old Bot))) h.2 left
hands_leaves Server (Took n) old new k size h left =
    kept_left Server k size old new [] (h.0.other_wire ∙ sym (append-nil (queued old Server))) h.2 left
hands_leaves Bot Failed old new k size h left =
    kept_left Bot k size old new (sent_to Bot h.0.effects) h.0.other_wire h.1 left
hands_leaves Server Failed old new k size h left =
    kept_left Server k size old new (sent_to Server h.0.effects) h.0.other_wire h.1 left

beside_leaves : (side : Side) → AllLeave side (Puts (other side))
beside_leaves side old trace new k size (inl h) left = same_left side k size old new h.2 left
beside_leaves side old trace new k size (inr h) left = hands_leaves side h.put old new k size h.hands left

-- this wire accepts the whole front
own_hands : (side : Side) (put : Put) (old new : SessionView) (k size : ℕ) → 0 < length (front_of old side) →
    Hands side put old new → TakesAll side (Offered side (front_of old side) put) → HasLeft side k size old →
    Advances side k size (Offered side (front_of old side) put ∷ []) new
own_hands side Failed old new k size some h all left = absurd (all (same_self side))
own_hands side (Took n) old new k size some h all left = go (cases_lt n (length left.frame.bytes))
  where
    front : n ≡ length (front_of old side)
    front = all (same_self side)

    gone : (suc (left_of (parts_after (length (front_of old side)) (parts_of old side))) ≤ left_of (parts_of old side))
        × (whole_of (parts_of old side)
        ≡ front_of old side ++ whole_of (parts_after (length (front_of old side)) (parts_of old side)))
    gone = one_gone (parts_of old side) some

    taken_n : length (taken side (Offered side (front_of old side) (Took n) ∷ [])) ≡ n
    taken_n = own_taken side (front_of old side) n (omega (arith, front))

    go : (n < length left.frame.bytes) ⊎ (length left.frame.bytes ≤ n) →
        Advances side k size (Offered side (front_of old side) (Took n) ∷ []) new
    go (inr all_gone) = inl (omega (arith, taken_n, all_gone, left.size))
    go (inl less) = inr (fewer k left.few gone.0)
      where
        after : parts_of new side ≡ parts_after (length (front_of old side)) (parts_of old side)
        after = h.1.rest (subst (λ (w : List Sent). n < first_len w) (sym left.waits) less)
            ∙ ap (λ (m : ℕ). parts_after m (parts_of old side)) front

        bytes_left : whole_of (parts_of new side) ≡ drop n left.frame.bytes
        bytes_left =
            let whole : left.frame.bytes ≡ front_of old side ++ whole_of (parts_of new side) =
            sym left.whole ∙ (gone.1 ∙ ap (λ (ps : List (List ℕ)). front_of old side ++ whole_of ps) (sym after)) in
            sym (ap (drop n) whole ∙ ap (λ (m : ℕ). drop m (front_of old side ++ whole_of (parts_of new side))) front
            ∙ drop_front (front_of old side) (whole_of (parts_of new side)))

        rest : Sent
        rest = record { to = left.frame.to; answers = left.frame.answers; bytes = drop n left.frame.bytes }

        fewer : (m : ℕ) → left_of (parts_of old side) ≤ m →
            suc (left_of (parts_after (length (front_of old side)) (parts_of old side))) ≤ left_of (parts_of old side) →
            (j : ℕ) × (still : ℕ) × (m ≡ suc j)
            × (size ≤ length (taken side (Offered side (front_of old side) (Took n) ∷ [])) + still)
            × HasLeft side j still new
        fewer zero few down = absurd (omega (arith, few, down))
        fewer (suc j) few down = (
          j,
          length (drop n left.frame.bytes),
          refl,
          omega (arith, taken_n, left.size, less, length-drop n left.frame.bytes),
          record {
            frame = rest;
            frames = left.frames;
            waits = h.0.taken ∙ (ap (without n) left.waits
                ∙ ap (λ (b : Bool). if b then rest ∷ left.frames else left.frames)
                (below n (length left.frame.bytes) less));
            whole = bytes_left;
            few = subst (λ (ps : List (List ℕ)). left_of ps ≤ j) (sym after) (omega (arith, few, down));
            size = refl;
          },
        )

own_advances : (side : Side) → AllAdvance side (Puts side)
own_advances side old trace new k size (inl h) all left =
    absurd (some_waits left.frame left.frames (sym left.waits ∙ h.0))
  where
    some_waits : (frame : Sent) (frames : List Sent) → ◌≡◌ {A = List Sent} (frame ∷ frames) [] → ⊥
    some_waits frame frames e = absurd (cc)
own_advances side old trace new k size (inr h) all left =
    let each = subst (EachTakesAll side) h.asked all in
    subst (λ (a : List PortCall). Advances side k size a new) (sym h.asked)
    (own_hands side h.put old new k size h.filled h.hands each.0 left)

-- ---- one trace, and then another

split : (side : Side) (a b : List PortCall) → EachTakesAll side (a ++ b) → EachTakesAll side a × EachTakesAll side b
split side [] b h = (tt, h)
split side (x ∷ a) b h = let r = split side a b h.1 in ((h.0, r.0), r.1)

more_taken : (side : Side) (a b : List PortCall) →
    length (taken side (a ++ b)) ≡ length (taken side a) + length (taken side b)
more_taken side a b = ap length (taken-append side a b) ∙ length-append (taken side a) (taken side b)

module _ (side : Side) (First Second : SessionView → List PortCall → SessionView → Type 0) where
  both_leave : AllLeave side First → AllLeave side Second → AllLeave side (Then First Second)
  both_leave f g o a n k size t left = g t.0 t.2 n k size t.5 (f o t.1 t.0 k size t.4 left)

  then_advances : AllLeave side First → AllAdvance side Second → AllAdvance side (Then First Second)
  then_advances f g o a n k size t all left =
      let r = split side t.1 t.2 (subst (EachTakesAll side) t.3 all) in
      subst (λ (x : List PortCall). Advances side k size x n) (sym t.3)
      (go (g t.0 t.2 n k size t.5 r.1 (f o t.1 t.0 k size t.4 left)))
    where
      go : Advances side k size t.2 n → Advances side k size (t.1 ++ t.2) n
      go (inl done) = inl (omega (arith, done, more_taken side t.1 t.2))
      go (inr p) = inr (p.0, p.1, p.2, (let few = p.3 in omega (arith, few, more_taken side t.1 t.2)), p.4)

  advances_then : AllAdvance side First → AllLeave side Second → AllAdvance side (Then First Second)
  advances_then f g o a n k size t all left =
      let r = split side t.1 t.2 (subst (EachTakesAll side) t.3 all) in
      subst (λ (x : List PortCall). Advances side k size x n) (sym t.3)
      (go (f o t.1 t.0 k size t.4 r.0 left))
    where
      go : Advances side k size t.1 t.0 → Advances side k size (t.1 ++ t.2) n
      go (inl done) = inl (omega (arith, done, more_taken side t.1 t.2))
      go (inr p) = inr (
        p.0,
        p.1,
        p.2,
        (let few = p.3 in omega (arith, few, more_taken side t.1 t.2)),
        g t.0 t.2 n p.0 p.1 t.5 p.4,
      )

-- ---- a turn

pulls_leave : (side : Side) → AllLeave side (Then (Pulls Bot) (Pulls Server))
pulls_leave side = both_leave side (Pulls Bot) (Pulls Server) (pull_leaves side Bot) (pull_leaves side Server)

turn_advances : (side : Side) → AllAdvance side Turn
turn_advances Bot =
    then_advances Bot AsksClock (Then (Puts Bot) (Then (Puts Server) (Then (Pulls Bot) (Pulls Server))))
    (clock_leaves Bot)
    (advances_then Bot (Puts Bot) (Then (Puts Server) (Then (Pulls Bot) (Pulls Server))) (own_advances Bot)
    (both_leave Bot (Puts Server) (Then (Pulls Bot) (Pulls Server)) (beside_leaves Bot) (pulls_leave Bot)))
turn_advances Server =
    then_advances Server AsksClock (Then (Puts Bot) (Then (Puts Server) (Then (Pulls Bot) (Pulls Server))))
    (clock_leaves Server)
    (then_advances Server (Puts Bot) (Then (Puts Server) (Then (Pulls Bot) (Pulls Server))) (beside_leaves Server)
    (advances_then Server (Puts Server) (Then (Pulls Bot) (Pulls Server)) (own_advances Server) (pulls_leave Server)))

-- ---- turns in a row

part_by_part : (side : Side) (turns : List (List PortCall)) (old new : SessionView) (k size : ℕ) →
    AreTurns old turns new → EachTurnTakesAll side turns → HasLeft side k size old → k ≤ length turns →
    size ≤ length (taken_in side turns)
part_by_part side [] old new k size are all left enough =
    let none = none_left (parts_of old side) (let few = left.few in omega (arith, few, enough)) in
    omega (arith, left.size, ap length (sym left.whole ∙ none))
part_by_part side (trace ∷ turns) old new k size are all left enough =
    go (turn_advances side old trace are.0 k size are.1 all.0 left)
    (λ j still rest few. part_by_part side turns are.0 new j still are.2 all.1 rest few)
  where
    sum : length (taken side trace ++ taken_in side turns) ≡ length (taken side trace) + length (taken_in side turns)
    sum = length-append (taken side trace) (taken_in side turns)

    go : Advances side k size trace are.0 → ((j still : ℕ) → HasLeft side j still are.0 → j ≤ length turns →
        still ≤ length (taken_in side turns)) → size ≤ length (taken side trace ++ taken_in side turns)
    go (inl done) on = omega (arith, done, sum)
    go (inr p) on =
        let later = on p.0 p.1 p.4 (let one = p.2 in omega (arith, one, enough)) in
        let few = p.3 in
        omega (arith, few, later, sum)

-- ---- an unsent frame

answer_whole : (header body : List ℕ) (verdict : Verdict) →
    whole_of (parts_by header body (Some verdict)) ≡ header ++ answer_body body verdict
answer_whole header body Relay = ap (λ (xs : List ℕ). header ++ xs) (append-nil body)
answer_whole header body Prn = refl
answer_whole header body (Huh place) =
    ap (λ (xs : List ℕ). header ++ (huh_open ++ xs))
    (sym (append_assoc (take (2 * place) body ++ err_bytes) (drop (2 * place) body) close_bytes
    ∙ append_assoc (take (2 * place) body) err_bytes (drop (2 * place) body ++ close_bytes)))

six_parts : (header body : List ℕ) (verdict : Verdict) → length (parts_by header body (Some verdict)) ≤ 6
six_parts header body Relay = omega arith
six_parts header body Prn = omega arith
six_parts header body (Huh place) = omega arith

fresh_left : (side : Side) (g : SessionView) (frame : Sent) (frames : List Sent) (from : Option Side) →
    queued g side ≡ frame ∷ frames → frame.answers ≡ from → ArePartsOf from (parts_of g side) frame →
    HasLeft side 6 (length frame.bytes) g
fresh_left side g frame frames None waits is parts = record {
  frame = frame;
  frames = frames;
  waits = waits;
  whole = ap whole_of parts ∙ append-nil frame.bytes;
  few = (let few = left-few (parts_of g side) in let size = ap length parts in omega (arith, few, size));
  size = refl;
}
fresh_left side g frame frames (Some from) waits is parts = record {
  frame = frame;
  frames = frames;
  waits = waits;
  whole = ap whole_of parts.cut ∙ (answer_whole parts.header parts.body parts.verdict ∙ sym parts.whole);
  few = (
      let few = left-few (parts_of g side) in
      let size = ap length parts.cut in
      let six = six_parts parts.header parts.body parts.verdict in
      omega (arith, few, size, six)
      );
  size = refl;
}

pub frames_gone : (side : Side) (turns : List (List PortCall)) (old new : SessionView) → AreTurns old turns new →
    EachTurnTakesAll side turns → AreFresh (parts_of old side) (queued old side) → 6 ≤ length turns →
    first_len (queued old side) ≤ length (taken_in side turns)
frames_gone side turns old new are all fresh enough = go (queued old side) refl fresh
  where
    go : (w : List Sent) → queued old side ≡ w → AreFresh (parts_of old side) w →
        first_len w ≤ length (taken_in side turns)
    go [] e h = omega arith
    go (frame ∷ frames) e h =
        part_by_part side turns old new 6 (length frame.bytes) are all
        (fresh_left side old frame frames frame.answers e refl h) enough
