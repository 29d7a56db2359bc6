-- A turn sends at least one byte if one is queued, and loses none.
use Rattle.std.proofs.Common.{◌≡◌, ℕ, ◌+◌, ◌<◌, ◌≤◌, min, List, [], ◌∷◌, ◌++◌, length, take}
use Rattle.std.proofs.Common.{inl, inr, sym, ◌∙◌, ap, subst, arith, length-append, length-take, length-drop}
use Rattle.std.proofs.Common.{append-nil}
use Rattle.std.proofs.lemmas.Bool.{cases_lt}
use Rattle.daide_frame.specs.declared.side.Side.{Side}
use Rattle.daide_frame.specs.declared.side.Side.TheVariants.{Bot, Server}
use Rattle.daide_frame.specs.Side.{other}
use Rattle.daide_protocol.specs.Events.{Event}
use Rattle.daide_protocol.specs.Machine.{Sent}
use Rattle.daide_protocol.specs.Wires.{SessionView, queued, sent_to, sent_bytes, front_of}
use Rattle.daide_protocol.proofs.WireLemmas.{same_self, sent_bytes-append}
use Rattle.daide_io.specs.declared.ports.ClockEvent.{ClockEvent}
use Rattle.daide_io.specs.declared.ports.ClockEvent.TheVariants.{NoEvent, ImTimeIsOver, StopIsRequested}
use Rattle.daide_io.specs.declared.ports.Pull.{Pull}
use Rattle.daide_io.specs.declared.ports.Pull.TheVariants.{Got, Idle, Ended}
use Rattle.daide_io.specs.declared.ports.Put.{Put}
use Rattle.daide_io.specs.declared.ports.Put.TheVariants.{Took, Failed}
use Rattle.daide_io.specs.Ports.{PortCall, Clock, Offered, taken, IsPutWithin}
use Rattle.daide_io.proofs.TraceLemmas.{taken-append}
use Rattle.daide_driver.specs.Turn.{Then, AdvancesByEvents, Hears, AsksClock, Hands, Puts, Gets}
use Rattle.daide_driver.specs.Turn.{Pulls, Turn}
use Rattle.daide_driver.specs.Due.{AreTurns, TakesSome, EachTakesSome, EachTurnTakesSome, taken_in}

-- ---- traces joined

split : (side : Side) (a b : List PortCall) → EachTakesSome side (a ++ b) →
    EachTakesSome side a × EachTakesSome side b
split side [] b h = (tt, h)
split side (x ∷ a) b h = let r = split side a b h.1 in ((h.0, r.0), r.1)

-- how many bytes are queued for the wire of this side
abbrev due : SessionView → Side → ℕ
due g side = length (sent_bytes (queued g side))

-- no byte is lost
abbrev Keeps : Side → SessionView → List PortCall → SessionView → Type 0
Keeps side old trace new = due old side ≤ length (taken side trace) + due new side

-- if neither of two traces loses a byte, the joined trace loses none
then_keeps : (side : Side) (a b : List PortCall) (old mid new : SessionView) → Keeps side old a mid →
    Keeps side mid b new →
    Keeps side old (a ++ b) new
then_keeps side a b old mid new h k =
    omega (arith, h, k, ap length (taken-append side a b), length-append (taken side a) (taken side b))

-- ---- the steps of a turn

-- no byte was accepted
none_taken : (a b : ℕ) → a ≤ b → a ≤ 0 + b
none_taken a b h = omega arith

same_due : (side : Side) (old new : SessionView) → new ≡ old → due old side ≤ due new side
same_due side old new e = subst (λ (g : SessionView). due old side ≤ due g side) (sym e) (omega arith)

more_due : (side : Side) (old new : SessionView) (more : List Sent) → queued new side ≡ queued old side ++ more →
    due old side ≤ due new side
more_due side old new more e =
    omega (
      arith,
      ap (λ (frames : List Sent). length (sent_bytes frames)) e,
      ap length (sent_bytes-append (queued old side) more),
      length-append (sent_bytes (queued old side)) (sent_bytes more),
    )

goes_due : (side : Side) (events : List Event) (old new : SessionView) → AdvancesByEvents old events new → due old side ≤ due new side
goes_due side events old new g = more_due side old new (sent_to side g.1.effects) (g.1.kept side)

clock_keeps : (side : Side) (old : SessionView) (trace : List PortCall) (new : SessionView) → AsksClock old trace new →
    Keeps side old trace new
clock_keeps side old trace new h = subst (λ (a : List PortCall). Keeps side old a new) (sym h.1) (go h.0 h.2)
  where
    go : (event : ClockEvent) → Hears event old new → Keeps side old (Clock event ∷ []) new
    go NoEvent k = none_taken (due old side) (due new side) (same_due side old new k)
    go ImTimeIsOver k = none_taken (due old side) (due new side) (goes_due side _ old new k.0)
    go StopIsRequested k = none_taken (due old side) (due new side) (goes_due side _ old new k.0)

gets_due : (side from : Side) (pull : Pull) (bytes : List ℕ) (old new : SessionView) → Gets from pull bytes old new →
    due old side ≤ due new side
gets_due side from (Got n) bytes old new g = goes_due side _ old new g.0
gets_due side from Idle bytes old new g = same_due side old new g
gets_due side from Ended bytes old new g = goes_due side _ old new g.0

pull_keeps : (side from : Side) (old : SessionView) (trace : List PortCall) (new : SessionView) →
    Pulls from old trace new →
    Keeps side old trace new
pull_keeps side from old trace new (inl h) =
    subst (λ (a : List PortCall). Keeps side old a new) (sym h.1)
    (none_taken (due old side) (due new side) (same_due side old new h.2))
pull_keeps side from old trace new (inr h) =
    subst (λ (a : List PortCall). Keeps side old a new) (sym h.asked)
    (none_taken (due old side) (due new side) (gets_due side from h.pull h.bytes old new h.gets))

-- a put to the other wire
beside_hands : (side : Side) (old new : SessionView) (bytes : List ℕ) (put : Put) → Hands (other side) put old new →
    Keeps side old (Offered (other side) bytes put ∷ []) new
beside_hands Bot old new bytes (Took n) k =
    none_taken (due old Bot) (due new Bot) (more_due Bot old new [] (k.0.other_wire ∙ sym (append-nil
    (queued old Bot))))
beside_hands Server old new bytes (Took n) k =
    none_taken (due old Server) (due new Server) (more_due Server old new [] (k.0.other_wire ∙ sym (append-nil
    (queued old Server))))
beside_hands Bot old new bytes Failed k =
    none_taken (due old Bot) (due new Bot) (more_due Bot old new (sent_to Bot k.0.effects) k.0.other_wire)
beside_hands Server old new bytes Failed k =
    none_taken (due old Server) (due new Server) (more_due Server old new (sent_to Server k.0.effects) k.0.other_wire)

put_beside : (side : Side) (old : SessionView) (trace : List PortCall) (new : SessionView) →
    Puts (other side) old trace new → Keeps side old trace new
put_beside side old trace new (inl h) =
    subst (λ (a : List PortCall). Keeps side old a new) (sym h.1)
    (none_taken (due old side) (due new side) (same_due side old new h.2))
put_beside side old trace new (inr h) =
    subst (λ (a : List PortCall). Keeps side old a new) (sym h.asked)
    (beside_hands side old new (front_of old (other side)) h.put h.hands)

-- a put to this wire sends something if something is queued
abbrev Gains : Side → SessionView → List PortCall → SessionView → Type 0
Gains side old trace new = 0 < due old side → 0 < length (taken side trace)

pub own_taken : (side : Side) (bytes : List ℕ) (n : ℕ) → n ≤ length bytes →
    length (taken side (Offered side bytes (Took n) ∷ [])) ≡ n
own_taken side bytes n h =
    rw (same_self side) (omega (arith, length-append (take n bytes) [], length-take n bytes, h))

own_hands : (side : Side) (old new : SessionView) (bytes : List ℕ) (put : Put) → IsPutWithin put (length bytes) →
    Hands side put old new → TakesSome side (Offered side bytes put) →
    Keeps side old (Offered side bytes put ∷ []) new × Gains side old (Offered side bytes put ∷ []) new
own_hands side old new bytes (Took n) within k some =
    let took_n = own_taken side bytes n within in (
      omega (arith, took_n, ap length k.0.front_bytes, length-drop n (sent_bytes (queued old side))),
      λ d. omega (arith, took_n, some (same_self side)),
    )
own_hands side old new bytes Failed within k some = absurd (some (same_self side))

put_own : (side : Side) (old : SessionView) (trace : List PortCall) (new : SessionView) → Puts side old trace new →
    EachTakesSome side trace → Keeps side old trace new × Gains side old trace new
put_own side old trace new (inl h) some = (
  subst (λ (a : List PortCall). Keeps side old a new) (sym h.1)
      (none_taken (due old side) (due new side) (same_due side old new h.2)),
  λ d. absurd (omega (arith, d, ap (λ (frames : List Sent). length (sent_bytes frames)) h.0)),
)
put_own side old trace new (inr h) some =
    let front = front_of old side in
    let each = subst (EachTakesSome side) h.asked some in
    let own = own_hands side old new front h.put h.within h.hands each.0 in (
      subst (λ (a : List PortCall). Keeps side old a new) (sym h.asked) own.0,
      subst (λ (a : List PortCall). Gains side old a new) (sym h.asked) own.1,
    )

-- ---- one trace, and then another

-- steps of a kind in which the wire accepts something at each put lose nothing
abbrev AllKeep : Side → (SessionView → List PortCall → SessionView → Type 0) → Type 0
AllKeep side K = (o : SessionView) (a : List PortCall) (n : SessionView) → K o a n → EachTakesSome side a → Keeps side o a n

abbrev AllGain : Side → (SessionView → List PortCall → SessionView → Type 0) → Type 0
AllGain side K = (o : SessionView) (a : List PortCall) (n : SessionView) → K o a n → EachTakesSome side a → Gains side o a n

module _ (side : Side) (First Second : SessionView → List PortCall → SessionView → Type 0) where
  both_keep : AllKeep side First → AllKeep side Second → AllKeep side (Then First Second)
  both_keep f g o a n t some =
      let r = split side t.1 t.2 (subst (EachTakesSome side) t.3 some) in
      subst (λ (x : List PortCall). Keeps side o x n) (sym t.3)
      (then_keeps side t.1 t.2 o t.0 n (f o t.1 t.0 t.4 r.0) (g t.0 t.2 n t.5 r.1))

  first_gains : AllGain side First → AllGain side (Then First Second)
  first_gains f o a n t some d =
      let r = split side t.1 t.2 (subst (EachTakesSome side) t.3 some) in
      let gain = f o t.1 t.0 t.4 r.0 d in
      omega (
        arith,
        gain,
        ap (λ (x : List PortCall). length (taken side x)) t.3,
        ap length (taken-append side t.1 t.2),
        length-append (taken side t.1) (taken side t.2),
      )

  second_gains : AllKeep side First → AllGain side Second → AllGain side (Then First Second)
  second_gains f g o a n t some d =
      let r = split side t.1 t.2 (subst (EachTakesSome side) t.3 some) in
      let kept = f o t.1 t.0 t.4 r.0 in
      let all : length (taken side a) ≡ length (taken side t.1) + length (taken side t.2) =
      ap (λ (x : List PortCall). length (taken side x)) t.3 ∙ ap length (taken-append side t.1 t.2)
      ∙ length-append (taken side t.1) (taken side t.2) in
      elim (cases_lt 0 (due t.0 side)) [
        | inl more ↦ (let gain = g t.0 t.2 n t.5 r.1 more in omega (arith, gain, all))
        | inr none ↦ omega (arith, kept, all, none, d)
      ]

-- ---- a turn

clock_all : (side : Side) → AllKeep side AsksClock
clock_all side o a n h some = clock_keeps side o a n h

pulls_all : (side from : Side) → AllKeep side (Pulls from)
pulls_all side from o a n h some = pull_keeps side from o a n h

own_all : (side : Side) → AllKeep side (Puts side)
own_all side o a n h some = (put_own side o a n h some).0

own_gain : (side : Side) → AllGain side (Puts side)
own_gain side o a n h some = (put_own side o a n h some).1

beside_all : (side : Side) → AllKeep side (Puts (other side))
beside_all side o a n h some = put_beside side o a n h

pulls_keep : (side : Side) → AllKeep side (Then (Pulls Bot) (Pulls Server))
pulls_keep side = both_keep side (Pulls Bot) (Pulls Server) (pulls_all side Bot) (pulls_all side Server)

turn_keeps : (side : Side) → AllKeep side Turn
turn_keeps Bot =
    both_keep Bot AsksClock (Then (Puts Bot) (Then (Puts Server) (Then (Pulls Bot) (Pulls Server)))) (clock_all Bot)
    (both_keep Bot (Puts Bot) (Then (Puts Server) (Then (Pulls Bot) (Pulls Server))) (own_all Bot)
    (both_keep Bot (Puts Server) (Then (Pulls Bot) (Pulls Server)) (beside_all Bot) (pulls_keep Bot)))
turn_keeps Server =
    both_keep Server AsksClock (Then (Puts Bot) (Then (Puts Server) (Then (Pulls Bot) (Pulls Server))))
    (clock_all Server)
    (both_keep Server (Puts Bot) (Then (Puts Server) (Then (Pulls Bot) (Pulls Server))) (beside_all Server)
    (both_keep Server (Puts Server) (Then (Pulls Bot) (Pulls Server)) (own_all Server) (pulls_keep Server)))

turn_gains : (side : Side) → AllGain side Turn
turn_gains Bot =
    second_gains Bot AsksClock (Then (Puts Bot) (Then (Puts Server) (Then (Pulls Bot) (Pulls Server)))) (clock_all Bot)
    (first_gains Bot (Puts Bot) (Then (Puts Server) (Then (Pulls Bot) (Pulls Server))) (own_gain Bot))
turn_gains Server =
    second_gains Server AsksClock (Then (Puts Bot) (Then (Puts Server) (Then (Pulls Bot) (Pulls Server))))
    (clock_all Server)
    (second_gains Server (Puts Bot) (Then (Puts Server) (Then (Pulls Bot) (Pulls Server))) (beside_all Server)
    (first_gains Server (Puts Server) (Then (Pulls Bot) (Pulls Server)) (own_gain Server)))

-- ---- turns in a row

pub due_go : (side : Side) (turns : List (List PortCall)) (old new : SessionView) → AreTurns old turns new →
    EachTurnTakesSome side turns → min (length turns) (length (sent_bytes (queued old side))) ≤ length (taken_in
    side turns)
due_go side [] old new are some = omega arith
due_go side (trace ∷ turns) old new are some =
    let kept = turn_keeps side old trace are.0 are.1 some.0 in
    let gains = turn_gains side old trace are.0 are.1 some.0 in
    let later = due_go side turns are.0 new are.2 some.1 in
    let all = length-append (taken side trace) (taken_in side turns) in
    elim (cases_lt 0 (due old side)) [
      | inl more ↦ (let gain = gains more in omega (arith, kept, gain, later, all))
      | inr none ↦ omega (arith, none)
    ]
