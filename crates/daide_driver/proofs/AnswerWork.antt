-- The number of table look-ups, over a trace of port calls.
use Rattle.std.proofs.Common.{◌≡◌, ℕ, ◌+◌, Bool, true, false, cond, List, [], ◌∷◌, ◌++◌, length, refl, sym, ap, ◌∙◌}
use Rattle.std.proofs.Common.{subst, arith, length-append, append-nil}
use Rattle.daide_frame.specs.declared.side.Side.{Side}
use Rattle.daide_frame.specs.declared.side.Side.TheVariants.{Bot, Server}
use Rattle.daide_frame.specs.Side.{other, same_side}
use Rattle.daide_protocol.specs.Events.{Event, Comes, Ends, Loses, ImTimerExpired, OperatorStops, bytes_come}
use Rattle.daide_protocol.specs.Heard.{bytes_from}
use Rattle.daide_protocol.specs.Wires.{SessionView}
use Rattle.daide_session.specs.Work.{IsPaidBy}
use Rattle.daide_session.proofs.WorkLemmas.{paid_then}
use Rattle.daide_io.specs.declared.ports.ClockEvent.{ClockEvent}
use Rattle.daide_io.specs.declared.ports.ClockEvent.TheVariants.{NoEvent, ImTimeIsOver, StopIsRequested}
use Rattle.daide_io.specs.declared.ports.Pull.TheVariants.{Got}
use Rattle.daide_io.specs.Ports.{PortCall, Clock, Pulled, events_of}
use Rattle.daide_driver.specs.Totals.{came, Works}

-- ---- one port call after another

bytes_from-append : (side : Side) (xs ys : List Event) → bytes_from side (xs ++ ys)
    ≡ bytes_from side xs ++ bytes_from side ys
bytes_from-append side [] ys = refl
bytes_from-append side (Comes from byte ∷ xs) ys = go (same_side from side) (bytes_from-append side xs ys)
  where
    go : (k : Bool) → bytes_from side (xs ++ ys) ≡ bytes_from side xs ++ bytes_from side ys →
        cond k (byte ∷ bytes_from side (xs ++ ys)) (bytes_from side (xs ++ ys))
        ≡ cond k (byte ∷ bytes_from side xs) (bytes_from side xs) ++ bytes_from side ys
    go true e = ap (λ (t : List ℕ). byte ∷ t) e
    go false e = e
bytes_from-append side (Ends from ∷ xs) ys = bytes_from-append side xs ys
bytes_from-append side (Loses from ∷ xs) ys = bytes_from-append side xs ys
bytes_from-append side (ImTimerExpired ∷ xs) ys = bytes_from-append side xs ys
bytes_from-append side (OperatorStops ∷ xs) ys = bytes_from-append side xs ys

pub works_then : (a : SessionView) (xs : List PortCall) (b : SessionView) (ys : List PortCall) (c : SessionView) →
    events_of (xs ++ ys) ≡ events_of xs ++ events_of ys → Works a xs b → Works b ys c → Works a (xs ++ ys) c
works_then a xs b ys c joined h k side =
    subst (λ (n : ℕ). IsPaidBy n side a c) (sym count)
    (paid_then (came side xs) (came side ys) side a b c (h side) (k side))
  where
    count : came side (xs ++ ys) ≡ came side xs + came side ys
    count = ap (λ (es : List Event). length (bytes_from side es)) joined
        ∙ (ap length (bytes_from-append side (events_of xs) (events_of ys))
        ∙ length-append (bytes_from side (events_of xs)) (bytes_from side (events_of ys)))

-- ---- a port call that delivers no byte

pub works_clock : (a b : SessionView) (event : ClockEvent) → ((side : Side) → IsPaidBy 0 side a b) → Works a (Clock event ∷ []) b
works_clock a b NoEvent h side = h side
works_clock a b ImTimeIsOver h side = h side
works_clock a b StopIsRequested h side = h side

-- ---- bytes from one peer

own_bytes : (side : Side) (bytes : List ℕ) → length (bytes_from side (bytes_come side bytes)) ≡ length bytes
own_bytes Bot [] = refl
own_bytes Bot (x ∷ bytes) = omega (arith, own_bytes Bot bytes)
own_bytes Server [] = refl
own_bytes Server (x ∷ bytes) = omega (arith, own_bytes Server bytes)

others_bytes : (side : Side) (bytes : List ℕ) → length (bytes_from (other side) (bytes_come side bytes)) ≡ 0
others_bytes Bot [] = refl
others_bytes Bot (x ∷ bytes) = others_bytes Bot bytes
others_bytes Server [] = refl
others_bytes Server (x ∷ bytes) = others_bytes Server bytes

pub works_got : (a b : SessionView) (side : Side) (len n : ℕ) (bytes : List ℕ) → IsPaidBy (length bytes) side a b →
    IsPaidBy 0 (other side) a b → Works a (Pulled side len (Got n) bytes ∷ []) b
works_got a b side len n bytes own rest = by_side side own rest
  where
    alone : (from one : Side) → came one (Pulled from len (Got n) bytes ∷ [])
        ≡ length (bytes_from one (bytes_come from bytes))
    alone from one = ap (λ (es : List Event). length (bytes_from one es)) (append-nil (bytes_come from bytes))

    by_side : (from : Side) → IsPaidBy (length bytes) from a b → IsPaidBy 0 (other from) a b →
        (one : Side) → IsPaidBy (came one (Pulled from len (Got n) bytes ∷ [])) one a b
    by_side Bot h k Bot = subst (λ (m : ℕ). IsPaidBy m Bot a b) (sym (alone Bot Bot ∙ own_bytes Bot bytes)) h
    by_side Bot h k Server = subst (λ (m : ℕ). IsPaidBy m Server a b) (sym (alone Bot Server ∙ others_bytes Bot bytes)) k
    by_side Server h k Bot = subst (λ (m : ℕ). IsPaidBy m Bot a b) (sym (alone Server Bot ∙ others_bytes Server bytes)) k
    by_side Server h k Server = subst (λ (m : ℕ). IsPaidBy m Server a b)
        (sym (alone Server Server ∙ own_bytes Server bytes)) h
