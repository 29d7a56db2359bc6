-- What the calls of a turn moved, one trace after another.
use Rattle.std.proofs.Common.{◌≡◌, ℕ, Bool, true, List, [], ◌∷◌, ◌++◌, take, refl, sym, ap, ◌∙◌, subst}
use Rattle.daide_frame.specs.declared.side.Side.{Side}
use Rattle.daide_protocol.specs.Wires.{SessionView}
use Rattle.daide_io.specs.declared.ports.ClockEvent.{ClockEvent}
use Rattle.daide_io.specs.declared.ports.ClockEvent.TheVariants.{StopIsRequested}
use Rattle.daide_io.specs.declared.ports.Pull.{Pull}
use Rattle.daide_io.specs.Ports.{PortCall, Clock, Pulled, pulled_len}
use Rattle.daide_driver.specs.declared.meter.Moved.{Moved}
use Rattle.daide_driver.specs.Meter.{moved_after, moved_by, Moving, StopsIf, Stopping}
use Rattle.daide_driver.specs.Record.{EvolveTogether}
use Rattle.daide_driver.specs.Turn.{Then}
use Rattle.daide_driver.proofs.Stretches.{carries_then, carries_weaker}

pub moved_append : (xs ys : List PortCall) (m : Moved) → moved_by (xs ++ ys) m ≡ moved_by ys (moved_by xs m)
moved_append [] ys m = refl
moved_append (x ∷ xs) ys m = moved_append xs ys (moved_after x m)

-- a stop from the clock is the first call
pub stops_first : (is_spent : Bool) (event : ClockEvent) → (is_spent ≡ true → event ≡ StopIsRequested) →
    StopsIf is_spent (Clock event ∷ [])
stops_first is_spent event h spent = ([], ap (λ (e : ClockEvent). Clock e ∷ []) (h spent))

-- a pull with this result
pub pulls_as : {P : Type 0} (transition : P → PortCall → P → Type 0) (side : Side) (len : ℕ) (pull other : Pull) (old new : P)
    (bytes : List ℕ) → pull ≡ other → transition old (Pulled side len pull (take (pulled_len pull) bytes)) new →
    transition old (Pulled side len other (take (pulled_len other) bytes)) new
pulls_as transition side len pull other old new bytes e h =
    subst (λ (p : Pull). transition old (Pulled side len p (take (pulled_len p) bytes)) new) e h

module _ (K L : SessionView → List PortCall → SessionView → Type 0) (old : SessionView) (xs : List PortCall)
    (new : SessionView) where
  pub moving_then : (a b c : Moved) → Then (Moving a b K) (Moving b c L) old xs new → Moving a c (Then K L) old xs new
  moving_then a b c h = (
    (h.0, h.1, h.2, h.3, h.4.0, h.5.0),
    h.5.1 ∙ ap (moved_by h.2) h.4.1
        ∙ sym (ap (λ (ys : List PortCall). moved_by ys a) h.3 ∙ moved_append h.1 h.2 a),
  )

  pub stopping_then : (is_spent : Bool) → Then (Stopping is_spent K) L old xs new → Stopping is_spent (Then K L) old xs new
  stopping_then is_spent h = (
    (h.0, h.1, h.2, h.3, h.4.0, h.5),
    λ spent. let first = h.4.1 spent in (first.0 ++ h.2, h.3 ∙ ap (λ (ys : List PortCall). ys ++ h.2) first.1),
  )

-- ---- calls in a row

module _ {P : Type 0} (transition : P → PortCall → P → Type 0) where
  pub carries_moving : (K L : SessionView → List PortCall → SessionView → Type 0) (a b c : Moved)
      (old mid new : SessionView × P) → EvolveTogether transition (Moving a b K) old mid →
      EvolveTogether transition (Moving b c L) mid new → EvolveTogether transition (Moving a c (Then K L)) old new
  carries_moving K L a b c old mid new h k =
      carries_weaker transition (Then (Moving a b K) (Moving b c L)) (Moving a c (Then K L)) old new
      (λ xs both. moving_then K L old.0 xs new.0 a b c both)
      (carries_then transition (Moving a b K) (Moving b c L) old mid new h k)

  pub carries_stopping : (is_spent : Bool) (K L : SessionView → List PortCall → SessionView → Type 0) (a b c : Moved)
      (old mid new : SessionView × P) → EvolveTogether transition (Stopping is_spent (Moving a b K)) old mid →
      EvolveTogether transition (Moving b c L) mid new → EvolveTogether transition (Stopping is_spent (Moving a c (Then K L))) old new
  carries_stopping is_spent K L a b c old mid new h k =
      carries_weaker transition (Then (Stopping is_spent (Moving a b K)) (Moving b c L)) (Stopping is_spent (Moving a c (Then K L)))
      old new
      (λ xs both. let stops = stopping_then (Moving a b K) (Moving b c L) old.0 xs new.0 is_spent both in
      (moving_then K L old.0 xs new.0 a b c stops.0, stops.1))
      (carries_then transition (Stopping is_spent (Moving a b K)) (Moving b c L) old mid new h k)
