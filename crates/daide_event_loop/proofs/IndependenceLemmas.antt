-- What port calls returned decides the events, the failed wires and the calls within a quota, and so the run of the
-- machine.
use Rattle.std.proofs.Common.{◌≡◌, ℕ, zero, suc, Bool, true, false, List, [], ◌∷◌, ◌++◌, length, take, drop}
use Rattle.std.proofs.Common.{refl, sym, ap, ◌∙◌, subst}
use Rattle.std.specs.Prelude.{◌||◌}
use Rattle.std.proofs.Math.Seq.{take-append_seam, drop-append_seam}
use Rattle.daide_frame.specs.declared.side.Side.{Side}
use Rattle.daide_frame.specs.Side.{same_side}
use Rattle.daide_protocol.specs.Events.{Event, Ends, Loses, ImTimerExpired, OperatorStops, bytes_come}
use Rattle.daide_protocol.specs.Machine.{Limits, SessionState, Effect, Runs, ending_in, is_over}
use Rattle.daide_protocol.specs.Wires.{SessionView, account_after, queued, sent_to, sent_bytes}
use Rattle.daide_protocol.proofs.OneRun.{one_run}
use Rattle.daide_io.specs.declared.ports.ClockEvent.TheVariants.{NoEvent, ImTimeIsOver, StopIsRequested}
use Rattle.daide_io.specs.declared.ports.Pull.TheVariants.{Got, Idle, Ended}
use Rattle.daide_io.specs.declared.ports.Put.TheVariants.{Took, Failed}
use Rattle.daide_io.specs.declared.system.SessionEnd.{SessionEnd}
use Rattle.daide_io.specs.FaultField.{fault_field_of}
use Rattle.daide_io.specs.Ports.{PortCall, TurnBegins, Clock, Pulled, Offered, event_of, events_of, taken, put_fails}
use Rattle.daide_io.specs.Ports.{has_failed}
use Rattle.daide_driver.specs.Headline.{untouched}
use Rattle.daide_driver.specs.Record.{Moved}
use Rattle.daide_driver.specs.Totals.{HasTotals}
use Rattle.daide_event_loop.specs.Served.{IsEndOf, while_left}
use Rattle.daide_event_loop.specs.Serving.{cause_of}
use Rattle.daide_event_loop.specs.Independence.{PortResult, TurnBegan, ClockRead, Received, Handed, result_of, results_of}
use Rattle.daide_event_loop.specs.Independence.{AreAlike}

-- ---- functions of the results

abbrev event_by : PortResult → List Event
event_by TurnBegan = []
event_by (ClockRead ImTimeIsOver) = ImTimerExpired ∷ []
event_by (ClockRead StopIsRequested) = OperatorStops ∷ []
event_by (ClockRead NoEvent) = []
event_by (Received side (Got n) bytes) = bytes_come side bytes
event_by (Received side Idle bytes) = []
event_by (Received side Ended bytes) = Ends side ∷ []
event_by (Handed side (Took n)) = []
event_by (Handed side Failed) = Loses side ∷ []

abbrev events_by : List PortResult → List Event
events_by [] = []
events_by (result ∷ results) = event_by result ++ events_by results

one_event : (call : PortCall) → event_of call ≡ event_by (result_of call)
one_event TurnBegins = refl
one_event (Clock ImTimeIsOver) = refl
one_event (Clock StopIsRequested) = refl
one_event (Clock NoEvent) = refl
one_event (Pulled side buffer (Got n) bytes) = refl
one_event (Pulled side buffer Idle bytes) = refl
one_event (Pulled side buffer Ended bytes) = refl
one_event (Offered side bytes (Took n)) = refl
one_event (Offered side bytes Failed) = refl

all_events : (calls : List PortCall) → events_of calls ≡ events_by (results_of calls)
all_events [] = refl
all_events (call ∷ calls) = rw (one_event call, all_events calls) refl

abbrev fails_by : Side → PortResult → Bool
fails_by side TurnBegan = false
fails_by side (ClockRead event) = false
fails_by side (Received from pull bytes) = false
fails_by side (Handed to (Took n)) = false
fails_by side (Handed to Failed) = same_side to side

abbrev failed_by : Side → List PortResult → Bool
failed_by side [] = false
failed_by side (result ∷ results) = fails_by side result || failed_by side results

one_fails : (side : Side) (call : PortCall) → put_fails side call ≡ fails_by side (result_of call)
one_fails side TurnBegins = refl
one_fails side (Clock event) = refl
one_fails side (Pulled from buffer pull bytes) = refl
one_fails side (Offered to bytes (Took n)) = refl
one_fails side (Offered to bytes Failed) = refl

any_fails : (side : Side) (calls : List PortCall) → has_failed side calls ≡ failed_by side (results_of calls)
any_fails side [] = refl
any_fails side (call ∷ calls) = rw (one_fails side call, any_fails side calls) refl

-- the results within a quota of turns
abbrev left_by : ℕ → List PortResult → List PortResult
left_by turns [] = []
left_by zero (TurnBegan ∷ results) = []
left_by (suc turns) (TurnBegan ∷ results) = TurnBegan ∷ left_by turns results
left_by turns (ClockRead event ∷ results) = ClockRead event ∷ left_by turns results
left_by turns (Received side pull bytes ∷ results) = Received side pull bytes ∷ left_by turns results
left_by turns (Handed side put ∷ results) = Handed side put ∷ left_by turns results

all_left : (turns : ℕ) (calls : List PortCall) → results_of (while_left turns calls) ≡ left_by turns (results_of calls)
all_left turns [] = refl
all_left zero (TurnBegins ∷ calls) = refl
all_left (suc turns) (TurnBegins ∷ calls) = ap (λ (l : List PortResult). TurnBegan ∷ l) (all_left turns calls)
all_left turns (Clock event ∷ calls) =
    ap (λ (l : List PortResult). ClockRead event ∷ l) (all_left turns calls)
all_left turns (Pulled side buffer pull bytes ∷ calls) =
    ap (λ (l : List PortResult). Received side pull bytes ∷ l) (all_left turns calls)
all_left turns (Offered side bytes put ∷ calls) =
    ap (λ (l : List PortResult). Handed side put ∷ l) (all_left turns calls)

events_alike : (calls others : List PortCall) → results_of calls ≡ results_of others → events_of calls ≡ events_of others
events_alike calls others e = all_events calls ∙ ap events_by e ∙ sym (all_events others)

left_alike : (turns : ℕ) (calls others : List PortCall) → results_of calls ≡ results_of others →
    results_of (while_left turns calls) ≡ results_of (while_left turns others)
left_alike turns calls others e = all_left turns calls ∙ ap (left_by turns) e ∙ sym (all_left turns others)

fails_alike : (side : Side) (calls others : List PortCall) → results_of calls ≡ results_of others →
    has_failed side calls ≡ has_failed side others
fails_alike side calls others e = any_fails side calls ∙ ap (failed_by side) e ∙ sym (any_fails side others)

-- ---- one output

first_alike : (xs ys us vs : List ℕ) → xs ++ ys ≡ us ++ vs → length xs ≡ length us → (xs ≡ us) × (ys ≡ vs)
first_alike xs ys us vs e n = (
  sym (take-append_seam xs ys) ∙ ap (λ (l : List ℕ). take (length xs) l) e
      ∙ ap (λ (m : ℕ). take m (us ++ vs)) n ∙ take-append_seam us vs,
  sym (drop-append_seam xs ys) ∙ ap (λ (l : List ℕ). drop (length xs) l) e
      ∙ ap (λ (m : ℕ). drop m (us ++ vs)) n ∙ drop-append_seam us vs,
)

-- the bytes taken and queued are those of one output
moved_alike : (failed over other_over : Bool) (waited output took waits other_took other_waits : List ℕ) →
    Moved failed over waited output took waits → Moved failed other_over waited output other_took other_waits →
    length took ≡ length other_took → (took ≡ other_took) × (waits ≡ other_waits)
moved_alike false over other_over waited output took waits other_took other_waits h k n =
    first_alike took waits other_took other_waits (sym h ∙ k) n
moved_alike true over other_over waited output took waits other_took other_waits h k n = (
  (first_alike took h.2.0 other_took k.2.0 (sym h.2.1 ∙ k.2.1) n).0,
  h.1 ∙ sym k.1,
)

-- ---- two sessions

module _ (limits : Limits) (calls others : List PortCall) (same : results_of calls ≡ results_of others) where
  pub alike : (one other : SessionView) → HasTotals limits calls one → HasTotals limits others other →
      AreAlike one calls other others
  alike one other h k =
      let first = h.whole.sends in
      let second = k.whole.sends in
      let events = events_alike calls others same in
      let run : Runs (untouched limits).state (events_of others) first.effects one.state =
      subst (λ (l : List Event). Runs (untouched limits).state l first.effects one.state) events first.run in
      let only = one_run (events_of others) (untouched limits).state first.effects second.effects one.state other.state
      run second.run in
      record {
        state = only.1;
        counts = h.whole.counts ∙ ap (account_after (untouched limits)) only.0
            ∙ sym k.whole.counts;
        sent = λ side n.
            let waited = sent_bytes (queued (untouched limits) side) in
            let took = taken side calls in
            let waits = sent_bytes (queued one side) in
            let own : Moved (has_failed side calls) (is_over one.state.phase) waited
            (sent_bytes (sent_to side second.effects)) took waits =
            subst (λ (l : List Effect). Moved (has_failed side calls) (is_over one.state.phase) waited
            (sent_bytes (sent_to side l)) took waits) only.0 (first.wires side) in
            moved_alike (has_failed side others) (is_over one.state.phase) (is_over other.state.phase) waited
            (sent_bytes (sent_to side second.effects)) took waits (taken side others) (sent_bytes (queued other side))
            (subst (λ (b : Bool). Moved b (is_over one.state.phase) waited (sent_bytes (sent_to side second.effects)) took waits)
            (fails_alike side calls others same) own)
            (second.wires side) n;
      }

  pub end_alike : (turns : ℕ) (one other : SessionView) (end last : SessionEnd) → one.account ≡ other.account →
      IsEndOf limits turns calls one end → IsEndOf limits turns others other last → end ≡ last
  end_alike turns one other end last counts h k =
      let events = events_alike (while_left turns calls) (while_left turns others) (left_alike turns calls others same) in
      let run : Runs (untouched limits).state (events_of (while_left turns others)) h.0 h.1 =
      subst (λ (l : List Event). Runs (untouched limits).state l h.0 h.1) events h.2 in
      let only = one_run (events_of (while_left turns others)) (untouched limits).state h.0 k.0 h.1 k.1 run k.2 in
      let cause : end.cause ≡ last.cause =
      h.3 ∙ ap (λ (s : SessionState). cause_of (ending_in s.phase)) only.1 ∙ sym k.3 in
      let account : end.account ≡ last.account = h.4 ∙ counts ∙ sym k.4 in
      let field : end.fault_field ≡ last.fault_field = h.5 ∙ ap fault_field_of only.1 ∙ sym k.5 in
      λ i. record { cause = cause i; account = account i; fault_field = field i }
