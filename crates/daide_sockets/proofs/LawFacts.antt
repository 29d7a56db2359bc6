-- The laws of `laws`, each used once. A fact takes only its law, so that a weaker law does not check.
use Rattle.std.proofs.Common.{◌≡◌, ℕ, ◌+◌, ◌≤◌, Bool, true, false, List, [], ◌∷◌, Option, Some, None, length, refl, ap, ◌∙◌, subst, arith}
use Rattle.std.specs.Prelude.{◌<◌, ◌||◌, All, Contains}
use Rattle.std.proofs.lemmas.List.Elements.{All-contains, All-head, All-tail}
use Rattle.std.specs.Duration.{as_nanos}
use Rattle.std.specs.Time.{instant_nanos}
use Rattle.std.specs.declared.time.Duration.{Duration}
use Rattle.std.specs.declared.time.Instant.{Instant}
use Rattle.daide_io.specs.System.{Accepts, Connects, TransitsBy}
use Rattle.daide_io.specs.declared.system.Connect.TheVariants.{Ready, Failed}
use Rattle.daide_io.specs.Streams.{StreamCall}
use Rattle.daide_sockets.specs.Pairing.{Paired, RunSockets, Transits, pending_connects}
use Rattle.daide_sockets.specs.Lingering.{ClosingStream}
use Rattle.daide_sockets.specs.PollTimes.{WaitsAreInTimeBeside, may_close_on, closing_due, others_armed, WaitsAreInTime}
use Rattle.daide_sockets.specs.Accounted.{SocketsAreAccounted}
use Rattle.daide_sockets.specs.PairedOnce.{SessionsComeOnce, one_if_same}
use Rattle.daide_sockets.specs.ClosingTime.{ReadingsGoOn, overdue_looks, bound_of, readings_of, IsClosingInTime, ClosingSocketsLeave}
use Rattle.daide_sockets.specs.Scheduling.{RunState, ClosesByClock}
use Rattle.daide_sockets.specs.Table.{Table, IsPollTime, arming_all}
use Rattle.daide_sockets.specs.Clock.{IsInTimeFor}
use Rattle.daide_sockets.specs.Control.{has_work_at}
use Rattle.daide_sockets.specs.PollTimes.{IsPlaceInTime, ControlWaitsAreInTime}
use Rattle.daide_sockets.specs.ControlSlots.{has_free, is_control_due, arming_control}
use Rattle.daide_sockets.specs.declared.control.Control.{Control}
use Rattle.daide_sockets.specs.declared.listener.Listener.{Listener}
use Rattle.daide_sockets.specs.declared.control_connection.ControlConnection.{ControlConnection}
use Rattle.daide_sockets.specs.declared.control_connection.Stage.{Stage}
use Rattle.daide_sockets.specs.declared.control_connection.Stage.TheVariants.{Reads}

-- no two connects deliver ports of session 5
never_twice : {P S : Type 0} (to_give taken : S → Option (List ℕ)) (calls : S → Option (List StreamCall)) →
    SessionsComeOnce P to_give taken calls → (pair : P → Paired S) (old new : RunSockets S) (a b : P) → old.came ≡ 0 →
    pending_connects old.arrivals ≡ 0 →
    TransitsBy (Transits to_give taken calls pair) old (Connects 3 (Ready a) ∷ Connects 4 (Ready b) ∷ []) new →
    (pair a).identity.number ≡ 5 → (pair b).identity.number ≡ 5 → ⊥
never_twice to_give taken calls law pair old new a b none no_arrivals goes first second =
    let most : one_if_same (pair a).identity.number 5 + (one_if_same (pair b).identity.number 5 + 0) ≤ 1 =
    law pair old new (Connects 3 (Ready a) ∷ Connects 4 (Ready b) ∷ []) 5 none no_arrivals goes in
    let one : one_if_same (pair a).identity.number 5 ≡ 1 = ap (λ (m : ℕ). one_if_same m 5) first in
    let other : one_if_same (pair b).identity.number 5 ≡ 1 = ap (λ (m : ℕ). one_if_same m 5) second in
    absurd (omega (arith, most, one, other))

-- of three that a poll watches, the second has work: the poll takes no time
armed_work : WaitsAreInTime → (table : Table) (time : Duration) →
    IsPollTime true (arming_all table ((false, None) ∷ (true, None) ∷ (false, None) ∷ [])) (Some time) → as_nanos time ≡ 0
armed_work law table time lasts =
    let armed = (false, None) ∷ (true, None) ∷ (false, None) ∷ [] in
    let all = (law table armed (Some time) lasts).0 in
    (All-contains (λ (s : Bool × Option Instant). IsInTimeFor table.reading (Some time) s.0 s.1) armed (true, None) all
    (1, omega arith, refl)).work refl

-- of two the second has a deadline seven nanoseconds after the reading, which ends the poll within them
armed_deadline : WaitsAreInTime → (table : Table) (time : Duration) (now late due : Instant) → table.reading ≡ Some now →
    IsPollTime true (arming_all table ((false, Some late) ∷ (false, Some due) ∷ [])) (Some time) →
    instant_nanos due ≡ instant_nanos now + 7 → as_nanos time ≤ 7
armed_deadline law table time now late due reading lasts seven =
    let armed = (false, Some late) ∷ (false, Some due) ∷ [] in
    let all = (law table armed (Some time) lasts).0 in
    let most = (All-contains (λ (s : Bool × Option Instant). IsInTimeFor table.reading (Some time) s.0 s.1) armed
    (false, Some due) all (1, omega arith, refl)).deadline now due reading refl in
    omega (arith, most, seven)

-- a place has a deadline seven nanoseconds after the reading, which ends the poll within them
place_within_seven : WaitsAreInTime → (table : Table) (time : Duration) (now due : Instant) → table.reading ≡ Some now →
    table.due ≡ Some due → IsPollTime true table (Some time) → instant_nanos due ≡ instant_nanos now + 7 → as_nanos time ≤ 7
place_within_seven law table time now due reading first lasts seven =
    let most = (law table [] (Some time) lasts).1.deadline now due reading first in
    omega (arith, most, seven)

-- with a deadline that it watches no poll is for ever
armed_not_for_ever : WaitsAreInTime → (table : Table) (now due : Instant) → table.reading ≡ Some now →
    IsPollTime true (arming_all table ((false, Some due) ∷ [])) None → ⊥
armed_not_for_ever law table now due reading lasts =
    let armed = (false, Some due) ∷ [] in
    (All-contains (λ (s : Bool × Option Instant). IsInTimeFor table.reading None s.0 s.1) armed (false, Some due)
    (law table armed None lasts).0 (0, omega arith, refl)).deadline now due reading refl

-- while a byte is buffered for a closing stream that is writable, a poll takes no time
closing_goes_out : {S : Type 0} → WaitsAreInTimeBeside S → (table : Table) (time : Duration) (closing : ClosingStream S) →
    closing.stream.has_failed ≡ false → closing.stream.write_buffer ≡ 7 ∷ [] → closing.known.may_write ≡ true →
    IsPollTime true (arming_all table (others_armed {S = S} table (false, None) (closing ∷ []))) (Some time) →
    as_nanos time ≡ 0
closing_goes_out {S} law table time closing failed held may lasts =
    let goes : may_close_on table closing ≡ true = rw (failed, held, may) refl in
    (All-head (λ (c : ClosingStream S). IsInTimeFor table.reading (Some time) (may_close_on table c) (closing_due c)) closing
    [] (law table (Some time) (false, None) (closing ∷ []) lasts).closes).work goes

-- of the only bot, which was given up, at most one socket closes
given_up_closes_one : {P S : Type 0} (to_give taken : S → Option (List ℕ)) (calls : S → Option (List StreamCall)) →
    SocketsAreAccounted P to_give taken calls → (pair : P → Paired S) (old new : RunSockets S) → old.came ≡ 0 →
    pending_connects old.arrivals ≡ 0 → old.closing.streams ≡ [] →
    TransitsBy (Transits to_give taken calls pair) old (Accepts 3 true ∷ Connects 3 Failed ∷ []) new →
    length new.closing.streams ≤ 1
given_up_closes_one to_give taken calls law pair old new none no_arrivals no_closing goes =
    let few = (law pair old new (Accepts 3 true ∷ Connects 3 Failed ∷ []) none no_arrivals no_closing goes).closing in
    omega (arith, few)

-- while the second control connection may be read, a poll takes no time
control_is_read : (S : Type 0) → ControlWaitsAreInTime S → (table : Table) (control : Control S)
    (first : Option (ControlConnection S)) (connection : ControlConnection S) (rest : List (Option (ControlConnection S)))
    (time : Duration) → control.slots ≡ first ∷ Some connection ∷ rest → connection.stage ≡ Reads →
    connection.readiness.may_read ≡ true → IsPollTime true (arming_control table control) (Some time) → as_nanos time ≡ 0
control_is_read S law table control first connection rest time slots reads ready lasts =
    let InTime : Option (ControlConnection S) → Type 0 = IsPlaceInTime table.reading (Some time) in
    let all = subst (All InTime) slots (law table control [] (Some time) lasts).connections in
    let there = All-head InTime (Some connection) rest (All-tail InTime first (Some connection ∷ rest) all) in
    there.work (ap (λ (s : Stage). has_work_at s connection.readiness) reads ∙ ready)

-- while the first place is free, and the listener may give a connection, a poll takes no time
control_is_accepted : (S : Type 0) → ControlWaitsAreInTime S → (table : Table) (control : Control S)
    (listener : Listener) (rest : List (Option (ControlConnection S))) (time : Duration) → control.slots ≡ None ∷ rest →
    control.listener ≡ Some listener → is_control_due table listener ≡ true →
    IsPollTime true (arming_control table control) (Some time) → as_nanos time ≡ 0
control_is_accepted S law table control listener rest time slots there ready lasts =
    ((law table control [] (Some time) lasts).listener listener
    (ap (λ (places : List (Option (ControlConnection S))). has_free places) slots) there).work ready

module _ {N P S : Type 0} (to_give taken : S → Option (List ℕ)) (calls : S → Option (List StreamCall))
    (law : ClosingSocketsLeave to_give taken calls N P) (pair : P → Paired S) (old new : RunState N S) (stall : Duration)
    (closing : ClosingStream S) (seven : as_nanos stall ≡ 7000000000) (none : old.closing.streams ≡ [])
    (set : old.closing.stall_time ≡ Some stall) (one : new.closing.streams ≡ closing ∷ [])
    (goes : TransitsBy (ClosesByClock to_give taken calls pair) old (Accepts 3 true ∷ Connects 3 Failed ∷ []) new) where
  abbrev clock : List (Option Instant)
  clock = readings_of (ClosesByClock to_give taken calls pair) (Accepts 3 true ∷ Connects 3 Failed ∷ []) old new goes

  in_time : IsClosingInTime to_give taken calls stall clock closing
  in_time = All-head (IsClosingInTime to_give taken calls stall clock) closing []
      (subst (λ (l : List (ClosingStream S)). All (IsClosingInTime to_give taken calls stall clock) l) one
      (law pair old new (Accepts 3 true ∷ Connects 3 Failed ∷ []) stall none set goes))

  -- While the only socket that closes is advanced, and with a stall timeout of seven seconds, its deadline is at most as long
  -- after it was advanced last.
  closing_within_seven : (last : Instant) → ReadingsGoOn stall in_time.since.start in_time.since.readings last →
      (due : Instant) × (closing_due closing ≡ Some due) × (instant_nanos due ≤ instant_nanos last + 7000000000)
  closing_within_seven last goes_on =
      let at = in_time.deadline last goes_on in
      let within = at.2 in
      (at.0, at.1, omega (arith, within, seven))

  -- it was advanced at most once at or past a deadline
  closing_overdue_once :
      overdue_looks to_give taken calls in_time.since.readings in_time.since.first closing in_time.since.looks ≤ 1
  closing_overdue_once = in_time.overdue

  -- It began at a reading of the run's clock. If that is the first second, it was advanced at no reading at or past the ninth.
  closing_leaves_by_nine : Contains clock in_time.since.start × ((begun now : Instant) → in_time.since.start ≡ Some begun →
      instant_nanos begun ≡ 1000000000 → Contains in_time.since.readings (Some now) → 9000000000 ≤ instant_nanos now → ⊥)
  closing_leaves_by_nine = (
    All-head (λ (reading : Option Instant). Contains clock reading) in_time.since.start in_time.since.readings in_time.by_clock,
    λ begun now start first there late.
        let before = All-contains (λ (reading : Option Instant). (at : Instant) → reading ≡ Some at →
        instant_nanos at < bound_of stall begun) in_time.since.readings (Some now)
        (in_time.bound begun start (omega (arith, first, seven))).before there now refl in
        omega (arith, before, late, first, seven),
  )

  -- and its deadline is not after that
  closing_due_by_nine : (begun : Instant) → in_time.since.start ≡ Some begun → instant_nanos begun ≡ 1000000000 →
      (due : Instant) × (closing_due closing ≡ Some due) × (instant_nanos due ≤ 9000000000)
  closing_due_by_nine begun start first =
      let at = (in_time.bound begun start (omega (arith, first, seven))).due in
      let within = at.2 in
      (at.0, at.1, omega (arith, within, first, seven))
