-- The time of a poll, against the control socket that it watches.
use Rattle.std.proofs.Common.{◌≡◌, Bool, true, false, List, [], ◌∷◌, ◌++◌, Option, Some, None, refl, ap, ◌∙◌, subst}
use Rattle.std.specs.Prelude.{All}
use Rattle.std.proofs.lemmas.List.Elements.{All-nil, All-cons, All-head}
use Rattle.std.specs.declared.time.Duration.{Duration}
use Rattle.std.specs.declared.time.Instant.{Instant}
use Rattle.daide_sockets.specs.Control.{has_control_work, control_due}
use Rattle.daide_sockets.specs.PollTimes.{IsPlaceInTime, ControlWaitsAreInTime}
use Rattle.daide_sockets.specs.ControlSlots.{has_free, is_control_due, arming_places, arming_listener}
use Rattle.daide_sockets.specs.Clock.{IsInTimeFor}
use Rattle.daide_sockets.specs.Table.{arming_all}
use Rattle.daide_sockets.specs.Table.{Table, arming, IsPollTime}
use Rattle.daide_sockets.specs.declared.control_connection.ControlConnection.{ControlConnection}
use Rattle.daide_sockets.specs.declared.listener.Listener.{Listener}
use Rattle.daide_sockets.proofs.InTimeLemmas.{each_in_time}

abbrev Armed : Type 0
Armed = Bool × Option Instant

armed_all : (one other : List Armed) (table : Table) →
    arming_all (arming_all table one) other ≡ arming_all table (one ++ other)
armed_all [] other table = refl
armed_all (first ∷ one) other table = armed_all one other (arming table first.0 first.1)

-- the first that is watched is in time
first_in_time : (table : Table) (work : Bool) (due : Option Instant) (others : List Armed) (time : Option Duration) →
    IsPollTime true (arming_all (arming table work due) others) time → IsInTimeFor table.reading time work due
first_in_time table work due others time lasts =
    All-head (λ (one : Armed). IsInTimeFor table.reading time one.0 one.1) (work, due) others
    (each_in_time table ((work, due) ∷ others) time lasts)

same_clock : (table : Table) (has_room : Bool) (found : Option Listener) →
    (arming_listener table has_room found).reading ≡ table.reading
same_clock table has_room None = refl
same_clock table true (Some listener) = refl
same_clock table false (Some listener) = refl

abbrev listener_or : Listener → Option Listener → Listener
listener_or other None = other
listener_or other (Some listener) = listener

module _ {S : Type 0} where
  abbrev armed_in : List (Option (ControlConnection S)) → List Armed
  armed_in [] = []
  armed_in (None ∷ rest) = armed_in rest
  armed_in (Some connection ∷ rest) = (has_control_work connection, control_due connection) ∷ armed_in rest

  as_armed : (rest : List (Option (ControlConnection S))) (table : Table) →
      arming_places table rest ≡ arming_all table (armed_in rest)
  as_armed [] table = refl
  as_armed (None ∷ rest) table = as_armed rest table
  as_armed (Some connection ∷ rest) table =
      as_armed rest (arming table (has_control_work connection) (control_due connection))

  beside : (rest : List (Option (ControlConnection S))) (others : List Armed) (table : Table) (time : Option Duration) →
      IsPollTime true (arming_all (arming_places table rest) others) time →
      IsPollTime true (arming_all table (armed_in rest ++ others)) time
  beside rest others table time lasts =
      subst (λ (t : Table). IsPollTime true t time)
      (ap (λ (t : Table). arming_all t others) (as_armed rest table)
      ∙ armed_all (armed_in rest) others table) lasts

  places_in_time : (rest : List (Option (ControlConnection S))) (others : List Armed) (table : Table)
      (time : Option Duration) → IsPollTime true (arming_all (arming_places table rest) others) time →
      All (IsPlaceInTime table.reading time) rest
  places_in_time [] others table time lasts = All-nil (IsPlaceInTime table.reading time)
  places_in_time (None ∷ rest) others table time lasts =
      All-cons (IsPlaceInTime table.reading time) None rest tt (places_in_time rest others table time lasts)
  places_in_time (Some connection ∷ rest) others table time lasts =
      let next : Table = arming table (has_control_work connection) (control_due connection) in
      All-cons (IsPlaceInTime table.reading time) (Some connection) rest
      (first_in_time table (has_control_work connection) (control_due connection) (armed_in rest ++ others) time
      (beside rest others next time lasts)) (places_in_time rest others next time lasts)

  listener_in_time : (rest : List (Option (ControlConnection S))) (others : List Armed) (table : Table)
      (has_room : Bool) (found : Option Listener) (time : Option Duration) →
      IsPollTime true (arming_all (arming_places (arming_listener table has_room found) rest) others) time →
      (listener : Listener) → has_room ≡ true → found ≡ Some listener →
      IsInTimeFor table.reading time (is_control_due table listener) listener.resumes_at
  listener_in_time rest others table has_room None time lasts listener room there = absurd (cc)
  listener_in_time rest others table false (Some own) time lasts listener room there = absurd (cc)
  listener_in_time rest others table true (Some own) time lasts listener room there =
      subst (λ (l : Listener). IsInTimeFor table.reading time (is_control_due table l) l.resumes_at)
      (ap (listener_or own) there)
      (first_in_time table (is_control_due table own) own.resumes_at (armed_in rest ++ others) time
      (beside rest others (arming table (is_control_due table own) own.resumes_at) time lasts))

pub control_in_time : (S : Type 0) → ControlWaitsAreInTime S
control_in_time S table control others time lasts =
    let room = has_free control.slots in
    let first : Table = arming_listener table room control.listener in
    record {
      connections = subst (λ (reading : Option Instant). All (IsPlaceInTime reading time) control.slots)
          (same_clock table room control.listener) (places_in_time control.slots others first time lasts);
      listener = listener_in_time control.slots others table room control.listener time lasts;
    }
