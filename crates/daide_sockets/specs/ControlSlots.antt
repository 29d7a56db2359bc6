-- The control connections of a run together: at most eight. Of these at most four are stops that wait, beside those that end
-- all sessions. (own)
use Rattle.std.specs.Prelude.{◌≡◌, ℕ, ◌+◌, ◌-◌, ◌<◌, nat_lt, not, Bool, true, false, ◌||◌, List, [], ◌∷◌, Option, Some, None, if◌then◌else◌}
use Rattle.std.specs.declared.time.Instant.{Instant}
use Rattle.daide_io.specs.Network.{NetworkCall, ChecksDescriptors, AcceptsControl, Follows}
use Rattle.daide_io.specs.Streams.{StreamCall}
use Rattle.daide_io.specs.declared.system.Orders.{Orders}
use Rattle.daide_buffered_io.specs.declared.readiness.Readiness.{Readiness}
use Rattle.daide_status.specs.declared.snapshot.RunStatus.{RunStatus}
use Rattle.daide_status.specs.declared.snapshot.SessionRow.{SessionRow}
use Rattle.daide_sockets.specs.Accepting.{is_accept_due}
use Rattle.daide_sockets.specs.Control.{Advances, ShowsOn, has_control_work, control_due, stops_run, stops_run_now, is_end, is_end_of, gathers_at}
use Rattle.daide_sockets.specs.ControlAnswer.{ordered_by, waits_by}
use Rattle.std.specs.Option.{is_some}
use Rattle.daide_sockets.specs.Table.{Table, control_connection_key, control_key, first_closing, listener_key, merged, report_at, arming}
use Rattle.daide_sockets.specs.Clock.{IsAfter}
use Rattle.daide_sockets.specs.declared.control.Control.{Control}
use Rattle.daide_sockets.specs.declared.control_connection.ControlConnection.{ControlConnection}
use Rattle.daide_sockets.specs.declared.listener.Listener.{Listener}
use Rattle.daide_sockets.specs.declared.present.Bot.{Bot}
use Rattle.daide_sockets.specs.declared.control_connection.Stage.TheVariants.{Reads}
use Rattle.std.specs.Prelude.{◌&&◌, Ok, Err}
use Rattle.std.specs.declared.io.Error.{Error}

-- a relation holds between each place and the same one of another list
abbrev pub Each : {A : Type 0} → (A → A → Type 0) → List A → List A → Type 0
Each relation [] [] = Unit {0}
Each relation (one ∷ old) (later ∷ new) = relation one later × Each relation old new
Each relation [] (later ∷ new) = ⊥
Each relation (one ∷ old) [] = ⊥

-- whether a test passes at some connection
abbrev pub at_place : {S : Type 0} → (ControlConnection S → Bool) → Option (ControlConnection S) → Bool
at_place test None = false
at_place test (Some connection) = test connection

abbrev pub at_some : {S : Type 0} → (ControlConnection S → Bool) → List (Option (ControlConnection S)) → Bool
at_some test [] = false
at_some test (place ∷ rest) = at_place test place || at_some test rest

-- a place whose connection is closed is free
abbrev pub left_in : {S : Type 0} → Bool → ControlConnection S → Option (ControlConnection S)
left_in true connection = Some connection
left_in false connection = None

-- a connection is that of a stop that waits, or whose line is still to be written
abbrev pub is_waiting : {S : Type 0} → ControlConnection S → Bool
is_waiting connection = is_some (waits_by connection.answer)

-- how many more stops may wait, of this many, beside those of these places
abbrev pub room_beside : {S : Type 0} → ℕ → List (Option (ControlConnection S)) → ℕ
room_beside room [] = room
room_beside room (place ∷ rest) = room_beside (if at_place is_waiting place then room - 1 else room) rest

-- and once a place has advanced: one less if its stop waits from now on
abbrev pub room_after : {S : Type 0} → ℕ → Option (ControlConnection S) → Option (ControlConnection S) → ℕ
room_after room old new = if not (at_place is_waiting old) && at_place is_waiting new then room - 1 else room

-- the most stops that wait at once
abbrev pub most_waiting : ℕ
most_waiting = 4

-- A place in a round: its connection takes what polls reported of it, and advances.
abbrev pub PlaceAdvances : {S : Type 0} → (S → Option (List ℕ)) → (S → Option (List ℕ)) → (S → Option (List StreamCall)) →
    RunStatus → List Bot → Bool → Option Instant → Readiness → Option (ControlConnection S) → Option (ControlConnection S) → Type 0
PlaceAdvances to_give taken calls run bots has_room now report None new = new ≡ None
PlaceAdvances {S} to_give taken calls run bots has_room now report (Some old) new = (is_open : Bool) × (later : ControlConnection S)
    × Advances to_give taken calls run bots has_room now (record old { readiness = merged old.readiness report }) is_open later
    × (new ≡ left_in is_open later)

-- Each place in a round, from this number on, by the table at its beginning. This many more stops may wait.
abbrev pub PlacesAdvance : {S : Type 0} → (S → Option (List ℕ)) → (S → Option (List ℕ)) → (S → Option (List StreamCall)) →
    RunStatus → List Bot → Table → ℕ → ℕ → List (Option (ControlConnection S)) → List (Option (ControlConnection S)) → Type 0
PlacesAdvance to_give taken calls run bots table number room [] [] = Unit {0}
PlacesAdvance to_give taken calls run bots table number room (old ∷ rest) (new ∷ later) =
    PlaceAdvances to_give taken calls run bots (nat_lt 0 room) table.reading
    (report_at table (control_connection_key table number)) old new
    × PlacesAdvance to_give taken calls run bots table (number + 1) (room_after room old new) rest later
PlacesAdvance to_give taken calls run bots table number room [] (new ∷ later) = ⊥
PlacesAdvance to_give taken calls run bots table number room (old ∷ rest) [] = ⊥

-- a row is shown to the connection of a place
abbrev pub PlaceShows : {S : Type 0} → SessionRow → Option (ControlConnection S) → Option (ControlConnection S) → Type 0
PlaceShows row None new = new ≡ None
PlaceShows {S} row (Some old) new = (later : ControlConnection S) × ShowsOn row old later × (new ≡ Some later)

-- a connection that was just accepted: it reads a request, of which nothing was received, for two seconds
pub record IsAccepted {S : Type 0} (reading : Option Instant) (connection : ControlConnection S) : Type 0 where
  pub stage : connection.stage ≡ Reads
  pub line : connection.line.items ≡ []
  pub closes_at : IsAfter reading 2000000000 connection.closes_at

-- a row of the listener for control connections, or of one of them
abbrev pub IsControlRow : Table → ℕ → Type 0
IsControlRow table key = (listener_key table < key) × (key < first_closing table)

-- whether a place is free
abbrev pub is_place_free : {S : Type 0} → Option (ControlConnection S) → Bool
is_place_free None = true
is_place_free (Some connection) = false

abbrev pub has_free : {S : Type 0} → List (Option (ControlConnection S)) → Bool
has_free [] = false
has_free (place ∷ rest) = is_place_free place || has_free rest

-- a connection comes to the first free place
abbrev pub with_one : {S : Type 0} → ControlConnection S → List (Option (ControlConnection S)) → List (Option (ControlConnection S))
with_one connection [] = []
with_one connection (None ∷ rest) = Some connection ∷ rest
with_one connection (Some other ∷ rest) = Some other ∷ with_one connection rest

-- the next poll is also to watch the connection of a place
abbrev pub arming_place : {S : Type 0} → Table → Option (ControlConnection S) → Table
arming_place table None = table
arming_place table (Some connection) = arming table (has_control_work connection) (control_due connection)

-- and those of all places
abbrev pub arming_places : {S : Type 0} → Table → List (Option (ControlConnection S)) → Table
arming_places table [] = table
arming_places table (place ∷ rest) = arming_places (arming_place table place) rest

-- an accept of a control connection is due: its listener is ready by the table, and no pause is under way
abbrev pub is_control_due : Table → Listener → Bool
is_control_due table listener = is_accept_due table (control_key table) listener

-- The next poll is also to watch the listener, while a place is free: whether an accept is due, and the end of a pause.
abbrev pub arming_listener : Table → Bool → Option Listener → Table
arming_listener table has_room None = table
arming_listener table has_room (Some listener) =
    if has_room then arming table (is_control_due table listener) listener.resumes_at else table

-- the same, if there is a listener
abbrev pub is_listener_due : Table → Option Listener → Bool
is_listener_due table None = false
is_listener_due table (Some listener) = is_control_due table listener

-- the descriptors that an accept of a control connection needs: one for it
abbrev pub accept_descriptors : ℕ
accept_descriptors = 1

-- What one accept of a control connection brings: none if descriptors are missing, or if it failed. Otherwise the connection
-- that it gave is followed under this key, and comes unless the system refuses.
pub data BringsControl {N C : Type 0} (transition : N → NetworkCall C → N → Type 0) (key : ℕ) (old new : N) (came : Option C) :
    Type 0 where
  LacksDescriptors : (error : Error) → transition old (ChecksDescriptors accept_descriptors (Err error)) new → came ≡ None →
      BringsControl transition key old new came
  Fails : (free : N) (error : Error) → transition old (ChecksDescriptors accept_descriptors (Ok tt)) free →
      transition free (AcceptsControl (Err error)) new → came ≡ None → BringsControl transition key old new came
  IsFollowed : (free mid : N) (given after : C) → transition old (ChecksDescriptors accept_descriptors (Ok tt)) free →
      transition free (AcceptsControl (Ok given)) mid → transition mid (Follows given key true after) new →
      came ≡ Some after → BringsControl transition key old new came
  IsRefused : (free mid : N) (given after : C) → transition old (ChecksDescriptors accept_descriptors (Ok tt)) free →
      transition free (AcceptsControl (Ok given)) mid → transition mid (Follows given key false after) new →
      came ≡ None → BringsControl transition key old new came

-- whether each place is free
abbrev pub are_places_free : {S : Type 0} → List (Option (ControlConnection S)) → Bool
are_places_free [] = true
are_places_free (place ∷ rest) = is_place_free place && are_places_free rest

-- the connection that an accept brought is at the first place that was free; without one all places are unchanged
abbrev pub TakesPlace : {S : Type 0} → Option Instant → Option S → List (Option (ControlConnection S)) →
    List (Option (ControlConnection S)) → Type 0
TakesPlace reading None old new = new ≡ old
TakesPlace {S} reading (Some stream) old new = (connection : ControlConnection S) × (connection.stream ≡ stream)
    × IsAccepted reading connection × (new ≡ with_one connection old)

-- The listener for control connections is asked for one: exactly one accept is made if it is due and a place is free, and what
-- it brings takes that place. Otherwise no call is made.
pub record AsksControl {N S : Type 0} (transition : N → NetworkCall S → N → Type 0) (table : Table) (listener : Option Listener)
    (old new : N) (before after : List (Option (ControlConnection S))) : Type 0 where
  pub made : is_listener_due table listener ≡ true → has_free before ≡ true → (key : ℕ) × IsControlRow table key
      × (came : Option S) × BringsControl transition key old new came × TakesPlace table.reading came before after
  pub not_made : (has_free before && is_listener_due table listener) ≡ false → (new ≡ old) × (after ≡ before)

-- the next poll is also to watch the control socket: its listener, and each connection
abbrev pub arming_control : {S : Type 0} → Table → Control S → Table
arming_control table control =
    arming_places (arming_listener table (has_free control.slots) control.listener) control.slots

-- The end of the session with this number is ordered: a connection that requested it waits for it. From the round on in which it
-- is, the session is stopped in its next turn, and a connect that is pending for it is given up.
abbrev pub ends_session : {S : Type 0} → Control S → ℕ → Bool
ends_session control number = at_some (λ connection. is_end_of number (ordered_by connection.answer)) control.slots

-- the end of some session is ordered
abbrev pub ends_some : {S : Type 0} → Control S → Bool
ends_some control = at_some (λ connection. is_end (ordered_by connection.answer)) control.slots

-- A round of the control socket over a network, with the status of the run, the bots that are there, and the table at its
-- beginning. Each connection advances, and then one is accepted, if that is due and a place is free. A stop is ordered from the
-- round on in which a connection is answered by it, and stays so. Sessions are shown if a connection gathers a status.
pub record BeginsRound {N S : Type 0} (transition : N → NetworkCall S → N → Type 0) (to_give taken : S → Option (List ℕ))
    (calls : S → Option (List StreamCall)) (run : RunStatus) (bots : List Bot) (table : Table) (network : N) (old : Control S)
    (orders : Orders) (after : N) (new : Control S) : Type 0 where
  pub mid : List (Option (ControlConnection S))
  pub advances : PlacesAdvance to_give taken calls run bots table 0 (room_beside most_waiting old.slots) old.slots mid
  pub accepts : AsksControl transition table old.listener network after mid new.slots
  pub stops : new.stops_accepting
      ≡ (old.stops_accepting || at_some (λ connection. stops_run (ordered_by connection.answer)) new.slots)
  pub at_once : new.stops_now
      ≡ (old.stops_now || at_some (λ connection. stops_run_now (ordered_by connection.answer)) new.slots)
  pub returned : orders ≡ record {
    stops_accepting = new.stops_accepting;
    shows_sessions = at_some (λ connection. gathers_at connection.stage) new.slots;
  }
