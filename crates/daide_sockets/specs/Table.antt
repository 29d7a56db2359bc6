-- The table of a run: what polls reported of its sockets, the deadlines of its places, and the time of a poll. (own)
use Rattle.std.specs.Prelude.{◌≡◌, ℕ, ◌+◌, ◌*◌, ◌/◌, ◌<◌, ◌≤◌, Bool, true, false, not, ◌&&◌, ◌||◌, List, [], ◌∷◌, length}
use Rattle.std.specs.Prelude.{Option, Some, None, nat_lt, if◌then◌else◌, replicate, slice_get, slice_set}
use Rattle.std.specs.declared.time.Duration.{Duration}
use Rattle.std.specs.declared.time.Instant.{Instant}
use Rattle.daide_frame.specs.declared.side.Side.{Side}
use Rattle.daide_frame.specs.declared.side.Side.TheVariants.{Bot, Server}
use Rattle.daide_buffered_io.specs.declared.readiness.Readiness.{Readiness}
use Rattle.daide_io.specs.declared.network.SocketEvent.{SocketEvent}
use Rattle.daide_sockets.specs.declared.table.Row.{Row}
use Rattle.daide_sockets.specs.Clock.{earlier, IsNotBefore, is_past, IsNoTime, IsUntil}
use Rattle.daide_io.specs.Network.{NetworkCall, Polls, ReadsClock}
use Rattle.daide_io.specs.ReadyQueue.{is_among}

-- The last reading of the clock; the deadline of each place as it last came to rest, and a moment before which none of them
-- is. Of what the next poll watches beside the places, whether something may be done at once, and the nearest deadline. The
-- rows, each of which is named by its position.
pub record Table : Type 0 where
  pub reading : Option Instant
  pub deadlines : List (Option Instant)
  pub due : Option Instant
  pub armed_work : Bool
  pub armed_due : Option Instant
  pub rows : List Row

-- ---- one row

-- nothing is reported
abbrev pub no_report : Readiness
no_report = record { may_read = false; may_write = false; reads_on = false }

-- two reports together
abbrev pub merged : Readiness → Readiness → Readiness
merged one other = record {
  may_read = one.may_read || other.may_read;
  may_write = one.may_write || other.may_write;
  reads_on = one.reads_on || other.reads_on;
}

-- What an event reports. An end of what the peer sends, and a failure, are found by a read, and an end of what it accepts by a
-- write. The system reports an end, a failure and an urgent byte only once, so reads go on past a short one.
abbrev pub report_of : SocketEvent → Readiness
report_of event = record {
  may_read = event.is_readable || event.is_read_closed || event.is_error;
  may_write = event.is_writable || event.is_write_closed || event.is_error;
  reads_on = event.is_read_closed || event.is_error || event.is_priority;
}

-- whether a report has something
abbrev pub has_report : Readiness → Bool
has_report report = report.may_read || report.may_write || report.reads_on

-- a row without a socket
abbrev pub free_row : Row
free_row = record { is_taken = false; report = no_report }

abbrev pub row_or_free : Option Row → Row
row_or_free None = free_row
row_or_free (Some row) = row

-- the row with a key; a free one if there is none
abbrev pub row_at : List Row → ℕ → Row
row_at rows key = row_or_free (slice_get rows key)

-- the rows with another row at a key
abbrev pub changed : List Row → ℕ → Row → List Row
changed rows key row = slice_set rows key row

-- what polls reported of a socket since it last took the report
abbrev pub report_at : Table → ℕ → Readiness
report_at table key = (row_at table.rows key).report

-- a poll reported something of a socket since it last took the report
abbrev pub is_reported_at : Table → ℕ → Bool
is_reported_at table key = has_report (report_at table key)

-- a row is freed
abbrev pub freed : Table → ℕ → Table
freed table key = record table { rows = changed table.rows key free_row }

-- a socket takes the report of its row
abbrev pub without_report : Table → ℕ → Table
without_report table key =
    record table { rows = changed table.rows key (record (row_at table.rows key) { report = no_report }) }

-- ---- the rows of closing sockets

-- The key of the first row of a closing socket. Before it are the two rows of each place, and those of two listeners and
-- of eight control connections.
abbrev pub first_closing : Table → ℕ
first_closing table = 2 * length table.deadlines + 10

-- the key of the listener for bots
abbrev pub listener_key : Table → ℕ
listener_key table = 2 * length table.deadlines

-- the key of the listener for control connections
abbrev pub control_key : Table → ℕ
control_key table = 2 * length table.deadlines + 1

-- the key of the control connection with this number, from 0 to 7
abbrev pub control_connection_key : Table → ℕ → ℕ
control_connection_key table number = 2 * length table.deadlines + 2 + number

-- the row of a closing socket of which nothing is known
abbrev pub taken_row : Row
taken_row = record free_row { is_taken = true }

-- no closing socket has this row of them
pub record IsFreeRow (table : Table) (key : ℕ) : Type 0 where
  pub first : first_closing table ≤ key
  pub last : key < length table.rows
  pub free : (row_at table.rows key).is_taken ≡ false

-- each row of closing sockets is taken
abbrev pub IsFull : Table → Type 0
IsFull table = (key : ℕ) → IsFreeRow table key → ⊥

-- a closing socket took a free row, under its key, and no other changed
abbrev pub TakesRow : Table → ℕ → Table → Type 0
TakesRow old key new = IsFreeRow old key × (new ≡ record old { rows = changed old.rows key taken_row })

-- ---- one place

-- the key of the row of the bot at a place, or of the server
abbrev pub key_of : ℕ → Side → ℕ
key_of place Bot = 2 * place
key_of place Server = 2 * place + 1

abbrev pub deadline_in : Option (Option Instant) → Option Instant
deadline_in None = None
deadline_in (Some due) = due

-- the deadline of a place as it last came to rest; none if it has none
abbrev pub deadline_at : Table → ℕ → Option Instant
deadline_at table place = deadline_in (slice_get table.deadlines place)

-- none of these deadlines is before a moment
abbrev pub AreBounded : Option Instant → List (Option Instant) → Type 0
AreBounded due deadlines = (place : ℕ) → IsNotBefore due (deadline_in (slice_get deadlines place))

-- no place has a deadline before `due`
abbrev pub AreDeadlinesBounded : Table → Type 0
AreDeadlinesBounded table = AreBounded table.due table.deadlines

-- a new table for this number of places and of closing sockets
abbrev pub new_table : ℕ → ℕ → Table
new_table places closing = record {
  reading = None;
  deadlines = replicate places None;
  due = None;
  armed_work = false;
  armed_due = None;
  rows = replicate (2 * places + 10 + closing) free_row;
}

-- a place rests until this deadline
abbrev pub resting : Table → ℕ → Option Instant → Table
resting table place due =
    record table { deadlines = slice_set table.deadlines place due; due = earlier table.due due }

-- the session of a place is over, and has no deadline
abbrev pub forgotten : Table → ℕ → Table
forgotten table place = record table { deadlines = slice_set table.deadlines place None }

-- the sessions of all places are over
pub record ForgetsPlaces (old new : Table) : Type 0 where
  pub none : (place : ℕ) → deadline_at new place ≡ None
  pub places : length new.deadlines ≡ length old.deadlines
  pub same : new ≡ record old { deadlines = new.deadlines; due = None }

-- both sockets of a place take the reports of their rows
abbrev pub without_reports : Table → ℕ → Table
without_reports table place = without_report (without_report table (key_of place Bot)) (key_of place Server)

-- ---- what is watched beside the places

-- the next poll also watches something with work or without it, and with this nearest deadline
abbrev pub arming : Table → Bool → Option Instant → Table
arming table has_work due =
    record table { armed_work = table.armed_work || has_work; armed_due = earlier table.armed_due due }

-- those that are watched, each with work or without it, and with its nearest deadline
abbrev pub arming_all : Table → List (Bool × Option Instant) → Table
arming_all table [] = table
arming_all table (one ∷ others) = arming_all (arming table one.0 one.1) others

-- nothing is watched
abbrev pub disarmed : Table → Table
disarmed table = record table { armed_work = false; armed_due = None }

-- ---- a poll

-- an event is added to the report of its row
abbrev pub with_event : List Row → SocketEvent → List Row
with_event rows event = changed rows event.key
    (record (row_at rows event.key) { report = merged (row_at rows event.key).report (report_of event) })

-- all events are added to the reports of their rows
abbrev pub with_events : List Row → List SocketEvent → List Row
with_events rows [] = rows
with_events rows (event ∷ events) = with_events (with_event rows event) events

-- the last reading stays if there is no other
abbrev pub latest : Option Instant → Option Instant → Option Instant
latest old None = old
latest old (Some reading) = Some reading

-- the network was polled once, for this time, and then its clock was read; all that it reported is in the rows
pub record PollsOnce {N C : Type 0} (transition : N → NetworkCall C → N → Type 0) (timeout : Option Duration) (old : N)
    (before : Table) (new : N) (after : Table) : Type 0 where
  pub socket_events : List SocketEvent
  pub polled : N
  pub reading : Option Instant
  pub polls : transition old (Polls timeout socket_events) polled
  pub reads : transition polled (ReadsClock reading) new
  pub table : after ≡ record before { reading = latest before.reading reading; rows = with_events before.rows socket_events }

-- the places of those events whose key is less than `first`
abbrev pub event_places : ℕ → List SocketEvent → List ℕ
event_places first [] = []
event_places first (event ∷ events) =
    if nat_lt event.key first then event.key / 2 ∷ event_places first events else event_places first events

-- The places that a poll wakes after it reported these events: each place of which it reported something, and each whose
-- deadline is past. Any other place keeps its deadline.
pub record WakesPlaces (socket_events : List SocketEvent) (woken : List ℕ) (old new : Table) : Type 0 where
  pub reported : (place : ℕ) → is_among place (event_places (2 * length old.deadlines) socket_events) ≡ true →
      is_among place woken ≡ true
  pub asleep : (place : ℕ) → is_among place woken ≡ false →
      (deadline_at new place ≡ deadline_at old place) × (is_past old.reading (deadline_at old place) ≡ false)
  pub places : length new.deadlines ≡ length old.deadlines
  pub bounded : AreDeadlinesBounded new
  pub same : new ≡ record old { deadlines = new.deadlines; due = new.due }

-- ---- the time of a poll

abbrev pub IsPollTimeIf : Bool → Table → Option Duration → Type 0
IsPollTimeIf false table time = IsNoTime time
IsPollTimeIf true table time = IsUntil table.reading (earlier table.due table.armed_due) time

-- A poll that may block, and watches nothing with work, lasts at most until the nearest deadline, and for ever if there is
-- none. Any other takes no time.
abbrev pub IsPollTime : Bool → Table → Option Duration → Type 0
IsPollTime may_block table time = IsPollTimeIf (may_block && not table.armed_work) table time
