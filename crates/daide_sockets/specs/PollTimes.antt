-- What a poll watches beside the places, and until when it may block: the listener, the closing streams and the control
-- socket. (own)
use Rattle.std.specs.Prelude.{◌≡◌, ◌||◌, ◌&&◌, not, Bool, true, false, List, [], ◌∷◌, Option, Some, None, if◌then◌else◌, All}
use Rattle.std.specs.declared.time.Duration.{Duration}
use Rattle.std.specs.declared.time.Instant.{Instant}
use Rattle.daide_buffered_io.specs.declared.readiness.Readiness.{Readiness}
use Rattle.daide_buffered_io.specs.Buffers.{Buffer}
use Rattle.daide_sockets.specs.declared.admission.Acceptor.{Acceptor}
use Rattle.daide_sockets.specs.Accepting.{is_bot_due}
use Rattle.daide_sockets.specs.Clock.{IsInTimeFor, earlier}
use Rattle.daide_sockets.specs.Control.{has_control_work, control_due}
use Rattle.daide_sockets.specs.ControlSlots.{has_free, is_control_due, arming_control}
use Rattle.daide_sockets.specs.Lingering.{ClosingStream}
use Rattle.daide_sockets.specs.declared.control.Control.{Control}
use Rattle.daide_sockets.specs.declared.control_connection.ControlConnection.{ControlConnection}
use Rattle.daide_sockets.specs.declared.listener.Listener.{Listener}
use Rattle.daide_sockets.specs.Sockets.{is_some_byte}
use Rattle.daide_sockets.specs.Table.{Table, IsPollTime, arming_all, merged, report_at}

-- ---- the places

-- Each poll that may block is in time for each of those that it watches, and for the deadlines of the places.
abbrev pub WaitsAreInTime : Type 0
WaitsAreInTime = (table : Table) (armed : List (Bool × Option Instant)) (time : Option Duration) →
    IsPollTime true (arming_all table armed) time →
    All (λ one. IsInTimeFor table.reading time one.0 one.1) armed × IsInTimeFor table.reading time false table.due

-- ---- a closing stream

-- By what is known of it, a step of a closing stream may do something at once: buffered bytes may be written, or, once
-- its writing is over, bytes may be dropped.
abbrev pub may_step : {S : Type 0} → Readiness → Buffer S → Bool
may_step known stream = if is_some_byte stream.write_buffer && not stream.has_failed then known.may_write
    else known.may_read || is_some_byte stream.read_buffer

-- the same with the report of its row
abbrev pub may_close_on : {S : Type 0} → Table → ClosingStream S → Bool
may_close_on table closing = may_step (merged closing.known (report_at table closing.key)) closing.stream

-- the deadline of the stage of a closing stream: of its peer's stall timeout while buffered bytes may be written, and then
-- of its release
abbrev pub stage_due : {S : Type 0} → ClosingStream S → Option Instant
stage_due closing = if is_some_byte closing.stream.write_buffer && not closing.stream.has_failed then closing.stalls_at
    else closing.released_at

-- the deadline of a closing stream: of its stage, or its bound, whichever is earlier
abbrev pub closing_due : {S : Type 0} → ClosingStream S → Option Instant
closing_due closing = earlier (stage_due closing) closing.closes_at

-- each closing stream, as a poll watches it
abbrev pub closings_armed : {S : Type 0} → Table → List (ClosingStream S) → List (Bool × Option Instant)
closings_armed table [] = []
closings_armed table (closing ∷ others) =
    (may_close_on table closing, closing_due closing) ∷ closings_armed table others

-- ---- the listener

-- The listener, as a poll watches it: whether the poll is for bots too and an accept is due; and the end of the pause of
-- accepts.
abbrev pub listener_armed : Table → Acceptor → Bool × Option Instant
listener_armed table acceptor = (acceptor.awaits_bots && is_bot_due table acceptor, acceptor.listener.resumes_at)

-- ---- a poll

-- the listener, whether an accept is awaited and due and until when none is made; then the closing streams
abbrev pub others_armed : {S : Type 0} → Table → Bool × Option Instant → List (ClosingStream S) → List (Bool × Option Instant)
others_armed table listener closings = listener ∷ closings_armed table closings

-- A poll of this time is in time for the listener and for each closing stream. It takes no time if an accept is awaited and
-- due, or a closing stream may do something at once. It lasts at most until the end of the pause of accepts, and until the
-- deadline of each closing stream.
pub record IsInTimeBeside {S : Type 0} (table : Table) (time : Option Duration) (listener : Bool × Option Instant)
    (closings : List (ClosingStream S)) : Type 0 where
  pub accepts : IsInTimeFor table.reading time listener.0 listener.1
  pub closes : All (λ closing. IsInTimeFor table.reading time (may_close_on table closing) (closing_due closing)) closings

-- each poll that may block, and watches these, is in time for them
abbrev pub WaitsAreInTimeBeside : Type 0 → Type 0
WaitsAreInTimeBeside S = (table : Table) (time : Option Duration) (listener : Bool × Option Instant)
    (closings : List (ClosingStream S)) →
    IsPollTime true (arming_all table (others_armed table listener closings)) time →
    IsInTimeBeside table time listener closings

-- ---- the control socket

-- a poll of this time is in time for the connection of a place, if there is one
abbrev pub IsPlaceInTime : {S : Type 0} → Option Instant → Option Duration → Option (ControlConnection S) → Type 0
IsPlaceInTime reading time None = Unit {0}
IsPlaceInTime reading time (Some connection) =
    IsInTimeFor reading time (has_control_work connection) (control_due connection)

-- A poll of this time is in time for each connection, and for the listener while a place is free: whether an accept is due, and
-- the end of a pause.
pub record IsControlInTime {S : Type 0} (table : Table) (time : Option Duration) (control : Control S) :
    Type 0 where
  pub connections : All (IsPlaceInTime table.reading time) control.slots
  pub listener : (listener : Listener) → has_free control.slots ≡ true → control.listener ≡ Some listener →
      IsInTimeFor table.reading time (is_control_due table listener) listener.resumes_at

-- each poll that may block is in time for the control socket that it watches, whatever it watches beside it
abbrev pub ControlWaitsAreInTime : (S : Type 0) → Type 0
ControlWaitsAreInTime S = (table : Table) (control : Control S) (others : List (Bool × Option Instant))
    (time : Option Duration) → IsPollTime true (arming_all (arming_control table control) others) time →
    IsControlInTime table time control
