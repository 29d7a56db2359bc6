-- Ports that record their calls with times: the effect of a call on the ports and on the record. (own)
use Rattle.std.specs.Prelude.{◌≡◌, ◌⊎◌, ⊤, ℕ, ◌+◌, ◌-◌, ◌<◌, ◌≤◌, min, Bool, true, false, if◌then◌else◌, List, [], length}
use Rattle.std.specs.Prelude.{Option, Some, None}
use Rattle.std.specs.Io.KnownBytes.{Appends, Keeps}
use Rattle.jiff_core.specs.declared.civil.datetime.DateTime.{DateTime}
pub use Rattle.daide_causes.specs.Causes.{HasFailed}
use Rattle.daide_io.specs.declared.ports.ClockEvent.TheVariants.{NoEvent, ImTimeIsOver, StopIsRequested}
use Rattle.daide_io.specs.Ports.{PortCall, TurnBegins, Clock, Pulled, Offered}
use Rattle.daide_io.specs.declared.ports.Pull.TheVariants as pulls
use Rattle.daide_io.specs.declared.ports.Put.TheVariants as puts
use Rattle.daide_log_lines.specs.LogLine.{LogEvent, EndOf, ImTimerLine, StopLine, most_lines, longest_line, longest_piece}
use Rattle.daide_log_lines.specs.Output.{page_size}
use Rattle.daide_log.specs.declared.moment.Moment.{Moment}
use Rattle.daide_log.specs.declared.record.RecordEnd.{RecordEnd}
use Rattle.daide_log.specs.declared.record.RecordEnd.TheVariants.{Whole, Failed, Full}
use Rattle.daide_log.specs.declared.record.RecordedEvent.{RecordedEvent}
use Rattle.daide_log.specs.declared.recording.Activity.{Activity}
use Rattle.daide_log.specs.declared.recording.Activity.TheVariants.{Moving, Idle, Ended}
use Rattle.daide_log.specs.declared.record.RecordedEvent.TheVariants as events
use Rattle.daide_log.specs.RecordText.{piece_of, reported_by, event_line}
use Rattle.daide_log.specs.RecordItem.{Timed, line_of_item, IsPiece}
use Rattle.daide_log.specs.UtcText.{IsUtcOf, are_apart}

-- ---- a record

-- the most bytes of a page after which the longest line still fits
abbrev pub most_held : ℕ
most_held = page_size - longest_line

-- The text of a record, written or in the page, if the writer records its bytes; the part of it in the page, which is
-- not written yet; the number of its lines; and whether the record is whole so far, or ended earlier.
pub record Written : Type 0 where
  pub text : Option (List ℕ)
  pub unwritten : List ℕ
  pub lines : ℕ
  pub ending : RecordEnd

-- Where there is no record, it is as one that failed before its first line: it takes none.
abbrev pub no_record : Written
no_record = record { text = None; unwritten = []; lines = 0; ending = Failed }

-- the record, if there is one
abbrev pub written_in : Option Written → Written
written_in None = no_record
written_in (Some written) = written

-- A whole record gets a line. If it has the greatest number of lines, it keeps its text instead. After a failed write
-- nothing is stated about its text.
abbrev pub GetsLine : Type 0 → RecordEnd → Written → List ℕ → Written → Type 0
GetsLine failed Whole old line new =
    (old.lines < most_lines) × (new.lines ≡ old.lines + 1) × Appends old.text new.text line
GetsLine failed Full old line new = (most_lines ≤ old.lines) × (new.lines ≡ old.lines) × Keeps old.text new.text
GetsLine failed Failed old line new = (new.lines ≡ old.lines) × failed

-- a record that ended is unchanged
abbrev pub GetsText : Type 0 → RecordEnd → Written → List ℕ → Written → Type 0
GetsText failed Whole old line new = GetsLine failed new.ending old line new
GetsText failed Failed old line new = new ≡ old
GetsText failed Full old line new = new ≡ old

-- the same for the line of an event
abbrev pub TakesEvent : Type 0 → RecordEnd → Written → LogEvent → Written → Type 0
TakesEvent failed ending old event new = GetsText failed ending old (event_line event) new

-- the effect of an event, if there is one; `failed` states that a write failed
abbrev pub RecordsEvent : Type 0 → Written → Option LogEvent → Written → Type 0
RecordsEvent failed old None new = new ≡ old
RecordsEvent failed old (Some event) new = TakesEvent failed old.ending old event new

-- The page of a whole record was written: the text is the same, or the write failed.
pub record WritesPage (failed : Type 0) (old new : Written) : Type 0 where
  pub whole : old.ending ≡ Whole
  pub lines : new.lines ≡ old.lines
  pub written : ((new.ending ≡ Whole) × (new.unwritten ≡ []) × Keeps old.text new.text) ⊎ ((new.ending ≡ Failed) × failed)

-- a record without a further event is unchanged, or was written
abbrev pub KeepsText : Type 0 → Written → Written → Type 0
KeepsText failed old new = (new ≡ old) ⊎ WritesPage failed old new

-- the event of a line; no bytes have no line
abbrev pub line_event : RecordedEvent → Option LogEvent
line_event (events.Received side bytes) = piece_of side bytes.now
line_event (events.EndOf side) = Some (EndOf side)
line_event events.ImTimer = Some ImTimerLine
line_event events.Stop = Some StopLine

-- its bytes fit a line
abbrev pub FitsLine : RecordedEvent → Type 0
FitsLine (events.Received side bytes) = length bytes.now ≤ longest_piece
FitsLine (events.EndOf side) = ⊤
FitsLine events.ImTimer = ⊤
FitsLine events.Stop = ⊤

-- ---- a time that is due

-- the time to be written before the next line, from the present time and the last one written: the present one, unless
-- the last one is too close to it
abbrev pub unless_close : Moment → Moment → Option Moment
unless_close now last = if are_apart now last then Some now else None

abbrev pub due_time : Option Moment → Option Moment → Option Moment
due_time None last = None
due_time (Some now) None = Some now
due_time (Some now) (Some last) = unless_close now last

-- the last time written, after one that was due
abbrev pub last_time : Option Moment → Option Moment → Option Moment
last_time None last = last
last_time (Some due) last = Some due

-- the record gets the comment of a due time
abbrev pub TakesTime : Type 0 → Option Moment → Written → Written → Type 0
TakesTime failed None old new = new ≡ old
TakesTime failed (Some due) old new =
    (at : DateTime) × IsUtcOf due at × GetsText failed old.ending old (line_of_item (Timed at)) new

-- ---- ports

-- Whether bytes move, after a call. A pull shows it, and so does an event that ends the session.
abbrev pub activity_after : PortCall → Activity → Activity
activity_after TurnBegins before = before
activity_after (Clock ImTimeIsOver) before = Ended
activity_after (Clock StopIsRequested) before = Ended
activity_after (Clock NoEvent) Ended = Idle
activity_after (Clock NoEvent) Moving = Moving
activity_after (Clock NoEvent) Idle = Idle
activity_after (Pulled side buffer (pulls.Got n) bytes) before = Moving
activity_after (Pulled side buffer pulls.Idle bytes) before = Idle
activity_after (Pulled side buffer pulls.Ended bytes) before = Ended
activity_after (Offered side bytes (puts.Took n)) before = before
activity_after (Offered side bytes puts.Failed) before = Ended

-- The page is written in this call: at the second idle pull in a row, and at the first call after an end that returns
-- nothing.
abbrev pub is_written_at : PortCall → Activity → Bool
is_written_at TurnBegins before = false
is_written_at (Clock ImTimeIsOver) before = false
is_written_at (Clock StopIsRequested) before = false
is_written_at (Clock NoEvent) Moving = false
is_written_at (Clock NoEvent) Idle = false
is_written_at (Clock NoEvent) Ended = true
is_written_at (Pulled side buffer (pulls.Got n) bytes) before = false
is_written_at (Pulled side buffer pulls.Idle bytes) Moving = false
is_written_at (Pulled side buffer pulls.Idle bytes) Idle = true
is_written_at (Pulled side buffer pulls.Idle bytes) Ended = true
is_written_at (Pulled side buffer pulls.Ended bytes) before = false
is_written_at (Offered side bytes put) before = false

-- the same call of the inner ports; a pull passes on at most as many bytes of the buffer as fit a line
abbrev pub asked_within : PortCall → PortCall
asked_within TurnBegins = TurnBegins
asked_within (Clock event) = Clock event
asked_within (Pulled side buffer pull bytes) = Pulled side (min buffer longest_piece) pull bytes
asked_within (Offered side bytes put) = Offered side bytes put

-- ports, the record of their calls, whether bytes moved in the last of them, the present time as the caller gave it last,
-- and the last time in the record
pub record Recorded (P : Type 0) : Type 0 where
  pub ports : P
  pub record_of : Written
  pub activity : Activity
  pub present : Option Moment
  pub last : Option Moment

-- a call without an event has no line and no time; an event has its line, after the time that is due
abbrev pub TakesCall : {P : Type 0} → Type 0 → Recorded P → Option LogEvent → Recorded P → Type 0
TakesCall failed old None new = KeepsText failed old.record_of new.record_of × (new.last ≡ old.last)
TakesCall failed old (Some event) new =
    (mid : Written) × TakesTime failed (due_time old.present old.last) old.record_of mid
    × TakesEvent failed mid.ending mid event new.record_of × (new.last ≡ last_time (due_time old.present old.last) old.last)

-- the present time changes only when a turn begins
abbrev pub KeepsTime : PortCall → Option Moment → Option Moment → Type 0
KeepsTime TurnBegins old new = ⊤
KeepsTime (Clock event) old new = new ≡ old
KeepsTime (Pulled side buffer pull bytes) old new = new ≡ old
KeepsTime (Offered side bytes put) old new = new ≡ old

-- the effect of a call on ports and record; `failed` states that a write of the record's writer failed
pub record Records {P : Type 0} (transition : P → PortCall → P → Type 0) (failed : Type 0) (old : Recorded P)
    (answer : PortCall) (new : Recorded P) : Type 0 where
  pub ports : transition old.ports (asked_within answer) new.ports
  pub piece : IsPiece answer
  pub taken : TakesCall failed old (reported_by answer) new
  pub time : KeepsTime answer old.present new.present
  pub activity : new.activity ≡ activity_after answer old.activity
  pub written : is_written_at answer old.activity ≡ true → new.record_of.ending ≡ Whole → new.record_of.unwritten ≡ []
