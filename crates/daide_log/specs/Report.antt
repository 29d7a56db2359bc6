-- The lines of a report: the moves of a session, each with the line of the log that caused it. docs/FORMATS.md, "The
-- log". (own)
use Rattle.std.specs.Prelude.{ℕ, List, [], ◌∷◌, ◌++◌, codes, Option, Some, None}
use Rattle.std.specs.Fmt.{decimal}
use Rattle.daide_frame.specs.declared.side.Side.{Side}
use Rattle.daide_frame.specs.declared.side.Side.TheVariants.{Bot, Server}
use Rattle.daide_frame.specs.Code.{code_digits}
use Rattle.daide_frame.specs.Kind.{name_of_kind}
use Rattle.daide_protocol.specs.declared.note.Deed.{Deed}
use Rattle.daide_protocol.specs.declared.note.Deed.TheVariants.{Relayed, Dropped, Prn, Huh}
use Rattle.daide_protocol.specs.declared.note.Note.{Note}
use Rattle.daide_protocol.specs.declared.note.Note.TheVariants.{Nothing, Frame, Fault, Stopped}
use Rattle.daide_protocol.specs.Events.{Event, Ends, ImTimerExpired, OperatorStops, bytes_come}
use Rattle.daide_protocol.specs.Machine.{Effect}
use Rattle.daide_protocol.specs.Summary.{count_note, summary_text}
use Rattle.daide_log.specs.declared.report.ReportKey.{ReportKey}
use Rattle.daide_protocol.specs.declared.summary.Summary.{Summary}
use Rattle.daide_log_lines.specs.LogLine.{LogEvent, Received, EndOf, ImTimerLine, StopLine, Silence}

-- ---- the events of a log's line

-- the events of a line
abbrev pub events_of_line : LogEvent → List Event
events_of_line (Received side bytes) = bytes_come side bytes
events_of_line (EndOf side) = Ends side ∷ []
events_of_line ImTimerLine = ImTimerExpired ∷ []
events_of_line StopLine = OperatorStops ∷ []
events_of_line Silence = []

-- the side of these events; the timer is the one for the bot's first message, and a stop has no side of its own
abbrev pub side_of : LogEvent → Side
side_of (Received side bytes) = side
side_of (EndOf side) = side
side_of ImTimerLine = Bot
side_of StopLine = Bot
side_of Silence = Bot

-- ---- words

-- more bytes than any line of a report has
abbrev pub line_room : ℕ
line_room = 128

abbrev pub name_of_side : Side → List ℕ
name_of_side Bot = codes "bot"
name_of_side Server = codes "server"

-- what was done with a frame
abbrev pub deed_text : Deed → List ℕ
deed_text Relayed = codes "relay"
deed_text Dropped = codes "drop"
deed_text Prn = codes "prn"
deed_text (Huh place) = codes "huh " ++ decimal place

-- a move: a frame with its kind, its length and what was done with it, or a fault with its code, an end or a stop
abbrev pub move_text : Note → List ℕ
move_text Nothing = codes "end"
move_text (Frame head deed) = name_of_kind head.kind ++ 32 ∷ decimal head.len ++ 32 ∷ deed_text deed
move_text (Fault code) = codes "fault " ++ code_digits code
move_text Stopped = codes "stop"

-- who made a move: a side, or the operator
abbrev pub author_text : Side → Note → List ℕ
author_text side Nothing = name_of_side side
author_text side (Frame head deed) = name_of_side side
author_text side (Fault code) = name_of_side side
author_text side Stopped = codes "operator"

-- ---- the lines

-- the session's number, which only the report of a match shows
abbrev pub session_text : Option ℕ → List ℕ
session_text None = []
session_text (Some session) = decimal session ++ 32 ∷ []

-- the number of the log's line that caused a move, and the session's number
unfoldable pub source_text : ReportKey → List ℕ
source_text source = decimal source.line ++ 32 ∷ session_text source.session

-- one move, after its key
unfoldable pub reported_text : Side → Note → List ℕ
reported_text side reported = author_text side reported ++ 32 ∷ move_text reported ++ 10 ∷ []

unfoldable pub move_line : ReportKey → Side → Note → List ℕ
move_line source side reported = source_text source ++ reported_text side reported

-- an entry: a move that is reported
pub record ReportEntry : Type 0 where
  pub source : ReportKey
  pub side : Side
  pub reported : Note

-- the entries for all of a side's moves that a line caused, in order
abbrev pub entries_of : ReportKey → Side → List Effect → List ReportEntry
entries_of source side [] = []
entries_of source side (effect ∷ effects) =
    record { source = source; side = side; reported = effect.reported } ∷ entries_of source side effects

-- the text of entries, in order
abbrev pub texts_of : {E : Type 0} → (E → List ℕ) → List E → List ℕ
texts_of text [] = []
texts_of text (entry ∷ entries) = text entry ++ texts_of text entries

-- the lines of entries
abbrev pub lines_of : List ReportEntry → List ℕ
lines_of entries = texts_of (λ entry. move_line entry.source entry.side entry.reported) entries

-- ---- an incomplete frame

-- how many bytes were received, and how many there are in all
abbrev pub size_text : ℕ → Option ℕ → List ℕ
size_text came None = decimal came ++ codes " of 4 bytes of a header"
size_text came (Some size) = decimal came ++ codes " of " ++ decimal size ++ codes " bytes of a frame"

-- the line for a side's frame, which begins with four spaces
unfoldable pub part_line : Option ℕ → Side → ℕ → Option ℕ → List ℕ
part_line session side came size =
    codes "    " ++ session_text session ++ name_of_side side ++ codes ": " ++ size_text came size ++ 10 ∷ []

-- ---- a cut line

-- the line for the log's last line if it is cut, which begins with four spaces
unfoldable pub cut_line : ℕ → List ℕ
cut_line number = codes "    line " ++ decimal number ++ codes " is cut" ++ 10 ∷ []

-- ---- the last line

-- the counts, with all of these entries
abbrev pub counted_over : {E : Type 0} → (E → Summary → Summary) → List E → Summary → Summary
counted_over count [] s = s
counted_over count (entry ∷ entries) s = counted_over count entries (count entry s)

abbrev pub counted_all : List ReportEntry → Summary → Summary
counted_all entries s = counted_over (λ entry before. count_note entry.reported before) entries s

unfoldable pub summary_line : Summary → List ℕ
summary_line s = summary_text s ++ 10 ∷ []
