-- The forms of the lines of a match's log, by their bytes alone: docs/FORMATS.md, "The log, version 2". (own)
use Rattle.std.specs.Prelude.{ℕ, Bool, ◌&&◌, nat_le, if◌then◌else◌, List, codes, Option, Some, None}
use Rattle.std.specs.Str.{bytes_eq}
use Rattle.daide_log_lines.specs.LogLine.{Parted, LogEvent, Received, EndOf, ImTimerLine, StopLine, Silence}
use Rattle.daide_log_lines.specs.LogLine.{plain_number, parted_at_space, is_comment, event_of_line}

-- ---- the first line

abbrev pub is_match_name : List ℕ → Bool
is_match_name line = bytes_eq line (codes "daide-log 2")

-- ---- a session's number

-- a number within two limits
abbrev pub within : ℕ → ℕ → Option ℕ → Option ℕ
within least most None = None
within least most (Some n) = if nat_le least n && nat_le n most then Some n else None

-- ---- every line after the words

-- the event of a line
pub data MatchEvent : Type 0 where
  Of : (session : ℕ) → (event : LogEvent) → MatchEvent  -- an event of the session of this number
  Quiet : MatchEvent  -- nothing

-- an event, if there is one and it is not the event of a comment
abbrev pub loud : Option LogEvent → Option LogEvent
loud None = None
loud (Some (Received side bytes)) = Some (Received side bytes)
loud (Some (EndOf side)) = Some (EndOf side)
loud (Some ImTimerLine) = Some ImTimerLine
loud (Some StopLine) = Some StopLine
loud (Some Silence) = None

abbrev pub event_of_session : Option ℕ → Option LogEvent → Option MatchEvent
event_of_session None event = None
event_of_session (Some session) None = None
event_of_session (Some session) (Some event) = Some (Of session event)

abbrev pub match_event_of_parts : ℕ → Option Parted → Option MatchEvent
match_event_of_parts sessions None = None
match_event_of_parts sessions (Some parted) =
    event_of_session (within 1 sessions (plain_number parted.word)) (loud (event_of_line parted.rest))

-- the event of a line: a session's number from 1 to the number of sessions, a space and an event of version 1; or none
-- if the line is empty or begins with `#`; any other line is no log line
unfoldable pub match_event_of_line : ℕ → List ℕ → Option MatchEvent
match_event_of_line sessions line =
    if is_comment line then Some Quiet else match_event_of_parts sessions (parted_at_space line)
