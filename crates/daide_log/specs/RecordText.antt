-- The text of the record of a session: a log of version 2 with one session, from the calls of its ports.
-- docs/FORMATS.md, "The record". (own)
use Rattle.std.specs.Prelude.{ℕ, ◌+◌, List, [], ◌∷◌, ◌++◌, length, codes, Option, Some, None}
use Rattle.std.specs.Fmt.{decimal}
use Rattle.hex.specs.Hex.{encode_upper}
use Rattle.daide_token.specs.Token.{token_bytes}
use Rattle.daide_frame.specs.declared.side.Side.{Side}
use Rattle.daide_grammar.specs.Level.{level_number}
use Rattle.daide_words.specs.declared.word.Word.{Word}
use Rattle.daide_words.specs.WordNames.{operand_name, slot_name}
use Rattle.daide_protocol.specs.declared.config.Config.{Config}
use Rattle.daide_io.specs.declared.ports.ClockEvent.TheVariants.{NoEvent, ImTimeIsOver, StopIsRequested}
use Rattle.daide_io.specs.declared.ports.Pull.TheVariants.{Got, Idle, Ended}
use Rattle.daide_io.specs.declared.ports.Put.TheVariants.{Took, Failed}
use Rattle.daide_io.specs.Ports.{PortCall, TurnBegins, Clock, Pulled, Offered}
use Rattle.daide_log_lines.specs.LogLine.{LogEvent, Received, EndOf, ImTimerLine, StopLine, Silence}
use Rattle.daide_log.specs.Report.{name_of_side}

-- ---- the event of a port call

-- bytes received from a side, if there are any
abbrev pub piece_of : Side → List ℕ → Option LogEvent
piece_of side [] = None
piece_of side (byte ∷ bytes) = Some (Received side (byte ∷ bytes))

-- an expired timer, a stop, bytes received, or an end; a failed write is recorded as the end of its side; the beginning of a
-- turn has no event
abbrev pub reported_by : PortCall → Option LogEvent
reported_by TurnBegins = None
reported_by (Clock ImTimeIsOver) = Some ImTimerLine
reported_by (Clock StopIsRequested) = Some StopLine
reported_by (Clock NoEvent) = None
reported_by (Pulled side buffer (Got n) bytes) = piece_of side bytes
reported_by (Pulled side buffer Idle bytes) = None
reported_by (Pulled side buffer Ended bytes) = Some (EndOf side)
reported_by (Offered side bytes (Took n)) = None
reported_by (Offered side bytes Failed) = Some (EndOf side)

-- ---- the lines of calls

-- an event, in the form of a line of version 1
unfoldable pub event_text : LogEvent → List ℕ
event_text (Received side bytes) = name_of_side side ++ 32 ∷ encode_upper bytes
event_text (EndOf side) = codes "end " ++ name_of_side side
event_text ImTimerLine = codes "timer"
event_text StopLine = codes "stop"
event_text Silence = []

-- the line of an event of session 1
unfoldable pub event_line : LogEvent → List ℕ
event_line event = codes "1 " ++ event_text event ++ 10 ∷ []

-- the line of an event, if there is one
abbrev pub line_reported : Option LogEvent → List ℕ
line_reported None = []
line_reported (Some event) = event_line event

abbrev pub count_reported : Option LogEvent → ℕ
count_reported None = 0
count_reported (Some event) = 1

-- the line of a call, and how many lines it has
abbrev pub line_of_answer : PortCall → List ℕ
line_of_answer answer = line_reported (reported_by answer)

abbrev pub count_of_answer : PortCall → ℕ
count_of_answer answer = count_reported (reported_by answer)

-- ---- the head

-- words, separated by spaces
abbrev pub spaced : List (List ℕ) → List ℕ
spaced [] = []
spaced (word ∷ []) = word
spaced (word ∷ other ∷ words) = word ++ 32 ∷ spaced (other ∷ words)

-- the line of a word of the operator's, without its line feed
unfoldable pub word_text : Word → List ℕ
word_text word =
    spaced (codes "word" ∷ word.name ∷ encode_upper (token_bytes word.code) ∷ slot_name word.slot
    ∷ decimal (level_number word.level) ∷ operand_name word.operand ∷ [])

-- the lines of words, each with its line feed
abbrev pub lines_of_words : List Word → List ℕ
lines_of_words [] = []
lines_of_words (word ∷ words) = (word_text word ++ 10 ∷ []) ++ lines_of_words words

-- the line of the limits, with one session and this number of words
unfoldable pub config_text : Config → ℕ → List ℕ
config_text config words =
    spaced (codes "config" ∷ decimal config.top_level ∷ decimal config.max_body ∷ decimal config.max_depth ∷ codes "1"
    ∷ decimal words ∷ [])

-- the head of a record
unfoldable pub head_text : Config → List Word → List ℕ
head_text config words =
    codes "daide-log 2\n" ++ (config_text config (length words) ++ 10 ∷ []) ++ lines_of_words words

-- the number of its lines
abbrev pub head_count : List Word → ℕ
head_count words = 2 + length words
