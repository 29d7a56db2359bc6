-- The report of the record of a session's ports: the moves of that session, each under the number of the line that
-- caused it. A comment is a line, and moves nothing. (own)
use Rattle.std.specs.Prelude.{◌≡◌, ◌≢◌, ℕ, ◌+◌, ◌≤◌, true, List, [], ◌∷◌, ◌++◌, length, map, Some, Ok}
use Rattle.std.specs.List.{AllByRecursion}
use Rattle.daide_frame.specs.declared.side.Side.{Side}
use Rattle.daide_frame.specs.declared.side.Side.TheVariants.{Bot}
use Rattle.daide_words.specs.declared.word.Word.{Word}
use Rattle.daide_words.specs.Accepted.{are_accepted}
use Rattle.daide_protocol.specs.declared.config.Config.{Config}
use Rattle.daide_protocol.specs.declared.note.Note.{Note}
use Rattle.daide_protocol.specs.Config.{config_fault, limits_with}
use Rattle.daide_protocol.specs.Machine.{SessionState, Effect, Runs, initial_state}
use Rattle.daide_io.specs.Ports.{PortCall, TurnBegins, Clock, Pulled, Offered, event_of, events_of, EvolvesBy}
use Rattle.daide_log_lines.specs.LogLine.{most_lines}
use Rattle.daide_log.specs.declared.heading.Version.TheVariants.{Match}
use Rattle.daide_log.specs.declared.record.RecordEnd.TheVariants.{Whole, Failed, Full}
use Rattle.daide_log.specs.Report.{ReportEntry, entries_of, lines_of, counted_all, summary_line}
use Rattle.daide_protocol.specs.Summary.{nothing_counted, reduced, tallied}
use Rattle.daide_log.specs.Log.{source_in, IsReport}
use Rattle.daide_log.specs.RecordText.{count_of_answer, head_count}
use Rattle.daide_log.specs.RecordItem.{RecordItem, Called, Begun, Timed, IsItem, calls_in, record_text, record_count}
use Rattle.daide_log.specs.Recording.{Written, Recorded, Records}

-- ---- moves, by the port calls that caused them

-- the side of a call; the timer is the one for the bot's first message, and a stop has no side of its own
abbrev pub side_of_answer : PortCall → Side
side_of_answer TurnBegins = Bot
side_of_answer (Clock event) = Bot
side_of_answer (Pulled side buffer pull bytes) = side
side_of_answer (Offered side bytes put) = side

-- After this number of lines, the calls among these items take the session from old to new. These are its moves, each
-- under the number of its call's line, and as moves of session 1. A comment is a line, and moves nothing.
abbrev pub TellsBy : ℕ → SessionState → List RecordItem → List ReportEntry → SessionState → Type 0
TellsBy lines old [] reported new = (reported ≡ []) × (new ≡ old)
TellsBy lines old (Called answer ∷ items) reported new =
    (mid : SessionState) × (moves : List Effect) × (later : List ReportEntry)
    × Runs old (event_of answer) moves mid × TellsBy (lines + count_of_answer answer) mid items later new
    × (reported ≡ entries_of (source_in Match (lines + 1) 1) (side_of_answer answer) moves ++ later)
TellsBy lines old (Begun session address at ∷ items) reported new = TellsBy (lines + 1) old items reported new
TellsBy lines old (Timed at ∷ items) reported new = TellsBy (lines + 1) old items reported new

-- the notes of entries, and of moves
abbrev pub notes_reported : List ReportEntry → List Note
notes_reported entries = map (λ entry. entry.reported) entries

abbrev pub notes_of : List Effect → List Note
notes_of moves = map (λ move. move.reported) moves

-- ---- the law

-- the name of each word has three letters, as the name of a `Word` has
abbrev pub HasName : Word → Type 0
HasName word = length word.name ≡ 3

-- The whole report of a session's record: its notes, each once and in order, under the number of the line that caused
-- it, and their counts. The counts are the session's own, modulo 2^64.
pub record IsReported (config : Config) (words : List Word) (items : List RecordItem) (moves : List Effect)
    (state : SessionState) : Type 0 where
  pub reported : List ReportEntry
  pub by_lines : TellsBy (head_count words) (initial_state (limits_with config words)) items reported state
  pub notes : notes_reported reported ≡ notes_of moves
  pub report : IsReport (record_text config words items)
      (lines_of reported ++ summary_line (counted_all reported nothing_counted)) (Ok (counted_all reported nothing_counted))
  pub counts : tallied moves nothing_counted ≡ reduced (counted_all reported nothing_counted)

-- If a session with these limits and words runs on what port calls report to it, the record of these calls with any
-- comments has the report of that session.
abbrev pub RecordsAreReported : Type 0
RecordsAreReported =
    (config : Config) (words : List Word) (items : List RecordItem) (moves : List Effect) (state : SessionState) →
    config_fault config ≡ Ok tt → are_accepted words ≡ true → AllByRecursion HasName words →
    AllByRecursion IsItem items → record_count words items ≤ most_lines →
    Runs (initial_state (limits_with config words)) (events_of (calls_in items)) moves state →
    IsReported config words items moves state

-- ---- ports

-- a whole record without a call: its head, and these comments
pub record HasBegun (config : Config) (words : List Word) (comments : List RecordItem) (written : Written) : Type 0 where
  pub no_call : calls_in comments ≡ []
  pub fit : AllByRecursion IsItem comments
  pub text : written.text ≡ Some (record_text config words comments)
  pub lines : written.lines ≡ record_count words comments
  pub few : record_count words comments ≤ most_lines
  pub ending : written.ending ≡ Whole

-- The record of these calls: its head, and the lines of items whose calls are a prefix of them, at most as many as a log
-- may have. A whole record has the lines of all calls, and a full one has the greatest number of lines.
pub record HasItems (config : Config) (words : List Word) (trace : List PortCall) (written : Written) : Type 0 where
  pub items : List RecordItem
  pub rest : List PortCall
  pub whole : trace ≡ calls_in items ++ rest
  pub text : written.text ≡ Some (record_text config words items)
  pub few : record_count words items ≤ most_lines
  pub fit : AllByRecursion IsItem items
  pub all : written.ending ≡ Whole → rest ≡ []
  pub full : written.ending ≡ Full → most_lines ≤ record_count words items

-- Ports with a record and times, whatever calls are made: the record has a prefix of the calls, and all of them unless it
-- is full; or a write of its writer failed.
abbrev pub PortsAreRecorded : {P : Type 0} → (P → PortCall → P → Type 0) → Type 0 → Type 0
PortsAreRecorded {P} transition failed =
    (config : Config) (words : List Word) (comments : List RecordItem) (trace : List PortCall)
    (old new : Recorded P) → HasBegun config words comments old.record_of →
    EvolvesBy (Records transition failed) old trace new →
    (new.record_of.ending ≡ Failed → failed)
    × (new.record_of.ending ≢ Failed → HasItems config words trace new.record_of)
