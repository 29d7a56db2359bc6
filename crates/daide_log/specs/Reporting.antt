-- The entries and the counts of a session's moves. (own)
use Rattle.std.specs.Prelude.{◌≡◌, ◌≢◌, ◌⊎◌, ⊤, true, Ok, ℕ, ◌≤◌, List, [], ◌∷◌, ◌++◌, length, Option, Some, None}
use Rattle.std.specs.Io.KnownBytes.{Appends}
use Rattle.daide_frame.specs.declared.side.Side.{Side}
use Rattle.daide_causes.specs.Causes.{HasFailed}
use Rattle.daide_protocol.specs.declared.note.Note.{Note}
use Rattle.daide_protocol.specs.declared.note.Note.TheVariants as Notes
use Rattle.daide_frame.specs.declared.side.Side.TheVariants.{Bot}
use Rattle.daide_protocol.specs.Events.{Event, Ends, ImTimerExpired, OperatorStops, bytes_come}
use Rattle.daide_protocol.specs.Machine.{SessionState, Effect, Runs, coming}
use Rattle.daide_protocol.specs.Wires.{SessionView, ReceivesBytes, holding, room_of}
use Rattle.daide_protocol.specs.Summary.{count_note}
use Rattle.daide_log.specs.declared.report.ReportKey.{ReportKey}
use Rattle.daide_protocol.specs.declared.summary.Summary.{Summary}
use Rattle.daide_words.specs.declared.word.Word.{Word}
use Rattle.daide_protocol.specs.declared.config.Config.{Config}
use Rattle.daide_protocol.specs.Config.{config_fault, limits_with}
use Rattle.daide_log_lines.specs.declared.event_line.ParsedEvent.{ParsedEvent}
use Rattle.daide_log_lines.specs.declared.event_line.ParsedEvent.TheVariants as ParsedEvents
use Rattle.daide_log_lines.specs.declared.fault.LogFault.{LogFault}
use Rattle.daide_log_lines.specs.declared.fault.LogFault.TheVariants as Faults
use Rattle.daide_log.specs.declared.page.Unreported.{Unreported}
use Rattle.daide_log.specs.declared.page.Unreported.TheVariants.{Write, Memory}
use Rattle.daide_log.specs.ReportForm.{ReportForm}
use Rattle.daide_log.specs.Report.{move_line, texts_of, counted_over}

-- ---- moves of a session

-- no frame is queued for either side
pub record IsIdle (g : SessionView) : Type 0 where
  pub bot : g.wires.bot ≡ []
  pub server : g.wires.server ≡ []

-- there is at most one move, and this is its note
abbrev pub IsOneEffect : List Effect → Note → Type 0
IsOneEffect [] reported = reported ≡ Notes.Nothing
IsOneEffect (move ∷ []) reported = (move.reported ≡ reported) × (reported ≢ Notes.Nothing)
IsOneEffect (move ∷ another ∷ moves) reported = ⊥

-- These events move the session; its moves are counted, and their entries written. `knew` and `knows` say what was known
-- of earlier entries before and after it.
abbrev pub ReportsEvents : {Answer : Type 0} → (form : ReportForm Answer) → (form.Context → Type 0) → (form.Context → Type 0) →
    ReportKey → Side → SessionState → List Event → SessionState → Summary → Summary → Option (List ℕ) → Option (List ℕ) →
    Type 0
ReportsEvents form knew knows source side old events new before after written_before written_after =
    (context : form.Context) → knew context →
    (moves : List Effect) × (reported : List form.Entry) × Runs old events moves new
    × form.tells context source side old events moves new reported × (after ≡ counted_over form.counted reported before)
    × Appends written_before written_after (texts_of form.text reported) × knows (form.next context reported)

-- ---- one move

-- The cause of a session's move: a side's bytes, that side's end, the timer, which is the bot's, or a stop.
pub data IsCaused (old : SessionView) (events : List Event) (side : Side) (reported : Note) (new : SessionView) : Type 0 where
  by_bytes : (piece : List ℕ) → events ≡ bytes_come side piece → length piece ≤ room_of old side →
      (holding old side).frame_bytes ≡ (coming old.state side).pending → ReceivesBytes old side piece reported new →
      IsCaused old events side reported new
  by_end : events ≡ Ends side ∷ [] → IsCaused old events side reported new
  by_timer : events ≡ ImTimerExpired ∷ [] → side ≡ Bot → (holding new side).frame_bytes ≡ (coming old.state side).pending →
      IsCaused old events side reported new
  by_stop : events ≡ OperatorStops ∷ [] → reported ≡ Notes.Stopped → IsCaused old events side reported new

-- These events cause one move of the session, with this note; the session still holds its frame.
pub record IsMade (old : SessionView) (events : List Event) (side : Side) (reported : Note) (new : SessionView) : Type 0 where
  pub move : Effect
  pub run : Runs old.state events (move ∷ []) new.state
  pub same : move.reported ≡ reported
  pub caused : IsCaused old events side reported new

-- the note of a move, if there was a move
abbrev pub note_of_move : Note → Option Note
note_of_move Notes.Nothing = None
note_of_move (Notes.Frame head deed) = Some (Notes.Frame head deed)
note_of_move (Notes.Fault code) = Some (Notes.Fault code)
note_of_move Notes.Stopped = Some Notes.Stopped

-- these events cause one move of the session, with this note, or none
abbrev pub Moves : SessionView → List Event → Side → Option Note → SessionView → Type 0
Moves old events side None new = Runs old.state events [] new.state
Moves old events side (Some reported) new = IsMade old events side reported new

-- an event without bytes
abbrev pub IsBare : ParsedEvent → Type 0
IsBare (ParsedEvents.Received side count) = ⊥
IsBare (ParsedEvents.EndOf side) = ⊤
IsBare ParsedEvents.ImTimerLine = ⊤
IsBare ParsedEvents.StopLine = ⊤
IsBare ParsedEvents.Silence = ⊤

-- the lines after the line of a move, so that both together are the move's entries
abbrev pub IsReportedWith : {Answer : Type 0} → (form : ReportForm Answer) → form.Context → (form.Context → Type 0) →
    ReportKey → Side → Note → SessionView → List ℕ → Type 0
IsReportedWith form context knows source side reported new added =
    (old : SessionView) (events : List Event) → (made : IsMade old events side reported new) →
    (entries : List form.Entry) × form.tells context source side old.state events (made.move ∷ []) new.state entries
    × (texts_of form.text entries ≡ move_line source side reported ++ added)
    × ((before : Summary) → counted_over form.counted entries before ≡ count_note reported before)
    × knows (form.next context entries)

-- what a style knew of earlier entries: these lines follow the line of a move, and were written
abbrev pub ReportsMove : {Answer : Type 0} → (form : ReportForm Answer) → (form.Context → Type 0) → (form.Context → Type 0) →
    ReportKey → Side → Note → SessionView → (List ℕ → List ℕ) → Option (List ℕ) → Option (List ℕ) → Type 0
ReportsMove form knew knows source side reported new whole before after =
    (context : form.Context) → knew context →
    (added : List ℕ) × IsReportedWith form context knows source side reported new added × Appends before after (whole added)

-- the entries of a line without an event, which are not counted
abbrev pub IsQuietWith : {Answer : Type 0} → ReportForm Answer → List ℕ → List ℕ → Type 0
IsQuietWith form line text =
    (reported : List form.Entry) × form.quiet line reported × (texts_of form.text reported ≡ text)
    × ((before : Summary) → counted_over form.counted reported before ≡ before)

-- ---- sessions between two lines

-- the session has these limits, which are valid, and these words
pub record IsUnder (config : Config) (words : List Word) (g : SessionView) : Type 0 where
  pub limits : g.state.limits ≡ limits_with config words
  pub accepted : config_fault config ≡ Ok tt

-- and no frame is queued for either side
pub record IsReady (config : Config) (words : List Word) (g : SessionView) : Type 0 where
  pub idle : IsIdle g
  pub under : IsUnder config words g

-- ---- faults

-- a line of a report is missing because a write failed; `Fails` is the relation of that name of the writer
abbrev pub IsFailedWrite : {W : Type 0} → (W → W → Type 0) → Unreported → Type 0
IsFailedWrite Fails fault = (fault ≡ Write) × HasFailed Fails

-- why a line of a report may be missing: a write failed, or memory was refused, in a form that allocates late; `failed`
-- and `refused` state that these happened
abbrev pub IsCauseIn : {Answer : Type 0} → ReportForm Answer → Type 0 → Type 0 → Unreported → Type 0
IsCauseIn form failed refused Write = failed
IsCauseIn form failed refused Memory = (form.late ≡ true) × refused

-- the same, as a fault of the log
abbrev pub IsLateFault : {Answer : Type 0} → ReportForm Answer → Type 0 → Type 0 → LogFault → Type 0
IsLateFault form failed refused fault =
    ((fault ≡ Faults.Write) × failed) ⊎ ((fault ≡ Faults.Memory) × (form.late ≡ true) × refused)

abbrev pub fault_of_unreported : Unreported → LogFault
fault_of_unreported Write = Faults.Write
fault_of_unreported Memory = Faults.Memory
