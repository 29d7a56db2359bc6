-- The form of a report: the entries for the events of a line, their text, and the end of the report. There are two: the
-- plain report, and the report with explanations (`Explained`). (own)
use Rattle.std.specs.Prelude.{◌≡◌, ⊤, ℕ, Bool, List, [], ◌++◌, Option}
use Rattle.std.specs.Bool.{MatchBool}
use Rattle.daide_frame.specs.declared.side.Side.{Side}
use Rattle.daide_words.specs.declared.word.Word.{Word}
use Rattle.daide_protocol.specs.Events.{Event}
use Rattle.daide_protocol.specs.Machine.{SessionState, Effect, Runs}
use Rattle.daide_protocol.specs.declared.summary.Summary.{Summary}
use Rattle.daide_log_lines.specs.LogLine.{LogEvent}
use Rattle.daide_log.specs.declared.heading.Version.{Version}
use Rattle.daide_log.specs.declared.report.ReportKey.{ReportKey}
use Rattle.daide_log.specs.Heading.{Heading, Unnamed, Named, Headed, has_all_words}
use Rattle.daide_log.specs.Report.{events_of_line, side_of}

-- A form of report, with the type of the result for a log without a fault.
pub record ReportForm (Answer : Type 0) : Type 1 where
  pub Entry : Type 0
  -- what later entries depend on: at the beginning of a log, and after some entries
  pub Context : Type 0
  pub fresh : Context
  pub next : Context → List Entry → Context
  -- the text of an entry, and the counts with this entry
  pub text : Entry → List ℕ
  pub counted : Entry → Summary → Summary
  -- a side's events take the session to the new state with these moves, which have these entries
  pub tells : Context → ReportKey → Side → SessionState → List Event → List Effect → SessionState → List Entry → Type 0
  -- the same for a line and its event
  pub line : Context → List ℕ → ReportKey → LogEvent → SessionState → List Effect → SessionState → List Entry → Type 0
  -- the entries of a line without an event
  pub quiet : List ℕ → List Entry → Type 0
  -- the entries of a line of the head
  pub opens : Heading → List Entry → Type 0
  -- whether a last line that is cut is no fault
  pub cuts : Bool
  -- the text between the entries and the counts, and the result, by the number of the last line if it is cut, and by the
  -- final states of the sessions
  pub closing : Option ℕ → Version → List SessionState → List ℕ
  pub answer : Summary → Option ℕ → Version → List SessionState → Answer
  -- whether memory may be refused while the lines are judged
  pub late : Bool

-- a complete head has these words
abbrev pub HasWords : List Word → Heading → Type 0
HasWords words Unnamed = ⊤
HasWords words (Named version) = ⊤
HasWords words (Headed head) = MatchBool (has_all_words head) (head.words ≡ words) ⊤

-- The properties of a form that a check can write, for a log with these words. Without a move there is no entry. The
-- entries of consecutive events are concatenated, and so are those of a line.
pub record IsWritableForm {Answer : Type 0} (words : List Word) (form : ReportForm Answer) : Type 0 where
  pub silent : (context : form.Context) (source : ReportKey) (side : Side) (old new : SessionState) (events : List Event) →
      Runs old events [] new → form.tells context source side old events [] new []
  pub more : (context : form.Context) (source : ReportKey) (side : Side) (old mid new : SessionState)
      (events later : List Event) (moves others : List Effect) (reported rest : List form.Entry) →
      form.tells context source side old events moves mid reported →
      form.tells (form.next context reported) source side mid later others new rest →
      form.tells context source side old (events ++ later) (moves ++ others) new (reported ++ rest)
  pub of_line : (context : form.Context) (line : List ℕ) (source : ReportKey) (event : LogEvent) (old : SessionState)
      (moves : List Effect) (new : SessionState) (first reported : List form.Entry) → form.quiet line first →
      form.tells context source (side_of event) old (events_of_line event) moves new reported →
      form.line context line source event old moves new (first ++ reported)
  pub next_none : (context : form.Context) → form.next context [] ≡ context
  pub next_more : (context : form.Context) (reported rest : List form.Entry) →
      form.next context (reported ++ rest) ≡ form.next (form.next context reported) rest
  pub next_quiet : (context : form.Context) (line : List ℕ) (first : List form.Entry) → form.quiet line first →
      form.next context first ≡ context
  pub of_head : (heading : Heading) → HasWords words heading → form.opens heading []
