-- The report of a log: the entries of its lines, each judged by its session in the state that earlier lines left, with
-- the session's queues emptied at once. docs/FORMATS.md, "The log" and "The log, version 2". (own)
use Rattle.std.specs.Prelude.{◌≡◌, ⊤, ℕ, Bool, true, false, ◌+◌, ◌-◌, ◌<◌, ◌≤◌, if◌then◌else◌, List, [], ◌∷◌, ◌++◌, length}
use Rattle.std.specs.Prelude.{replicate, slice_get, slice_set, Option, Some, None, option_map, Result, Ok, Err}
use Rattle.daide_protocol.specs.Machine.{SessionState, Effect, Runs, initial_state}
use Rattle.daide_protocol.specs.Config.{limits_with}
use Rattle.daide_log.specs.declared.heading.Version.{Version}
use Rattle.daide_log.specs.declared.heading.Version.TheVariants.{Single, Match}
use Rattle.daide_log.specs.declared.report.ReportKey.{ReportKey}
use Rattle.daide_protocol.specs.declared.summary.Summary.{Summary}
use Rattle.daide_log_lines.specs.declared.fault.LogFault.{LogFault}
use Rattle.daide_log_lines.specs.declared.fault.LogFault.TheVariants.{BadLine, LineTooLong, TooManyLines}
use Rattle.daide_log_lines.specs.LogLine.{IsUnbroken, most_lines, longest_line, event_of_line, without_cr}
use Rattle.daide_log_lines.specs.MatchLine.{MatchEvent, Of, Quiet, match_event_of_line}
use Rattle.daide_log.specs.Heading.{Preamble, Heading, Unnamed, Named, Headed, heading_after, has_all_words}
use Rattle.daide_log_lines.specs.LogLine.{LogEvent}
use Rattle.daide_log.specs.ReportForm.{ReportForm}
use Rattle.daide_log.specs.Report.{ReportEntry, events_of_line, side_of, entries_of, move_line, texts_of, counted_over, summary_line}
use Rattle.daide_protocol.specs.Summary.{count_note, nothing_counted}

-- ---- events

-- the event of a line after the head, with this number of sessions; in version 1 it is an event of the only session
abbrev pub event_in : Version → ℕ → List ℕ → Option MatchEvent
event_in Single sessions line = option_map (Of 1) (event_of_line line)
event_in Match sessions line = match_event_of_line sessions line

-- the key of a move in the report: the line, and in version 2 the session
abbrev pub source_in : Version → ℕ → ℕ → ReportKey
source_in Single line session = record { line = line; session = None }
source_in Match line session = record { line = line; session = Some session }

-- the event of this line moves the session that it names and no other; the session's moves have these entries
abbrev pub IsPlayedAs : {E : Type 0} → (List E → Type 0) →
    (ReportKey → LogEvent → SessionState → List Effect → SessionState → List E → Type 0) →
    Version → ℕ → MatchEvent → List SessionState → List E → List SessionState → Type 0
IsPlayedAs quiet tells version line Quiet old reported new = quiet reported × (new ≡ old)
IsPlayedAs quiet tells version line (Of session event) old reported new =
    (before : SessionState) × (after : SessionState) × (moves : List Effect)
    × (slice_get old (session - 1) ≡ Some before) × Runs before (events_of_line event) moves after
    × tells (source_in version line session) event before moves after reported
    × (new ≡ slice_set old (session - 1) after)

-- in the plain report a line without an event has no entry, and each move has one
abbrev pub IsPlayed : Version → ℕ → MatchEvent → List SessionState → List ReportEntry → List SessionState → Type 0
IsPlayed =
    IsPlayedAs (λ reported. reported ≡ [])
    (λ source event before moves after reported. reported ≡ entries_of source (side_of event) moves)

-- the plain report
abbrev pub plain : ReportForm Summary
plain = record {
  Entry = ReportEntry;
  Context = Unit {0};
  fresh = tt;
  next = λ context entries. context;
  text = λ entry. move_line entry.source entry.side entry.reported;
  counted = λ entry before. count_note entry.reported before;
  tells = λ context source side before events moves after reported. reported ≡ entries_of source side moves;
  line = λ context line source event before moves after reported. reported ≡ entries_of source (side_of event) moves;
  quiet = λ line reported. reported ≡ [];
  opens = λ heading reported. reported ≡ [];
  cuts = false;
  closing = λ cut version sessions. [];
  answer = λ summary cut version sessions. summary;
  late = false;
}

-- ---- one line

-- the state of a log
pub data LogState : Type 0 where
  Opening : (heading : Heading) → LogState  -- a line of the head is to come
  Playing : (version : Version) → (sessions : List SessionState) → LogState  -- all did, and what the sessions are since

-- the sessions of a complete head, in their initial state
abbrev pub state_after_preamble : Preamble → LogState
state_after_preamble head =
    Playing head.version (replicate head.limits.sessions (initial_state (limits_with head.limits.config head.words)))

abbrev pub stage_at : Heading → LogState
stage_at Unnamed = Opening Unnamed
stage_at (Named version) = Opening (Named version)
stage_at (Headed head) = if has_all_words head then state_after_preamble head else Opening (Headed head)

-- the line of this number takes the log to its next state, with these entries after earlier ones
abbrev pub GoesOnBy : {Answer : Type 0} → (form : ReportForm Answer) → form.Context → ℕ → LogState → List ℕ →
    List form.Entry → LogState → Type 0
GoesOnBy form context number (Opening old) line reported new =
    (heading : Heading) × (heading_after old line ≡ Some heading) × form.opens heading reported × (new ≡ stage_at heading)
GoesOnBy form context number (Playing version old) line reported new =
    (event : MatchEvent) × (event_in version (length old) line ≡ Some event)
    × (sessions : List SessionState)
    × IsPlayedAs (form.quiet line) (form.line context line) version number event old reported sessions
    × (new ≡ Playing version sessions)

abbrev pub AdvancesByLine : ℕ → LogState → List ℕ → List ReportEntry → LogState → Type 0
AdvancesByLine = GoesOnBy plain tt

-- the line has none of the forms allowed here
abbrev pub IsBad : LogState → List ℕ → Type 0
IsBad (Opening heading) line = heading_after heading line ≡ None
IsBad (Playing version sessions) line = event_in version (length sessions) line ≡ None

-- After the head, a last line without a line feed and without an allowed form is cut. Whether that is no fault depends
-- on the form of the report.
abbrev pub reads_cut : {Answer : Type 0} → ReportForm Answer → LogState → Bool
reads_cut form (Opening heading) = false
reads_cut form (Playing version sessions) = form.cuts

-- the head is not complete
abbrev pub IsOpening : LogState → Type 0
IsOpening (Opening heading) = ⊤
IsOpening (Playing version sessions) = ⊥

-- ---- the lines

module _ {Answer : Type 0} (form : ReportForm Answer) where
  -- These bytes are this number of lines, each with its line feed, and these are their entries.
  pub data ReportsBy : List ℕ → ℕ → List form.Entry → LogState → Type 0 where
    none : ReportsBy [] 0 [] (Opening Unnamed)
    line : (bytes : List ℕ) (number : ℕ) (reported : List form.Entry) (old : LogState) → ReportsBy bytes number reported old →
        (line : List ℕ) (more : List form.Entry) (new : LogState) →
        number < most_lines → IsUnbroken line → length line ≤ longest_line →
        GoesOnBy form (form.next form.fresh reported) (number + 1) old (without_cr line) more new →
        ReportsBy (bytes ++ line ++ 10 ∷ []) (number + 1) (reported ++ more) new

  -- the same for all lines of a log, the last of which may lack its line feed
  pub data ReportsAllBy : List ℕ → ℕ → List form.Entry → LogState → Type 0 where
    ended : (bytes : List ℕ) (number : ℕ) (reported : List form.Entry) (stage : LogState) → ReportsBy bytes number reported stage →
        ReportsAllBy bytes number reported stage
    unended : (bytes : List ℕ) (number : ℕ) (reported : List form.Entry) (old : LogState) → ReportsBy bytes number reported old →
        (line : List ℕ) (more : List form.Entry) (new : LogState) →
        number < most_lines → 0 < length line → IsUnbroken line → length line ≤ longest_line →
        GoesOnBy form (form.next form.fresh reported) (number + 1) old line more new → ReportsAllBy (bytes ++ line) (number + 1) (reported ++ more) new

  -- ---- the whole log

  -- The report of a log and its result: the counts, or the first fault, which follows the report of the lines before
  -- it.
  pub data IsReportBy : List ℕ → List ℕ → Result Answer LogFault → Type 0 where
    whole : (log : List ℕ) (number : ℕ) (reported : List form.Entry) (version : Version) (sessions : List SessionState) →
        ReportsAllBy log number reported (Playing version sessions) →
        IsReportBy log (texts_of form.text reported
        ++ (form.closing None version sessions ++ summary_line (counted_over form.counted reported nothing_counted)))
        (Ok (form.answer (counted_over form.counted reported nothing_counted) None version sessions))
    -- the last line is cut, and the report is that of the lines before it
    cut : (bytes : List ℕ) (number : ℕ) (reported : List form.Entry) (version : Version) (sessions : List SessionState) →
        ReportsBy bytes number reported (Playing version sessions) →
        (line : List ℕ) → number < most_lines → 0 < length line → IsUnbroken line → length line ≤ longest_line →
        IsBad (Playing version sessions) line → form.cuts ≡ true →
        IsReportBy (bytes ++ line) (texts_of form.text reported
        ++ (form.closing (Some (number + 1)) version sessions
        ++ summary_line (counted_over form.counted reported nothing_counted)))
        (Ok (form.answer (counted_over form.counted reported nothing_counted) (Some (number + 1)) version sessions))
    -- the log ends before its head is complete
    cut_short : (log : List ℕ) (number : ℕ) (reported : List form.Entry) (stage : LogState) → ReportsAllBy log number reported stage →
        IsOpening stage → IsReportBy log (texts_of form.text reported) (Err (BadLine (number + 1)))
    -- a line without an allowed form, with its line feed
    bad : (bytes : List ℕ) (number : ℕ) (reported : List form.Entry) (stage : LogState) → ReportsBy bytes number reported stage →
        (line after : List ℕ) → number < most_lines → IsUnbroken line → length line ≤ longest_line →
        IsBad stage (without_cr line) →
        IsReportBy (bytes ++ line ++ 10 ∷ after) (texts_of form.text reported) (Err (BadLine (number + 1)))
    -- or without a line feed, unless it is cut
    bad_last : (bytes : List ℕ) (number : ℕ) (reported : List form.Entry) (stage : LogState) → ReportsBy bytes number reported stage →
        (line : List ℕ) → number < most_lines → 0 < length line → IsUnbroken line → length line ≤ longest_line →
        IsBad stage line → reads_cut form stage ≡ false →
        IsReportBy (bytes ++ line) (texts_of form.text reported) (Err (BadLine (number + 1)))
    too_long : (bytes : List ℕ) (number : ℕ) (reported : List form.Entry) (stage : LogState) → ReportsBy bytes number reported stage →
        (line after : List ℕ) → number < most_lines → IsUnbroken line → longest_line < length line →
        IsReportBy (bytes ++ line ++ after) (texts_of form.text reported) (Err (LineTooLong (number + 1)))
    too_many : (bytes : List ℕ) (reported : List form.Entry) (stage : LogState) → ReportsBy bytes most_lines reported stage →
        (after : List ℕ) → 0 < length after → IsReportBy (bytes ++ after) (texts_of form.text reported) (Err TooManyLines)

-- ---- the plain report

abbrev pub Reports : List ℕ → ℕ → List ReportEntry → LogState → Type 0
Reports = ReportsBy plain

abbrev pub ReportsAll : List ℕ → ℕ → List ReportEntry → LogState → Type 0
ReportsAll = ReportsAllBy plain

abbrev pub IsReport : List ℕ → List ℕ → Result Summary LogFault → Type 0
IsReport = IsReportBy plain
