-- The log of a match and each session's own log: a session behaves as if it were alone. (own)
use Rattle.std.specs.Prelude.{◌≡◌, ◌⊎◌, ℕ, ◌<◌, ◌≤◌, ◌==◌, Bool, false, if◌then◌else◌, List, [], ◌∷◌, ◌++◌, length}
use Rattle.std.specs.Prelude.{map, codes, Option, Some, None, Ok}
use Rattle.daide_log.specs.declared.config_line.MatchConfig.{MatchConfig}
use Rattle.daide_protocol.specs.declared.summary.Summary.{Summary}
use Rattle.daide_log_lines.specs.LogLine.{IsUnbroken, longest_line, Parted, is_comment, parted_at_space, plain_number}
use Rattle.daide_log_lines.specs.LogLine.{without_cr}
use Rattle.daide_log.specs.ConfigLine.{config_of_line, match_config_of_line}
use Rattle.daide_protocol.specs.Summary.{nothing_counted}
use Rattle.daide_log.specs.Report.{ReportEntry, lines_of, counted_all, summary_line}
use Rattle.daide_log.specs.Log.{IsReport}

-- ---- the lines of a log

-- These are a log's lines, each without its line end. None is too long, and the last may lack its line feed.
abbrev pub IsLines : List ℕ → List (List ℕ) → Type 0
IsLines log [] = log ≡ []
IsLines log (line ∷ lines) =
    ((lines ≡ []) × (log ≡ line) × (0 < length line) × IsUnbroken line × (length line ≤ longest_line))
    ⊎ ((whole : List ℕ) × (rest : List ℕ) × (log ≡ whole ++ 10 ∷ rest) × IsUnbroken whole
    × (length whole ≤ longest_line) × (line ≡ without_cr whole) × IsLines rest lines)

-- ---- a session's own log

abbrev pub is_number : ℕ → Option ℕ → Bool
is_number session None = false
is_number session (Some number) = number == session

abbrev pub own_of : ℕ → Option Parted → List ℕ
own_of session None = codes "#"
own_of session (Some parted) = if is_number session (plain_number parted.word) then parted.rest else codes "#"

-- A line of the session, without the number and the space after it; `#` for every other session's line; and a line
-- without an event as it is.
abbrev pub own_line : ℕ → List ℕ → List ℕ
own_line session line = if is_comment line then line else own_of session (parted_at_space line)

-- a move of the session, without the session's number
abbrev pub unnumbered : ReportEntry → ReportEntry
unnumbered entry =
    record { source = record { line = entry.source.line; session = None }; side = entry.side; reported = entry.reported }

-- the entries of the session
abbrev pub own_reported : ℕ → List ReportEntry → List ReportEntry
own_reported session [] = []
own_reported session (entry ∷ entries) =
    if is_number session entry.source.session then unnumbered entry ∷ own_reported session entries
    else own_reported session entries

-- ---- the law

-- If the log of a match without words has no fault, its report is the lines of its moves and the last line. Take the
-- log of version 1 with the same limits, the session's lines without the number, and `#` for every other session's
-- line. Its report is the session's lines without the number, and their counts.
abbrev pub SessionsAreAlone : Type 0
SessionsAreAlone =
    (log own : List ℕ) (second own_second : List ℕ) (lines : List (List ℕ)) (limits : MatchConfig) (session : ℕ)
    (text : List ℕ) (summary : Summary) →
    IsLines log (codes "daide-log 2" ∷ second ∷ lines) → match_config_of_line second ≡ Some limits → limits.words ≡ 0 →
    0 < session → session ≤ limits.sessions →
    IsLines own (codes "daide-log 1" ∷ own_second ∷ map (own_line session) lines) →
    config_of_line own_second ≡ Some limits.config → IsReport log text (Ok summary) →
    (reported : List ReportEntry) × (text ≡ lines_of reported ++ summary_line summary)
    × IsReport own
    (lines_of (own_reported session reported) ++ summary_line (counted_all (own_reported session reported) nothing_counted))
    (Ok (counted_all (own_reported session reported) nothing_counted))
