-- The lines that a report with explanations adds to the plain one: they begin with four spaces or with `#`. (own)
use Rattle.std.specs.Prelude.{◌≡◌, ℕ, ◌<◌, ◌==◌, ◌||◌, Bool, not, if◌then◌else◌, List, [], ◌∷◌, ◌++◌, length, take}
use Rattle.std.specs.Prelude.{filter, codes, Option, Some, None, Result, Ok, Err}
use Rattle.std.specs.List.{concat}
use Rattle.std.specs.Str.{bytes_eq}
use Rattle.daide_words.specs.declared.word.Word.{Word}
use Rattle.daide_protocol.specs.declared.summary.Summary.{Summary}
use Rattle.daide_log_lines.specs.declared.fault.LogFault.{LogFault}
use Rattle.daide_log_lines.specs.LogLine.{IsUnbroken}
use Rattle.daide_log.specs.declared.explained.Explained.{Explained}
use Rattle.daide_log.specs.Log.{IsReportBy, IsReport}
use Rattle.daide_log.specs.Explained.{explained}

-- ---- the lines of a text

abbrev pub before_first : ℕ → List (List ℕ) → List (List ℕ)
before_first byte [] = (byte ∷ []) ∷ []
before_first byte (line ∷ lines) = (byte ∷ line) ∷ lines

-- the lines of a text, each with its line feed, which the last may lack
abbrev pub lines_in : List ℕ → List (List ℕ)
lines_in [] = []
lines_in (byte ∷ text) = if byte == 10 then (10 ∷ []) ∷ lines_in text else before_first byte (lines_in text)

-- a line of an explanation, or a comment of the log
abbrev pub is_added_line : List ℕ → Bool
is_added_line line = bytes_eq (take 4 line) (codes "    ") || bytes_eq (take 1 line) (codes "#")

-- the text without those lines
abbrev pub without_added : List ℕ → List ℕ
without_added text = concat (filter (λ line. not (is_added_line line)) (lines_in text))

-- ---- the laws

-- a result, without the number of incomplete frames
abbrev pub counts_of : Result Explained LogFault → Result Summary LogFault
counts_of (Ok answer) = Ok answer.counts
counts_of (Err fault) = Err fault

-- the number of the log's last line, if the result says that it is cut
abbrev pub cut_in : Result Explained LogFault → Option ℕ
cut_in (Ok answer) = answer.cut
cut_in (Err fault) = None

-- the log without its last line, if that line is cut: all bytes up to the last line feed
abbrev pub IsUpToCut : Option ℕ → List ℕ → List ℕ → Type 0
IsUpToCut None log judged = judged ≡ log
IsUpToCut (Some number) log judged =
    (lines : List ℕ) × (last : List ℕ) × (judged ≡ lines ++ 10 ∷ []) × (log ≡ judged ++ last) × IsUnbroken last
    × (0 < length last)

-- The report of a log with explanations, without the lines that it adds, is the plain report of that log, or of the log
-- without its last line if that is cut.
abbrev pub ExplanationOnlyAdds : Type 0
ExplanationOnlyAdds =
    (words : List Word) (log text : List ℕ) (answer : Result Explained LogFault) →
    IsReportBy (explained words) log text answer →
    (judged : List ℕ) × IsUpToCut (cut_in answer) log judged × IsReport judged (without_added text) (counts_of answer)

-- The plain report of a log has no such line.
abbrev pub PlainAddsNothing : Type 0
PlainAddsNothing =
    (log text : List ℕ) (answer : Result Summary LogFault) → IsReport log text answer → without_added text ≡ text
