-- One application of both laws of `laws`, to the log of its first two lines. Each fact depends on the law alone, so
-- that a weakened law fails to check.
use Rattle.std.proofs.Common.{◌≡◌, ℕ, ◌<◌, List, [], ◌∷◌, ◌++◌, length, codes, Some, None, Ok, subst}
use Rattle.daide_words.specs.declared.word.Word.{Word}
use Rattle.daide_protocol.specs.declared.summary.Summary.{Summary}
use Rattle.daide_log.specs.Explained.{explained}
use Rattle.daide_log.specs.Log.{IsReport, IsReportBy}
use Rattle.daide_log.proofs.StandardFacts.{opening_lines, two_lines_alone}
use Rattle.daide_log_laws.specs.Added.{ExplanationOnlyAdds, PlainAddsNothing, without_added}

-- the report with explanations, without its added lines, is the plain report
adds : ExplanationOnlyAdds → (words : List Word) (text : List ℕ) (counts : Summary) (unfinished : ℕ) →
    IsReportBy (explained words) opening_lines text (Ok (record { counts = counts; unfinished = unfinished; cut = None })) →
    IsReport opening_lines (without_added text) (Ok counts)
adds law words text counts unfinished h =
    let all = law words opening_lines text (Ok (record { counts = counts; unfinished = unfinished; cut = None })) h in
    subst (λ (l : List ℕ). IsReport l (without_added text) (Ok counts)) all.1 all.2

-- a log that is cut in its third line: the report without its added lines is that of lines which end before it
adds_before : ExplanationOnlyAdds → (words : List Word) (text : List ℕ) (counts : Summary) (unfinished : ℕ) →
    IsReportBy (explained words) (opening_lines ++ codes "bot 0") text
    (Ok (record { counts = counts; unfinished = unfinished; cut = Some 3 })) →
    (judged last : List ℕ) × (opening_lines ++ codes "bot 0" ≡ judged ++ last) × (0 < length last)
    × IsReport judged (without_added text) (Ok counts)
adds_before law words text counts unfinished h =
    let all = law words (opening_lines ++ codes "bot 0") text
    (Ok (record { counts = counts; unfinished = unfinished; cut = Some 3 })) h in
    (all.0, all.1.1, all.1.3, all.1.5, all.2)

-- the line of the counts is kept
stays : PlainAddsNothing → without_added ([] ++ codes "relayed 0 prn 0 huh 0 faults 0" ++ 10 ∷ [])
    ≡ [] ++ codes "relayed 0 prn 0 huh 0 faults 0" ++ 10 ∷ []
stays law =
    law opening_lines ([] ++ codes "relayed 0 prn 0 huh 0 faults 0" ++ 10 ∷ [])
    (Ok (record { relayed = 0; prn = 0; huh = 0; faults = 0 })) two_lines_alone
