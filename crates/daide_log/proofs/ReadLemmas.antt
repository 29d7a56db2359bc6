-- No read is in time after bytes that have a fault.
use Rattle.daide_log.proofs.Common.{◌≡◌, ℕ, zero, suc, ◌+◌, ◌<◌, ◌≤◌, ◌⊎◌, inl, inr, List, [], ◌∷◌, ◌++◌, length}
use Rattle.daide_log.proofs.Common.{replicate, Option, Result, Err, refl, sym, ap, ◌∙◌, subst, arith, append-nil}
use Rattle.daide_log.proofs.Common.{append_assoc, length-append, cases_lt, Summary, LogFault, LineTooLong, TooManyLines}
use Rattle.daide_log.proofs.Common.{IsUnbroken, longest_line, most_lines, Unnamed, ReportEntry, lines_of, HasFault}
use Rattle.daide_log_lines.proofs.LineLemmas.{unbroken_append}
use Rattle.daide_log.specs.Log.{plain, ReportsBy, IsReportBy, LogState, Opening, Reports, IsReport}
use Rattle.daide_log.specs.Progress.{IsInTime}
use Rattle.daide_log.proofs.StepLemmas.{one_end}
use Rattle.daide_log.proofs.OneReport.{Goes, feeds, from_front, one_report}

-- ---- the rest after a number of lines

same_left : (lines others : List (List ℕ)) (n : ℕ) (old first : LogState) (reported other : List ReportEntry) (stage last : LogState)
    (rest left : List ℕ) → Goes n old lines reported stage → Goes n first others other last → length lines ≡ length others →
    feeds lines ++ rest ≡ feeds others ++ left → rest ≡ left
same_left [] [] n old first reported other stage last rest left p q count e = e
same_left [] (k ∷ ks) n old first reported other stage last rest left p q count e = absurd (omega (arith, count))
same_left (l ∷ ls) [] n old first reported other stage last rest left p q count e = absurd (omega (arith, count))
same_left (l ∷ ls) (k ∷ ks) n old first reported other stage last rest left p q count e =
    let both = one_end l k (feeds ls ++ rest) (feeds ks ++ left) p.4 q.4
    (sym (append_assoc l (10 ∷ feeds ls) rest) ∙ (e ∙ append_assoc k (10 ∷ feeds ks) left)) in
    same_left ls ks (n + 1) p.0 q.0 p.2 q.2 stage last rest left p.7 q.7 (omega (arith, count)) both.1

one_left : (bytes front : List ℕ) (n : ℕ) (reported before : List ReportEntry) (stage old : LogState) (rest left : List ℕ) →
    Reports bytes n reported stage → Reports front n before old → bytes ++ rest ≡ front ++ left → rest ≡ left
one_left bytes front n reported before stage old rest left p q e =
    let a = from_front bytes n reported stage p in
    let b = from_front front n before old q in
    same_left a.lines b.lines 0 (Opening Unnamed) (Opening Unnamed) reported before stage old rest left a.goes b.goes
    (a.count ∙ sym b.count)
    (sym (ap (λ (l : List ℕ). l ++ rest) a.whole) ∙ (e ∙ ap (λ (l : List ℕ). l ++ left) b.whole))

few_lines : (bytes : List ℕ) (n : ℕ) (reported : List ReportEntry) (stage : LogState) → Reports bytes n reported stage → n ≤ most_lines
few_lines _ _ _ _ ReportsBy.none = omega arith
few_lines _ _ _ _ (ReportsBy.line bytes n reported old reports line more new fewer unbroken short on) = omega (arith, fewer)

-- ---- faults that a log does not have

not_too_long : (log text : List ℕ) (answer : Result Summary LogFault) (bytes line : List ℕ) (n : ℕ) (reported : List ReportEntry)
    (stage : LogState) → IsReport log text answer → answer ≡ Err (LineTooLong (n + 1)) → Reports bytes n reported stage →
    log ≡ bytes ++ line → length line ≤ longest_line → ⊥
not_too_long _ _ _ bytes line n reported stage (IsReportBy.whole _ _ _ _ _ _) e p is short = absurd (cc)
not_too_long _ _ _ bytes line n reported stage (IsReportBy.cut_short _ _ _ _ _ _) e p is short = absurd (cc)
not_too_long _ _ _ bytes line n reported stage (IsReportBy.bad _ _ _ _ _ _ _ _ _ _ _) e p is short = absurd (cc)
not_too_long _ _ _ bytes line n reported stage (IsReportBy.bad_last _ _ _ _ _ _ _ _ _ _ _ _) e p is short = absurd (cc)
not_too_long _ _ _ bytes line n reported stage (IsReportBy.cut _ _ _ _ _ _ _ _ _ _ _ _ cuts) e p is short = absurd (cc)
not_too_long _ _ _ bytes line n reported stage (IsReportBy.too_long front k before old q long after fewer unbroken longer) e p is
    short =
    let next : k + 1 ≡ n + 1 = cc in
    let same : k ≡ n = omega (arith, next) in
    let left : line ≡ long ++ after = one_left bytes front n reported before stage old line (long ++ after) p
    (subst (λ (m : ℕ). Reports front m before old) same q) (sym is ∙ append_assoc front long after) in
    absurd (omega (arith, longer, short, ap length left, length-append long after))
not_too_long _ _ _ bytes line n reported stage (IsReportBy.too_many _ _ _ _ _ _) e p is short = absurd (cc)

not_too_many : (log text : List ℕ) (answer : Result Summary LogFault) (reported : List ReportEntry) (stage : LogState) →
    IsReport log text answer → answer ≡ Err TooManyLines → Reports log most_lines reported stage → ⊥
not_too_many _ _ _ reported stage (IsReportBy.whole _ _ _ _ _ _) e p = absurd (cc)
not_too_many _ _ _ reported stage (IsReportBy.cut_short _ _ _ _ _ _) e p = absurd (cc)
not_too_many _ _ _ reported stage (IsReportBy.bad _ _ _ _ _ _ _ _ _ _ _) e p = absurd (cc)
not_too_many _ _ _ reported stage (IsReportBy.bad_last _ _ _ _ _ _ _ _ _ _ _ _) e p = absurd (cc)
not_too_many _ _ _ reported stage (IsReportBy.cut _ _ _ _ _ _ _ _ _ _ _ _ cuts) e p = absurd (cc)
not_too_many _ _ _ reported stage (IsReportBy.too_long _ _ _ _ _ _ _ _ _ _) e p = absurd (cc)
not_too_many _ _ _ reported stage (IsReportBy.too_many front before old q after some) e p =
    let left : [] ≡ after = one_left (front ++ after) front most_lines reported before stage old [] after p q
    (append-nil (front ++ after)) in
    absurd (omega (arith, some, ap length left))

-- ---- the bytes before a read in time have no fault

replicate_unbroken : (n : ℕ) → IsUnbroken (replicate n 65)
replicate_unbroken zero = tt
replicate_unbroken (suc n) = (λ e. absurd (omega (arith, e)), replicate_unbroken n)

no_byte : (line : List ℕ) → (0 < length line → ⊥) → line ≡ []
no_byte [] none = refl
no_byte (x ∷ line) none = absurd (none (omega arith))

pub no_fault_before_a_read : (before written : Option (List ℕ)) (came : List ℕ) (fault : LogFault) → HasFault came fault →
    IsInTime plain before came written → ⊥
no_fault_before_a_read before written came fault has t = go (cases_lt t.number most_lines)
  where
    now : (text : List ℕ) × IsReport came text (Err fault)
    now = subst (λ (l : List ℕ). (text : List ℕ) × IsReport l text (Err fault)) (append-nil came) (has [])

    -- one more byte may make the line too long
    fewer_lines : t.number < most_lines → ⊥
    fewer_lines fewer =
        let more : List ℕ = replicate 2101 65 in
        let size : length more ≡ 2101 = refl in
        let other = has more in
        let long : IsReport (came ++ more) (lines_of t.reported) (Err (LineTooLong (t.number + 1))) =
        subst (λ (l : List ℕ). IsReport l (lines_of t.reported) (Err (LineTooLong (t.number + 1))))
        (append-nil (t.bytes ++ (t.line ++ more)) ∙ (sym (append_assoc t.bytes t.line more)
        ∙ ap (λ (l : List ℕ). l ++ more) (sym t.whole)))
        (IsReportBy.too_long t.bytes t.number t.reported t.stage t.reports (t.line ++ more) [] fewer
        (unbroken_append t.line more t.begun.0 (replicate_unbroken 2101))
        (omega (arith, size, length-append t.line more))) in
        not_too_long came now.0 (Err fault) t.bytes t.line t.number t.reported t.stage now.1
        (one_report (came ++ more) other.0 (lines_of t.reported) (Err fault) (Err (LineTooLong (t.number + 1))) other.1 long).1
        t.reports t.whole t.begun.1

    -- one more byte may exceed the limit of lines
    all_lines : most_lines ≤ t.number → ⊥
    all_lines all =
        let none : t.line ≡ [] = no_byte t.line (λ some. absurd (omega (arith, all, t.begun.2 some))) in
        let whole : came ≡ t.bytes = t.whole ∙ (ap (λ (l : List ℕ). t.bytes ++ l) none ∙ append-nil t.bytes) in
        let full : t.number ≡ most_lines =
        omega (arith, all, few_lines t.bytes t.number t.reported t.stage t.reports) in
        let reports : Reports came most_lines t.reported t.stage =
        subst (λ (l : List ℕ). Reports l most_lines t.reported t.stage) (sym whole)
        (subst (λ (m : ℕ). Reports t.bytes m t.reported t.stage) full t.reports) in
        let other = has (65 ∷ []) in
        let many : IsReport (came ++ 65 ∷ []) (lines_of t.reported) (Err TooManyLines) =
        IsReportBy.too_many came t.reported t.stage reports (65 ∷ []) (omega arith) in
        not_too_many came now.0 (Err fault) t.reported t.stage now.1
        (one_report (came ++ 65 ∷ []) other.0 (lines_of t.reported) (Err fault) (Err TooManyLines) other.1 many).1 reports

    go : (t.number < most_lines) ⊎ (most_lines ≤ t.number) → ⊥
    go (inl fewer) = fewer_lines fewer
    go (inr all) = all_lines all
