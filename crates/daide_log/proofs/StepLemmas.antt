-- A log, line by line.
use Rattle.daide_log.proofs.Common.{◌≡◌, ℕ, ◌+◌, ◌<◌, ◌≤◌, inl, inr, List, [], ◌∷◌, ◌++◌, length, refl, sym, ap, ◌∙◌}
use Rattle.daide_log.proofs.Common.{subst, arith, append-nil, append_assoc, length-append, without_cr, IsUnbroken}
use Rattle.daide_log.proofs.Common.{most_lines, Unnamed, ReportEntry, IsLines}
use Rattle.daide_log.specs.Log.{ReportsBy, ReportsAllBy, LogState, Opening, AdvancesByLine, Reports, ReportsAll}

-- these lines, after this number of lines, take the log to the new state with these entries
abbrev pub Steps : ℕ → LogState → List (List ℕ) → List ReportEntry → LogState → Type 0
Steps number old [] reported new = (reported ≡ []) × (new ≡ old)
Steps number old (line ∷ lines) reported new =
    (mid : LogState) × (first : List ReportEntry) × (later : List ReportEntry) × AdvancesByLine (number + 1) old line first mid
    × Steps (number + 1) mid lines later new × (reported ≡ first ++ later)

-- one more line after them
pub steps_then : (lines : List (List ℕ)) (number count : ℕ) (line : List ℕ) (reported more : List ReportEntry) (old mid new : LogState) →
    Steps number old lines reported mid → number + length lines ≡ count → AdvancesByLine (count + 1) mid line more new →
    Steps number old (lines ++ line ∷ []) (reported ++ more) new
steps_then [] number count line reported more old mid new h e on = (
  new,
  more,
  [],
  subst (λ (stage : LogState). AdvancesByLine (number + 1) stage line more new) h.1
      (subst (λ (n : ℕ). AdvancesByLine (n + 1) mid line more new) (omega (arith, e)) on),
  (refl, refl),
  ap (λ (l : List ReportEntry). l ++ more) h.0 ∙ sym (append-nil more),
)
steps_then (l ∷ lines) number count line reported more old mid new h e on = (
  h.0,
  h.1,
  h.2 ++ more,
  h.3,
  steps_then lines (number + 1) count line h.2 more h.0 mid new h.4 (omega (arith, e)) on,
  ap (λ (l : List ReportEntry). l ++ more) h.5 ∙ append_assoc h.1 h.2 more,
)

-- ---- the end of a line

-- bytes without a line feed are not a line with one
pub no_feed : (a b c : List ℕ) → IsUnbroken a → a ≡ b ++ 10 ∷ c → ⊥
no_feed [] [] c h e = absurd (cc)
no_feed [] (y ∷ b) c h e = absurd (cc)
no_feed (x ∷ a) [] c h e = h.0 (cc)
no_feed (x ∷ a) (y ∷ b) c h e = no_feed a b c h.1 (cc)

pub one_end : (a b c d : List ℕ) → IsUnbroken a → IsUnbroken b → a ++ 10 ∷ c ≡ b ++ 10 ∷ d → (a ≡ b) × (c ≡ d)
one_end [] [] c d h k e = (refl, cc)
one_end [] (y ∷ b) c d h k e = absurd (k.0 (cc))
one_end (x ∷ a) [] c d h k e = absurd (h.0 (cc))
one_end (x ∷ a) (y ∷ b) c d h k e =
    let rest : a ++ 10 ∷ c ≡ b ++ 10 ∷ d = cc in
    let first : x ≡ y = cc in
    let both = one_end a b c d h.1 k.1 rest in (
      ap (λ (l : List ℕ). x ∷ l) both.0 ∙ ap (λ (n : ℕ). n ∷ b) first,
      both.1,
    )

-- ---- from a log to its lines

regroup : (a b c : List ℕ) → (a ++ b ++ 10 ∷ []) ++ c ≡ a ++ (b ++ 10 ∷ c)
regroup a b c = simp append_assoc

-- of the lines of what was read and of the rest, these were read
pub record AreRead (rest : List ℕ) (lines : List (List ℕ)) (number : ℕ) (reported : List ReportEntry) (stage : LogState) : Type 0 where
  pub before : List (List ℕ)
  pub after : List (List ℕ)
  pub whole : lines ≡ before ++ after
  pub count : length before ≡ number
  pub steps : Steps 0 (Opening Unnamed) before reported stage
  pub left : IsLines rest after

next_read : (line rest : List ℕ) (after : List (List ℕ)) → IsUnbroken line → IsLines (line ++ 10 ∷ rest) after →
    (others : List (List ℕ)) × (after ≡ without_cr line ∷ others) × IsLines rest others
next_read line rest [] h k = absurd (not_empty line rest k)
  where
    not_empty : (a b : List ℕ) → ◌≡◌ {A = List ℕ} (a ++ 10 ∷ b) [] → ⊥
    not_empty [] b e = absurd (cc)
    not_empty (x ∷ a) b e = absurd (cc)
next_read line rest (l ∷ after) h (inl k) = absurd (no_feed l line rest k.3 (sym k.1))
next_read line rest (l ∷ after) h (inr k) =
    let both = one_end line k.0 rest k.1 h k.3 k.2 in (
      after,
      ap (λ (x : List ℕ). x ∷ after) (k.5 ∙ ap without_cr (sym both.0)),
      subst (λ (r : List ℕ). IsLines r after) (sym both.1) k.6,
    )

pub lines_read : (bytes : List ℕ) (number : ℕ) (reported : List ReportEntry) (stage : LogState) → Reports bytes number reported stage →
    (rest : List ℕ) (lines : List (List ℕ)) → IsLines (bytes ++ rest) lines → AreRead rest lines number reported stage
lines_read _ _ _ _ ReportsBy.none rest lines h = record {
  before = [];
  after = lines;
  whole = refl;
  count = refl;
  steps = (refl, refl);
  left = h;
}
lines_read _ _ _ _ (ReportsBy.line bytes number reported old reports line more new few unbroken short on) rest lines h =
    let before = lines_read bytes number reported old reports (line ++ 10 ∷ rest) lines
    (subst (λ (l : List ℕ). IsLines l lines) (regroup bytes line rest) h) in
    let next = next_read line rest before.after unbroken before.left in
    record {
      before = before.before ++ without_cr line ∷ [];
      after = next.0;
      whole = before.whole ∙ ap (λ (l : List (List ℕ)). before.before ++ l) next.1
          ∙ sym (append_assoc before.before (without_cr line ∷ []) next.0);
      count = length-append before.before (without_cr line ∷ []) ∙ ap (λ (n : ℕ). n + 1) before.count;
      steps = steps_then before.before 0 number (without_cr line) reported more (Opening Unnamed) old new before.steps
          (omega (arith, before.count)) on;
      left = next.2;
    }

few_lines : (bytes : List ℕ) (number : ℕ) (reported : List ReportEntry) (stage : LogState) → Reports bytes number reported stage →
    number ≤ most_lines
few_lines _ _ _ _ ReportsBy.none = omega arith
few_lines _ _ _ _ (ReportsBy.line bytes number reported old reports line more new few unbroken short on) = omega arith

none_left : (lines : List (List ℕ)) → IsLines [] lines → lines ≡ []
none_left [] h = refl
none_left (line ∷ lines) (inl h) = absurd (omega (arith, ap length h.1, h.2))
none_left (line ∷ lines) (inr h) = absurd (go h.0 h.1 h.2)
  where
    go : (a b : List ℕ) → ◌≡◌ {A = List ℕ} [] (a ++ 10 ∷ b) → ⊥
    go [] b e = absurd (cc)
    go (x ∷ a) b e = absurd (cc)

one_left : (line : List ℕ) (lines : List (List ℕ)) → 0 < length line → IsUnbroken line → IsLines line lines → lines ≡ line ∷ []
one_left line [] some h k = absurd (omega (arith, ap length k))
one_left line (l ∷ lines) some h (inl k) = ap (λ (x : List ℕ). x ∷ lines) (sym k.1) ∙ ap (λ (ls : List (List ℕ)). line ∷ ls) k.0
one_left line (l ∷ lines) some h (inr k) = absurd (no_feed line k.0 k.1 h k.2)

-- the lines of a log that was read to its end moved it on, and are at most as many as the limit
pub all_read : (log : List ℕ) (number : ℕ) (reported : List ReportEntry) (stage : LogState) → ReportsAll log number reported stage →
    (lines : List (List ℕ)) → IsLines log lines →
    Steps 0 (Opening Unnamed) lines reported stage × (length lines ≤ most_lines)
all_read _ _ _ _ (ReportsAllBy.ended bytes number reported stage reports) lines h =
    let read = lines_read bytes number reported stage reports []
    lines (subst (λ (l : List ℕ). IsLines l lines) (sym (append-nil bytes)) h) in
    let all : read.before ≡ lines =
    sym (read.whole ∙ ap (λ (l : List (List ℕ)). read.before ++ l) (none_left read.after read.left) ∙ append-nil read.before) in (
      subst (λ (l : List (List ℕ)). Steps 0 (Opening Unnamed) l reported stage) all read.steps,
      omega (arith, few_lines bytes number reported stage reports, ap length all, read.count),
    )
all_read _ _ _ _ (ReportsAllBy.unended bytes number reported old reports line more new few some unbroken short on) lines h =
    let read = lines_read bytes number reported old reports line lines h in
    let all : read.before ++ line ∷ [] ≡ lines =
    sym (read.whole ∙ ap (λ (l : List (List ℕ)). read.before ++ l) (one_left line read.after some unbroken read.left)) in (
      subst (λ (l : List (List ℕ)). Steps 0 (Opening Unnamed) l (reported ++ more) new) all
          (steps_then read.before 0 number line reported more (Opening Unnamed) old new read.steps (omega (arith, read.count)) on),
      omega (arith, few, sym (ap length all), length-append read.before (line ∷ []), read.count),
    )

-- ---- the converse

pub all_written : (lines : List (List ℕ)) (log bytes : List ℕ) (number : ℕ) (reported more : List ReportEntry) (old new : LogState) →
    IsLines log lines → Reports bytes number reported old → Steps number old lines more new →
    number + length lines ≤ most_lines → (count : ℕ) × ReportsAll (bytes ++ log) count (reported ++ more) new
all_written [] log bytes number reported more old new h reports steps few = (
  number,
  subst (λ (l : List ℕ). ReportsAll l number (reported ++ more) new) (sym (ap (λ (l : List ℕ). bytes ++ l) h ∙ append-nil bytes))
      (subst (λ (t : List ReportEntry). ReportsAll bytes number t new)
      (sym (ap (λ (t : List ReportEntry). reported ++ t) steps.0 ∙ append-nil reported))
      (subst (ReportsAll bytes number reported) (sym steps.1) (ReportsAllBy.ended bytes number reported old reports))),
)
all_written (line ∷ []) log bytes number reported more old new (inl h) reports steps few = (
  number + 1,
  subst (λ (l : List ℕ). ReportsAll (bytes ++ l) (number + 1) (reported ++ more) new) (sym h.1)
      (subst (λ (t : List ReportEntry). ReportsAll (bytes ++ line) (number + 1) (reported ++ t) new)
      (sym (steps.5 ∙ ap (λ (t : List ReportEntry). steps.1 ++ t) steps.4.0 ∙ append-nil steps.1))
      (subst (ReportsAll (bytes ++ line) (number + 1) (reported ++ steps.1)) (sym steps.4.1)
      (ReportsAllBy.unended bytes number reported old reports line steps.1 steps.0 (omega arith) h.2 h.3 h.4 steps.3))),
)
all_written (line ∷ l ∷ lines) log bytes number reported more old new (inl h) reports steps few = absurd (some h.0)
  where
    some : ◌≡◌ {A = List (List ℕ)} (l ∷ lines) [] → ⊥
    some e = absurd (cc)
all_written (line ∷ lines) log bytes number reported more old new (inr h) reports steps few =
    let next = ReportsBy.line bytes number reported old reports h.0 steps.1 steps.0 (omega arith) h.3 h.4
    (subst (λ (l : List ℕ). AdvancesByLine (number + 1) old l steps.1 steps.0) h.5 steps.3) in
    let rest = all_written lines h.1 (bytes ++ h.0 ++ 10 ∷ []) (number + 1) (reported ++ steps.1) steps.2 steps.0 new h.6 next
    steps.4 (omega (arith, few)) in (
      rest.0,
      subst (λ (l : List ℕ). ReportsAll l rest.0 (reported ++ more) new)
          (regroup bytes h.0 h.1 ∙ ap (λ (l : List ℕ). bytes ++ l) (sym h.2))
          (subst (λ (t : List ReportEntry). ReportsAll ((bytes ++ h.0 ++ 10 ∷ []) ++ h.1) rest.0 t new)
          (append_assoc reported steps.1 steps.2 ∙ ap (λ (t : List ReportEntry). reported ++ t) (sym steps.5)) rest.1),
    )
