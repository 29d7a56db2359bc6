-- At an error place nothing is expected only if `max_depth` brackets are open before it.
use Rattle.std.proofs.Common.{◌-◌, max, cond, map, if◌then◌else◌}
use Rattle.std.proofs.lemmas.Bool.{cases_lt}
use Rattle.daide_explain.proofs.Common.{◌≡◌, ℕ, zero, suc, ◌+◌, ◌≤◌, ◌<◌, ◌==◌, ◌||◌, Bool, true, false, List, [], ◌∷◌}
use Rattle.daide_explain.proofs.Common.{◌++◌, take, Option, None, Some, ◌⊎◌, inl, inr, refl, sym, ◌∙◌, ap, subst, arith}
use Rattle.daide_explain.proofs.Common.{append_assoc, append-nil, eqb-true, bra, ket, prn, Level, Side2, bras, kets}
use Rattle.daide_explain.proofs.Common.{excess, prefixes, greatest, depth_of, open_brackets, begins_with_prn, IsPaired}
use Rattle.daide_explain.proofs.Common.{IsMessageOver, excess_or_none, is_bra, is_ket, Word, grammar_words, are_free}
use Rattle.daide_explain.proofs.Common.{IsAllowedPrefix, IsErrorPlace, IsExpected, AreExpected}
use Rattle.daide_grammar.specs.Balanced.{IsBalanced}
use Rattle.daide_grammar.specs.Depth.{has_unmatched_ket}
use Rattle.daide_grammar.proofs.Counting.{balanced_counted, bras-snoc, count_on, count_on-append, counted_on, depth_of-snoc}
use Rattle.daide_grammar.proofs.Counting.{from_the_end, greatest_prefixes-snoc, kets-snoc}
use Rattle.daide_words.proofs.PairedOverWords.{over-paired}
use Rattle.daide_reader.specs.ViablePrefix.{IsViablePrefix}
use Rattle.daide_explain.specs.Expected.{OnlyDeeper}
use Rattle.daide_explain.proofs.Exact.{exact}
use Rattle.daide_explain.proofs.Scans.{none_on}

-- the tokens before an error place are an allowed prefix
pub before_allowed : (message : List ℕ → Type 0) (max_depth : ℕ) (m : List ℕ) (i : ℕ) → message (prn ∷ bra ∷ ket ∷ []) →
    IsErrorPlace message max_depth m i → IsAllowedPrefix message max_depth (take i m)
before_allowed message max_depth m zero report h =
    record { viable = (prn ∷ bra ∷ ket ∷ [], report); shallow = omega arith }
before_allowed message max_depth m (suc i) report h =
    subst (λ (k : ℕ). IsAllowedPrefix message max_depth (take k m)) (let e : i + 1 ≡ suc i = omega arith in e)
    (h.before i (omega arith))

-- the excess of a list is at most the greatest excess of its prefixes
excess_at_most : (p : List ℕ) → excess p ≤ greatest (map excess (prefixes p))
excess_at_most p =
    from_the_end (λ p. excess p ≤ greatest (map excess (prefixes p))) (omega arith)
    (λ p t _. omega (arith, greatest_prefixes-snoc p t)) p

plain_front : (p : List ℕ) (t : ℕ) → begins_with_prn (p ++ t ∷ []) ≡ false → begins_with_prn p ≡ false
plain_front [] t e = refl
plain_front (x ∷ p) t e = e

-- a token that is not BRA does not increase the excess
one_more : (opens closes : Bool) (b k : ℕ) → opens ≡ false → (b + cond opens 1 0) - (k + cond closes 1 0) ≤ b - k
one_more true closes b k e = absurd cc
one_more false true b k e = omega arith
one_more false false b k e = omega arith

at_most_one : (opens closes : Bool) (b k : ℕ) → (b + cond opens 1 0) - (k + cond closes 1 0) ≤ (b - k) + 1
at_most_one true true b k = omega arith
at_most_one true false b k = omega arith
at_most_one false true b k = omega arith
at_most_one false false b k = omega arith

full : (g x y d : ℕ) → x ≤ g → g ≤ d → y ≤ x + 1 → (max g y ≤ d → ⊥) → (d < y) × (x ≡ d)
full g x y d a b c deep = go (cases_lt d y)
  where
    go : (d < y) ⊎ (y ≤ d) → (d < y) × (x ≡ d)
    go (inl less) = (less, omega arith)
    go (inr few) = absurd (deep (omega arith))

-- a token that makes an allowed prefix too deep is BRA, and `max_depth` brackets are open before it
pub too_deep : (max_depth : ℕ) (p : List ℕ) (t : ℕ) → depth_of p ≤ max_depth → (depth_of (p ++ t ∷ []) ≤ max_depth → ⊥) →
    (begins_with_prn p ≡ false) × (t ≡ bra) × (excess p ≡ max_depth)
too_deep max_depth p t few deep = go (begins_with_prn (p ++ t ∷ [])) refl
  where
    go : (b : Bool) → begins_with_prn (p ++ t ∷ []) ≡ b →
        (begins_with_prn p ≡ false) × (t ≡ bra) × (excess p ≡ max_depth)
    go true e =
        let none : depth_of (p ++ t ∷ []) ≡ 0 =
        ap (λ b. if b then 0 else greatest (map excess (prefixes (p ++ t ∷ [])))) e in
        absurd (deep (omega arith))
    go false e =
        let plain = plain_front p t e in
        let g = greatest (map excess (prefixes p)) in
        let x = excess p in
        let y = excess (p ++ t ∷ []) in
        let before : depth_of p ≡ g = ap (λ b. if b then 0 else greatest (map excess (prefixes p))) plain in
        let after : depth_of (p ++ t ∷ []) ≡ max g y = depth_of-snoc p t e in
        let sum : y ≡ (bras p + cond (is_bra t) 1 0) - (kets p + cond (is_ket t) 1 0) =
        ap (λ (n : ℕ). n - kets (p ++ t ∷ [])) (bras-snoc p t)
        ∙ ap (λ (n : ℕ). (bras p + cond (is_bra t) 1 0) - n) (kets-snoc p t) in
        let step : y ≤ x + 1 =
        subst (λ (n : ℕ). n ≤ x + 1) (sym sum) (at_most_one (is_bra t) (is_ket t) (bras p) (kets p)) in
        let both =
        full g x y max_depth (excess_at_most p) (subst (λ (n : ℕ). n ≤ max_depth) before few) step
        (λ less. deep (subst (λ (n : ℕ). n ≤ max_depth) (sym after) less)) in
        (plain, by_bra (is_bra t) refl sum both.0 both.1, both.1)
      where
        by_bra : (b : Bool) → is_bra t ≡ b →
            excess (p ++ t ∷ []) ≡ (bras p + cond (is_bra t) 1 0) - (kets p + cond (is_ket t) 1 0) →
            max_depth < excess (p ++ t ∷ []) → excess p ≡ max_depth → t ≡ bra
        by_bra true same sum over at = eqb-true t bra same
        by_bra false same sum over at =
            let less : excess (p ++ t ∷ []) ≤ excess p =
            subst (λ (n : ℕ). n ≤ excess p) (sym sum) (one_more (is_bra t) (is_ket t) (bras p) (kets p) same) in
            absurd (let a = less in let b = over in let c = at in omega arith)

-- ---- brackets open before an index

not_lost : (o : Option ℕ) (r : List ℕ) → count_on o r ≡ Some 0 → o ≡ None → ⊥
not_lost o r e f =
    let none : ◌≡◌ {A = Option ℕ} None (Some 0) = sym (ap (λ (q : Option ℕ). count_on q r) f ∙ none_on r) ∙ e in
    absurd cc

balanced_front : (p r : List ℕ) → IsBalanced (p ++ r) → has_unmatched_ket p ≡ false
balanced_front p r h =
    let all : count_on (excess_or_none p) r ≡ Some 0 =
    ap (λ (o : Option ℕ). count_on o r) (counted_on p)
    ∙ (sym (count_on-append (Some 0) p r) ∙ (sym (counted_on (p ++ r)) ∙ (balanced_counted (p ++ r)).0 h)) in
    go (has_unmatched_ket p) refl all
  where
    go : (b : Bool) → has_unmatched_ket p ≡ b → count_on (excess_or_none p) r ≡ Some 0 → has_unmatched_ket p ≡ false
    go true e all = absurd (not_lost (excess_or_none p) r all (ap (λ b. if b then None else Some (excess p)) e))
    go false e all = e

-- a prefix of a paired message, unless it begins with PRN, has no unmatched KET
paired_front : (p r : List ℕ) → begins_with_prn p ≡ false → IsPaired (p ++ r) → has_unmatched_ket p ≡ false
paired_front [] r plain h = refl
paired_front (x ∷ p) r plain (inl (a, e)) =
    let same : x ≡ prn = cc in
    let yes : (x == prn) ≡ true = ap (λ (n : ℕ). n == prn) same in
    absurd cc
paired_front (x ∷ p) r plain (inr (b, h)) = balanced_front (x ∷ p) r h

pub open_there : (p : List ℕ) → begins_with_prn p ≡ false → has_unmatched_ket p ≡ false → open_brackets p ≡ excess p
open_there p plain early =
    ap (λ b. if b || has_unmatched_ket p then 0 else excess p) plain
    ∙ ap (λ b. if false || b then 0 else excess p) early

-- ---- at an error place

module _ (words : List Word) (end : Side2) (l : Level) (max_depth : ℕ) (free : are_free (grammar_words words) ≡ true) where
  abbrev Message : List ℕ → Type 0
  Message = IsMessageOver (grammar_words words) end l

  pub nothing_expected : (p : List ℕ) → IsAllowedPrefix Message max_depth p →
      AreExpected words Message max_depth p [] false → OnlyDeeper Message max_depth p
  nothing_expected p allowed none = go allowed.viable.0 allowed.viable.1
    where
      refused : (t : ℕ) → IsExpected Message max_depth p t → ⊥
      refused t h = ((exact words end l max_depth p [] free none.tokens t).0 h).1

      deep : (t : ℕ) → IsViablePrefix Message (p ++ t ∷ []) →
          (begins_with_prn p ≡ false) × (t ≡ bra) × (excess p ≡ max_depth)
      deep t viable =
          too_deep max_depth p t allowed.shallow (λ few. refused t (record { viable = viable; shallow = few }))

      go : (r : List ℕ) → Message (p ++ r) → OnlyDeeper Message max_depth p
      go [] h =
          let yes : false ≡ true =
          none.at_end.1 (record { is_message = subst Message (append-nil p) h; shallow = allowed.shallow }) in
          absurd cc
      go (t ∷ r) h =
          let viable : IsViablePrefix Message (p ++ t ∷ []) = (r, subst Message (sym (append_assoc p (t ∷ []) r)) h) in
          let d = deep t viable in
          let early = paired_front p (t ∷ r) d.0 (over-paired (grammar_words words) free end l (p ++ t ∷ r) h) in
          record {
            full = open_there p d.0 early ∙ d.2;
            by_bra = subst (λ (x : ℕ). IsViablePrefix Message (p ++ x ∷ [])) d.1 viable;
            only_bra = λ u v. (deep u v).1;
          }

  -- at an error place
  pub nothing_at : (m : List ℕ) (i : ℕ) → IsErrorPlace Message max_depth m i →
      AreExpected words Message max_depth (take i m) [] false → OnlyDeeper Message max_depth (take i m)
  nothing_at m i h none =
      nothing_expected (take i m) (before_allowed Message max_depth m i (inl ([], refl)) h) none
