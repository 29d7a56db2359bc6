-- The protocol's table has the same entry for a token by its class without words as by its class as an operator's word.
use Rattle.daide_words.proofs.Common.{◌≡◌, ℕ, suc, ◌+◌, ◌<◌, ◌≤◌, Bool, true, false, ◌==◌, nat_eq, List, [], ◌∷◌}
use Rattle.daide_words.proofs.Common.{length, Option, Some, None, if◌then◌else◌, refl, sym, ap, ◌∙◌, arith, eqb-true}
use Rattle.daide_words.proofs.Common.{nat_tests, Other, class_of, Named, Sym, class_number, is_stop, dialect_of}
use Rattle.daide_words.proofs.Common.{table_answer, word_unknown, most_words, are_accepted_after, grammar_words}
use Rattle.daide_words.proofs.Common.{names_of, answer_over, place_from, class-Other}
use Rattle.daide_words.specs.declared.word.Word as code
use Rattle.daide_words.proofs.AcceptedCodes.{class_told, class_kept}
use Rattle.daide_words.proofs.WhereStopped.{not_stopped}

-- the index is within the names
pub place_inside : (j : ℕ) (names : List Named) (t k : ℕ) → place_from j names t ≡ Some k → k < j + length names
place_inside j [] t k e = cc
place_inside j (named ∷ names) t k e = by_test (t == named.0) e (place_inside (suc j) names t k)
  where
    by_test : (b : Bool) → (if b then Some j else place_from (suc j) names t) ≡ Some k
        → (place_from (suc j) names t ≡ Some k → k < suc j + length names) → k < j + suc (length names)
    by_test true e later = let same : j ≡ k = cc in omega (arith, same)
    by_test false e later = let less = later e in omega (arith, less)

module _ (words : List code.Word) (s : Sym) (t : ℕ) where
  -- the table has the same entry for a token by its class with and without words
  pub told_before : are_accepted_after [] words ≡ true → length (names_of words) ≤ most_words
      → table_answer s ((dialect_of (grammar_words words)).class_of t) ≡ table_answer s (class_of t)
  told_before accepted few = by_number (nat_eq (class_number (class_of t)) (class_number Other)) refl
    where
      by_place : (o : Option ℕ) → place_from 0 (names_of words) t ≡ o → class_of t ≡ Other
          → table_answer s ((dialect_of (grammar_words words)).class_of t) ≡ table_answer s (class_of t)
      by_place None e other = ap (table_answer s) (class_told words t None (sym e))
      by_place (Some k) e other =
          let inside = place_inside 0 (names_of words) t k e in
          ap (table_answer s) (class_told words t (Some k) (sym e))
          ∙ word_unknown s k (omega (arith, inside, few))
          ∙ ap (table_answer s) (sym other)

      by_number : (b : Bool) → nat_eq (class_number (class_of t)) (class_number Other) ≡ b
          → table_answer s ((dialect_of (grammar_words words)).class_of t) ≡ table_answer s (class_of t)
      by_number true e =
          by_place (place_from 0 (names_of words) t) refl
          (class-Other (class_of t) (eqb-true (class_number (class_of t)) (class_number Other) e))
      by_number false e = ap (table_answer s) (class_kept words t accepted (λ is. grind (arith, nat_tests)))

  -- so if it doesn't stop, that is the entry
  pub answered_before : are_accepted_after [] words ≡ true → length (names_of words) ≤ most_words
      → is_stop (table_answer s (class_of t)) ≡ false
      → answer_over (grammar_words words) s ((dialect_of (grammar_words words)).class_of t)
      ≡ table_answer s (class_of t)
  answered_before accepted few on =
      let same = told_before accepted few in
      not_stopped (grammar_words words) s ((dialect_of (grammar_words words)).class_of t) (ap is_stop same ∙ on) ∙ same
