-- In each cell of the constant table the symbol is the first one that the rule leaves.
use Rattle.daide_grammar.proofs.Common.{◌≡◌, ℕ, zero, suc, Bool, true, false, ◌&&◌, nat_eq, List, [], ◌∷◌, get_or, refl}
use Rattle.daide_grammar.proofs.Common.{sym, ap, ◌∙◌, and_parts, eqb-true, first_at, next_at, rule_at}
use Rattle.daide_grammar.proofs.RowParts.{next_seen, nexts, rule_seen, rules}

-- whether these symbols are the first ones that these rules leave
abbrev are_firsts : List ℕ → List ℕ → Bool
are_firsts [] [] = true
are_firsts (rule ∷ rest) (next ∷ others) = nat_eq (first_at rule) next && are_firsts rest others
are_firsts _ _ = false

-- the same of each class
abbrev all_firsts : List (List ℕ) → List (List ℕ) → Bool
all_firsts [] [] = true
all_firsts (one ∷ rest) (other ∷ others) = are_firsts one other && all_firsts rest others
all_firsts _ _ = false

-- a test that computes
nexts_agree : all_firsts rules nexts ≡ true
unfolding first_at
nexts_agree = refl

first_told : (rest others : List ℕ) → are_firsts rest others ≡ true → (k : ℕ) → get_or others k 0 ≡ first_at (get_or rest k 0)
unfolding first_at
first_told [] [] h k = refl
first_told [] (next ∷ others) h k = absurd (cc)
first_told (rule ∷ rest) [] h k = absurd (cc)
first_told (rule ∷ rest) (next ∷ others) h zero =
    sym (eqb-true (first_at rule) next (and_parts (nat_eq (first_at rule) next) (are_firsts rest others) h).0)
first_told (rule ∷ rest) (next ∷ others) h (suc k) =
    first_told rest others (and_parts (nat_eq (first_at rule) next) (are_firsts rest others) h).1 k

all_told : (rest others : List (List ℕ)) → all_firsts rest others ≡ true → (n k : ℕ) →
    get_or (get_or others n []) k 0 ≡ first_at (get_or (get_or rest n []) k 0)
unfolding first_at
all_told [] [] h n k = refl
all_told [] (other ∷ others) h n k = absurd (cc)
all_told (one ∷ rest) [] h n k = absurd (cc)
all_told (one ∷ rest) (other ∷ others) h zero k =
    first_told one other (and_parts (are_firsts one other) (all_firsts rest others) h).0 k
all_told (one ∷ rest) (other ∷ others) h (suc n) k =
    all_told rest others (and_parts (are_firsts one other) (all_firsts rest others) h).1 n k

-- so no cell leads to another symbol than its rule
pub next_told : (class symbol : ℕ) → next_at class symbol ≡ first_at (rule_at class symbol)
next_told class symbol =
    sym (next_seen class symbol) ∙ all_told rules nexts nexts_agree class symbol ∙ ap first_at (rule_seen class symbol)
