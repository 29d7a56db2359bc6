-- A name is found among the tokens whose names begin with its first letter.
use Rattle.std.proofs.Common.{bytes_eq}
use Rattle.std.proofs.Math.ListN.{get_or-map}
use Rattle.std.proofs.lemmas.Slice.Eq.{bytes_eq-Decides}
use Rattle.std.proofs.lemmas.List.FromFn.{get_or-map-range_with_len}
use Rattle.std.specs.List.{filter}
use Rattle.daide_token.proofs.Common.{◌≡◌, ◌⊎◌, ℕ, ◌+◌, ◌<◌, ◌==◌, ◌&&◌, nat_le, Bool, true, false, cond, List, [], ◌∷◌}
use Rattle.daide_token.proofs.Common.{get_or, map, Some, option_map, unwrap_or, refl, sym, ap, ◌∙◌, arith, and_parts}
use Rattle.daide_token.proofs.Common.{nat_tests, find, list_all, range_with_len, Named, name_of, names, token_named}
use Rattle.daide_token.proofs.NameLaws.{each_name_back, has_name, is_name-same}
use Rattle.daide_token.proofs.TableLemmas.{find_in_map}
use Rattle.daide_token.specs.NamesByLetter.{codes_with, first_letter, is_named, named_with}

-- one more item, by whether it is kept and whether it is found
kept : {X : Type 0} (p q : X → Bool) (x : X) (xs : List X) (b c : Bool) → p x ≡ b → q x ≡ c
    → (p x ≡ true → q x ≡ true) → find p (filter q xs) ≡ find p xs
    → find p (cond c (x ∷ filter q xs) (filter q xs)) ≡ cond b (Some x) (find p xs)
kept p q x xs true true at by implied e = ap (λ b. cond b (Some x) (find p (filter q xs))) at
kept p q x xs false true at by implied e = ap (λ b. cond b (Some x) (find p (filter q xs))) at ∙ e
kept p q x xs true false at by implied e = let also = implied at in absurd (cc)
kept p q x xs false false at by implied e = e

-- a search gives the same result among the items that pass a weaker test
find-filter : {X : Type 0} (p q : X → Bool) (xs : List X) → ((x : X) → p x ≡ true → q x ≡ true)
    → find p (filter q xs) ≡ find p xs
find-filter p q [] implied = refl
find-filter p q (x ∷ xs) implied =
    kept p q x xs (p x) (q x) refl refl (implied x) (find-filter p q xs implied)

pub found_with : (name : List ℕ) →
    find (λ row. bytes_eq row.1 name) (named_with (first_letter name)) ≡ find (λ row. bytes_eq row.1 name) names
found_with name =
    find-filter (λ row. bytes_eq row.1 name) (λ row. first_letter row.1 == first_letter name) names
    (λ row same. let letters = (bytes_eq-Decides row.1 name).0 same in grind (arith, nat_tests, ap first_letter letters))

-- each name begins with a letter from A to Z
abbrev begins_well : Named → Bool
begins_well row = nat_le 0x41 (first_letter row.1) && nat_le (first_letter row.1) 0x5A

all_begin_well : list_all begins_well names ≡ true
unfolding names
all_begin_well = refl

-- a list in which no item passes keeps none
none_kept : {X : Type 0} (q r : X → Bool) (xs : List X) → list_all r xs ≡ true
    → ((x : X) → r x ≡ true → q x ≡ false) → filter q xs ≡ []
none_kept q r [] all never = refl
none_kept q r (x ∷ xs) all never =
    let parts = and_parts (r x) (list_all r xs) all in
    ap (λ b. cond b (x ∷ filter q xs) (filter q xs)) (never x parts.0) ∙ none_kept q r xs parts.1 never

-- two tests that agree on each row find the same row
alike_first : {X : Type 0} (p r : X → Bool) (x : X) (xs : List X) (b : Bool) → p x ≡ r x → find p xs ≡ find r xs →
    find p (cond b (x ∷ xs) xs) ≡ find r (cond b (x ∷ xs) xs)
alike_first p r x xs true here below =
    ap (λ c. cond c (Some x) (find p xs)) here ∙ ap (λ rest. cond (r x) (Some x) rest) below
alike_first p r x xs false here below = below

alike : {X : Type 0} (p r s q : X → Bool) (xs : List X) → list_all s xs ≡ true →
    ((x : X) → s x ≡ true → p x ≡ r x) → find p (filter q xs) ≡ find r (filter q xs)
alike p r s q [] all same = refl
alike p r s q (x ∷ xs) all same =
    let parts = and_parts (s x) (list_all s xs) all in
    alike_first p r x (filter q xs) (q x) (same x parts.0) (alike p r s q xs parts.1 same)

-- the tokens at each index of a list by letters
pub at_letter : {R : Type 0} (seen : R → List ℕ) (rows : List R) (k letter : ℕ) (d : R) →
    map seen rows ≡ map codes_with (range_with_len 0x41 26) → k < 26 → 0x41 + k ≡ letter →
    seen (get_or rows k d) ≡ codes_with letter
at_letter seen rows k letter d same less at =
    sym (get_or-map seen rows k d)
    ∙ ap (λ (xs : List (List ℕ)). get_or xs k (seen d)) same
    ∙ get_or-map-range_with_len codes_with 0x41 26 k letter (seen d) less at

pub no_other_letter : (letter : ℕ) → (letter < 0x41) ⊎ (0x5A < letter) → codes_with letter ≡ []
no_other_letter letter out =
    ap (map (λ (row : Named). row.0))
    (none_kept (λ row. first_letter row.1 == letter) begins_well names all_begin_well
    (λ row well. grind (arith, nat_tests)))

-- the token of a row has the row's name and no other
own_name : (name : List ℕ) (row : Named) → has_name row ≡ true → is_named name row.0 ≡ bytes_eq row.1 name
own_name name row back =
    ap (λ o. unwrap_or (option_map (λ own. bytes_eq own name) o) false) (is_name-same (name_of row.0) row.1 back)

-- so the token of a name is the one that has it among those with the same first letter
pub told_by_letter : (name : List ℕ) → find (is_named name) (codes_with (first_letter name)) ≡ token_named name
unfolding token_named
told_by_letter name =
    let begins : Named → Bool = λ row. first_letter row.1 == first_letter name in
    find_in_map (λ (row : Named). row.0) (is_named name) (named_with (first_letter name))
    ∙ ap (option_map (λ (row : Named). row.0))
    (alike (λ row. is_named name row.0) (λ row. bytes_eq row.1 name) has_name begins names each_name_back (own_name name)
    ∙ found_with name)
