-- From a test over a constant table to a statement about each of its indices.
use Rattle.std.proofs.lemmas.List.FromFn.{get_or-range_with_len, length-map-range_with_len}
use Rattle.daide_grammar.proofs.Common.{◌≡◌, ℕ, zero, suc, ◌+◌, ◌<◌, Bool, true, List, [], ◌∷◌, length, get_or, map}
use Rattle.daide_grammar.proofs.Common.{refl, sym, ap, ◌∙◌, arith, get_or-map, and_parts, list_all, range_with_len}

-- an item of a list does not depend on the default past its end
pub any_default : {X : Type 0} (k : ℕ) (xs : List X) (d e : X) → k < length xs → get_or xs k d ≡ get_or xs k e
any_default k [] d e less = absurd (omega arith)
any_default zero (x ∷ xs) d e less = refl
any_default (suc k) (x ∷ xs) d e less = any_default k xs d e (omega arith)

-- functions that agree on the list of numbers below a bound agree on each of them
pub alike : {X : Type 0} (f g : ℕ → X) (bound : ℕ) →
    map f (range_with_len 0 bound) ≡ map g (range_with_len 0 bound) → (n : ℕ) → n < bound → f n ≡ g n
alike {X} f g bound same n less =
    let numbers = range_with_len 0 bound in
    let none : 0 + n ≡ n = omega arith in
    let at : get_or numbers n 0 ≡ n = get_or-range_with_len 0 bound n 0 less ∙ none in
    let inside : n < length (map g numbers) = rw (length-map-range_with_len g 0 bound) less in
    ap f (sym at) ∙ sym (get_or-map f numbers n 0)
    ∙ ap (λ (xs : List X). get_or xs n (f 0)) same ∙ any_default n (map g numbers) (f 0) (g 0) inside
    ∙ get_or-map g numbers n 0 ∙ ap g at

-- a test that each item of a list and the default pass, passes at each index
pub passes_at : {X : Type 0} (p : X → Bool) (xs : List X) (k : ℕ) (d : X) →
    list_all p xs ≡ true → p d ≡ true → p (get_or xs k d) ≡ true
passes_at p [] k d all past = past
passes_at p (x ∷ xs) zero d all past = (and_parts (p x) (list_all p xs) all).0
passes_at p (x ∷ xs) (suc k) d all past = passes_at p xs k d (and_parts (p x) (list_all p xs) all).1 past

-- an item of a list, seen through a map, in another list of the same length
pub row_seen : {R X : Type 0} (seen : R → X) (rows : List R) (told : List X) (k : ℕ) (d : R) (e : X) →
    map seen rows ≡ told → k < length told → seen (get_or rows k d) ≡ get_or told k e
row_seen {R} {X} seen rows told k d e same less =
    sym (get_or-map seen rows k d) ∙ ap (λ (xs : List X). get_or xs k (seen d)) same
    ∙ any_default k told (seen d) e less
