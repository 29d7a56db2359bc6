-- The rule for an entry is found by comparing the numbers of its symbols.
use Rattle.std.proofs.Math.Seq.{take-suc}
use Rattle.std.proofs.lemmas.List.{get_or-take, get_or-reverse, take_all}
use Rattle.daide_grammar.proofs.Common.{◌≡◌, ℕ, zero, suc, ◌+◌, ◌-◌, ◌<◌, ◌≤◌, nat_eq, Bool, true, false, List, length}
use Rattle.daide_grammar.proofs.Common.{get_or, take, reverse, refl, sym, ap, subst, ◌∙◌, arith, eqb-true, nat_tests}
use Rattle.daide_grammar.proofs.Common.{Sym, Take, symbol_at, symbol_number, action, rest_of}
use Rattle.daide_grammar.proofs.NumberLemmas.{symbol_back}

-- symbols with the same number are equal
pub same_symbol : (s t : Sym) → symbol_number s ≡ symbol_number t → s ≡ t
same_symbol s t e = sym (symbol_back s) ∙ ap symbol_at e ∙ symbol_back t

-- the cells have the rest in reverse order
pub turned : (cells rest : List Sym) (place : ℕ) (d : Sym) →
    take (length rest) cells ≡ reverse rest → place < length rest →
    get_or cells (length rest - 1 - place) d ≡ get_or rest place d
turned cells rest place d h less =
    let k = length rest - 1 - place in
    let low : k < length rest = omega arith in
    let back : length rest - 1 - k ≡ place = omega arith in
    sym (get_or-take (length rest) cells k d low) ∙ ap (λ xs. get_or xs k d) h
    ∙ get_or-reverse rest k d low ∙ ap (λ i. get_or rest i d) back

-- one more symbol is equal
pub one_more : (xs ys : List Sym) (place : ℕ) (d : Sym) → length xs ≡ length ys → place < length xs →
    take place xs ≡ take place ys → get_or xs place d ≡ get_or ys place d → take (place + 1) xs ≡ take (place + 1) ys
one_more xs ys place d many less same next =
    let one : place + 1 ≡ suc place = omega arith in
    let there : place < length ys = omega (arith, many) in
    rw one (take-suc xs place d less ∙ rw same (rw next (sym (take-suc ys place d there))))

-- all symbols are equal
pub all_same : (xs ys : List Sym) (place : ℕ) → length xs ≡ length ys → length xs ≤ place →
    take place xs ≡ take place ys → xs ≡ ys
all_same xs ys place many less same = sym (take_all place xs less) ∙ same ∙ take_all place ys (omega (arith, many))

-- a rule from 2 on takes
pub takes_rest : (n : ℕ) → 2 ≤ n → action n ≡ Take (rest_of (action n))
unfolding action
takes_rest n h =
    let not_none : nat_eq n 0 ≡ false = grind (arith, nat_tests) in
    let not_one : nat_eq n 1 ≡ false = grind (arith, nat_tests) in
    rw not_none (rw not_one refl)

-- and a rule that takes is from 2 on
pub from_two : (n : ℕ) (rest : List Sym) → action n ≡ Take rest → 2 ≤ n
unfolding action
from_two zero rest e = absurd cc
from_two (suc zero) rest e = absurd cc
from_two (suc (suc n)) rest e = omega arith

-- a property that no number so far has, and the next one has not, no number up to it has
pub none_yet : (P : ℕ → Type 0) (next : ℕ) → ((n : ℕ) → 2 ≤ n → n < next → ¬ P n) → ¬ P next →
    (n : ℕ) → 2 ≤ n → n < next + 1 → ¬ P n
none_yet P next before not_here n low less p = by_test (nat_eq n next) refl
  where
    by_test : (b : Bool) → nat_eq n next ≡ b → ⊥
    by_test true e = not_here (subst P (eqb-true n next e) p)
    by_test false e =
        let earlier : n < next = grind (arith, nat_tests) in
        before n low earlier p
