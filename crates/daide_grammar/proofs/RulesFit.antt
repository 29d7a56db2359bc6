-- The row of each rule has its rest, the last symbol first.
use Rattle.std.proofs.Common.{◌^◌, leb-true, slice_index_or}
use Rattle.daide_grammar.proofs.Common.{◌≡◌, ℕ, zero, suc, ◌<◌, ◌≤◌, ◌+◌, ◌-◌, ◌%◌, Bool, true, false, nat_eq, nat_le}
use Rattle.daide_grammar.proofs.Common.{nat_lt, ltb-true, List, [], ◌∷◌, length, map, take, drop, reverse, refl, sym}
use Rattle.daide_grammar.proofs.Common.{◌∙◌, arith, if◌then◌else◌, nat_tests, list_all, range_with_len, Sym, TABLE}
use Rattle.daide_grammar.proofs.Common.{first_at, all_symbols, symbol_at, all_rules, action, rest_of_action, rest_of}
use Rattle.daide_grammar.proofs.Common.{is_take, is_stop}
use Rattle.daide_grammar.specs.Table.Cells.{cell_at, growth_at, length_at}
use Rattle.daide_grammar.proofs.Alike.{alike, passes_at}

-- the rule's length is that of its rest
rest_length : ℕ → ℕ
rest_length n = length (rest_of (action n))

lengths : map length_at (range_with_len 0 all_rules) ≡ map rest_length (range_with_len 0 all_rules)
unfolding rest_length action rest_of_action length_at
lengths = refl

pub length_fits : (n : ℕ) → n < all_rules → length_at n ≡ length (rest_of (action n))
unfolding rest_length
length_fits n less = alike length_at rest_length all_rules lengths n less

-- no rest is longer than a row
short_row : ℕ → Bool
short_row n = nat_le (length_at n) 8

short_rows : map short_row (range_with_len 0 all_rules) ≡ map (λ n. true) (range_with_len 0 all_rules)
unfolding short_row length_at
short_rows = refl

pub length_small : (n : ℕ) → n < all_rules → length_at n ≤ 8
unfolding short_row
length_small n less = leb-true (length_at n) 8 (alike short_row (λ n. true) all_rules short_rows n less)

-- the eight cells of a rule
abbrev pub eight : ℕ → List Sym
eight n =
    symbol_at (cell_at n 0) ∷ symbol_at (cell_at n 1) ∷ symbol_at (cell_at n 2) ∷ symbol_at (cell_at n 3) ∷
    symbol_at (cell_at n 4) ∷ symbol_at (cell_at n 5) ∷ symbol_at (cell_at n 6) ∷ symbol_at (cell_at n 7) ∷ []

front : ℕ → List Sym
front n = take (length (rest_of (action n))) (eight n)

turned : ℕ → List Sym
turned n = reverse (rest_of (action n))

fronts : map front (range_with_len 0 all_rules) ≡ map turned (range_with_len 0 all_rules)
unfolding front turned action rest_of_action cell_at
fronts = refl

pub cells_hold : (n : ℕ) → n < all_rules → take (length (rest_of (action n))) (eight n) ≡ reverse (rest_of (action n))
unfolding front turned
cells_hold n less = alike front turned all_rules fronts n less

-- a cell's number is that of a symbol
few : list_all (list_all (λ n. nat_lt n all_symbols)) TABLE.rests ≡ true
few = refl

pub cell_small : (n place : ℕ) → cell_at n place < all_symbols
unfolding cell_at
cell_small n place =
    let row = passes_at (list_all (λ n. nat_lt n all_symbols)) TABLE.rests n [] few refl in
    ltb-true (cell_at n place) all_symbols (passes_at (λ n. nat_lt n all_symbols) (slice_index_or TABLE.rests n []) place 0 row refl)

-- rules 0 to 2 leave nothing, and each other one its first symbol and more
with_first : ℕ → List Sym
with_first n = if nat_le n 2 then [] else symbol_at (first_at n) ∷ drop 1 (rest_of (action n))

rest_at : ℕ → List Sym
rest_at n = rest_of (action n)

firsts : map with_first (range_with_len 0 all_rules) ≡ map rest_at (range_with_len 0 all_rules)
unfolding with_first rest_at action rest_of_action first_at
firsts = refl

pub first_fits : (n : ℕ) → n < all_rules → nat_le n 2 ≡ false
    → rest_of (action n) ≡ symbol_at (first_at n) ∷ drop 1 (rest_of (action n))
unfolding with_first rest_at
first_fits n less some =
    let whole : with_first n ≡ rest_at n = alike with_first rest_at all_rules firsts n less in
    sym whole ∙ rw some refl

pub no_rest : (n : ℕ) → n < all_rules → nat_le n 2 ≡ true → rest_of (action n) ≡ []
unfolding with_first rest_at
no_rest n less none =
    let whole : with_first n ≡ rest_at n = alike with_first rest_at all_rules firsts n less in
    sym whole ∙ rw none refl

few_firsts : list_all (λ n. nat_lt n all_symbols) TABLE.firsts ≡ true
few_firsts = refl

pub first_small : (n : ℕ) → first_at n < all_symbols
unfolding first_at
first_small n = ltb-true (first_at n) all_symbols (passes_at (λ n. nat_lt n all_symbols) TABLE.firsts n 0 few_firsts refl)

pub take_told : (n : ℕ) → nat_le 2 n ≡ is_take (action n)
unfolding action
take_told zero = refl
take_told (suc zero) = refl
take_told (suc (suc n)) =
    let not_none : nat_eq (suc (suc n)) 0 ≡ false = grind (arith, nat_tests) in
    let not_one : nat_eq (suc (suc n)) 1 ≡ false = grind (arith, nat_tests) in
    let more : nat_le 2 (suc (suc n)) ≡ true = grind (arith, nat_tests) in
    rw not_none (rw not_one (rw more refl))

pub stop_told : (n : ℕ) → nat_eq n 0 ≡ is_stop (action n)
unfolding action
stop_told zero = refl
stop_told (suc zero) = refl
stop_told (suc (suc n)) =
    let not_none : nat_eq (suc (suc n)) 0 ≡ false = grind (arith, nat_tests) in
    let not_one : nat_eq (suc (suc n)) 1 ≡ false = grind (arith, nat_tests) in
    rw not_none (rw not_one refl)

-- a rule's growth is the length of its rest less one, modulo 2^64
growths : map growth_at (range_with_len 0 all_rules) ≡ map (λ n. (length_at n + (2 ^ 64 - 1)) % 2 ^ 64) (range_with_len 0 all_rules)
unfolding growth_at length_at
growths = refl

growth_fits : (n : ℕ) → n < all_rules → growth_at n ≡ (length_at n + (2 ^ 64 - 1)) % 2 ^ 64
growth_fits n less = alike growth_at (λ n. (length_at n + (2 ^ 64 - 1)) % 2 ^ 64) all_rules growths n less

-- the height of a stack after its growth
pub grown : (n top : ℕ) → n < all_rules → top ≤ 65535
    → ((top + growth_at n) % 2 ^ 64 + 1) % 2 ^ 64 ≡ top + length (rest_of (action n))
grown n top less few =
    let growth = growth_fits n less in
    let small = length_small n less in
    let fits = length_fits n less in
    omega (arith, growth, small, fits)
