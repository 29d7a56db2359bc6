-- The two bytes of each cell of the constant table, as lists.
use Rattle.daide_grammar.proofs.Common.{◌≡◌, ℕ, List, [], map, get_or, refl, sym, ap, ◌∙◌, ◌/◌, ◌%◌, get_or-map, TABLE}
use Rattle.daide_grammar.proofs.Common.{next_at, row_cell, rule_at}

-- the rules of each class
abbrev pub rules : List (List ℕ)
rules = map (map (λ cell. cell % 256)) TABLE.rows

-- the first symbols that these rules leave
abbrev pub nexts : List (List ℕ)
nexts = map (map (λ cell. cell / 256)) TABLE.rows

-- each part of a cell is in its list
part_seen : (part : ℕ → ℕ) → part 0 ≡ 0 → (rows : List (List ℕ)) (class symbol : ℕ) →
    get_or (get_or (map (map part) rows) class []) symbol 0 ≡ part (get_or (get_or rows class []) symbol 0)
part_seen part none rows class symbol =
    ap (λ (row : List ℕ). get_or row symbol 0) (get_or-map (map part) rows class [])
    ∙ ap (λ (past : ℕ). get_or (map part (get_or rows class [])) symbol past) (sym none)
    ∙ get_or-map part (get_or rows class []) symbol 0

pub rule_seen : (class symbol : ℕ) → get_or (get_or rules class []) symbol 0 ≡ rule_at class symbol
unfolding row_cell
rule_seen class symbol = part_seen (λ cell. cell % 256) refl TABLE.rows class symbol

pub next_seen : (class symbol : ℕ) → get_or (get_or nexts class []) symbol 0 ≡ next_at class symbol
unfolding row_cell
next_seen class symbol = part_seen (λ cell. cell / 256) refl TABLE.rows class symbol
