-- The rules of the constant table: each entry of the table, by its number. (own)
use Rattle.std.specs.Prelude.{◌≡◌, ℕ, ◌<◌, nat_eq, List, [], map, take, reverse, slice_index, slice_index_or}
use Rattle.std.specs.Prelude.{if◌then◌else◌, Bool, true, false}
use Rattle.daide_grammar.specs.declared.symbol.Sym.{Sym}
use Rattle.daide_grammar.specs.declared.table.rules.TheConstants.{LENGTHS, RESTS}
use Rattle.daide_grammar.specs.Table.Answers.{TableEntry, Take, Skip, Stop}
use Rattle.daide_grammar.specs.Table.Numbers.{symbol_at}

-- the maximum number of rules: a rule is a byte
abbrev pub all_rules : ℕ
all_rules = 256

-- the symbols that a rule leaves; its row of the table has their numbers, the last one first
unfoldable pub rest_of_action : ℕ → List Sym
rest_of_action rule = reverse (map symbol_at (take (slice_index LENGTHS rule) (slice_index_or RESTS rule [])))

-- the entry of a rule: rule 0 stops, rule 1 skips, and every other takes
unfoldable pub action : ℕ → TableEntry
action rule = if nat_eq rule 0 then Stop else if nat_eq rule 1 then Skip else Take (rest_of_action rule)

abbrev pub is_take : TableEntry → Bool
is_take (Take rest) = true
is_take _ = false

abbrev pub is_stop : TableEntry → Bool
is_stop Stop = true
is_stop _ = false

-- the symbols that must follow; none unless the token is taken
abbrev pub rest_of : TableEntry → List Sym
rest_of (Take rest) = rest
rest_of _ = []

-- the table has a rule for the entry
abbrev pub HasRule : TableEntry → Type 0
HasRule answer = (rule : ℕ) × (rule < all_rules) × (action rule ≡ answer)
