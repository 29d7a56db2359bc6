-- The cells of the constant table, each by its index. (own)
use Rattle.std.specs.Prelude.{ℕ, ◌+◌, ◌*◌, ◌/◌, ◌%◌, [], slice_index, slice_index_or}
use Rattle.daide_grammar.specs.declared.table.rows.TheConstants.{TABLE}

-- the cell for a class and a symbol, by their numbers
unfoldable pub row_cell : ℕ → ℕ → ℕ
row_cell class symbol = slice_index (slice_index_or TABLE.rows class []) symbol

-- the rule for a class and a symbol: the low byte of the cell
abbrev pub rule_at : ℕ → ℕ → ℕ
rule_at class symbol = row_cell class symbol % 256

-- the number of the first symbol that this rule leaves, or 0 if it leaves none: the high byte
abbrev pub next_at : ℕ → ℕ → ℕ
next_at class symbol = row_cell class symbol / 256

-- the number of the class at an index of the list of classes
unfoldable pub class_cell : ℕ → ℕ
class_cell place = slice_index TABLE.classes place

-- the number of a token's class, by its category and its code: the classes of one code are adjacent
abbrev pub column_at : ℕ → ℕ → ℕ
column_at category code = class_cell (code * 256 + category)

-- the number of a symbol that a rule leaves, the last one at index 0
unfoldable pub cell_at : ℕ → ℕ → ℕ
cell_at rule place = slice_index (slice_index_or TABLE.rests rule []) place

-- how many symbols a rule leaves
unfoldable pub length_at : ℕ → ℕ
length_at rule = slice_index TABLE.lengths rule

-- the number of the first symbol that a rule leaves, or 0 if it leaves none
unfoldable pub first_at : ℕ → ℕ
first_at rule = slice_index TABLE.firsts rule

-- what a rule adds to the index of a stack's top, modulo 2^64
unfoldable pub growth_at : ℕ → ℕ
growth_at rule = slice_index TABLE.growths rule

-- what a token of a class adds to the open brackets, modulo 2^16
unfoldable pub bracket_cell : ℕ → ℕ
bracket_cell class = slice_index TABLE.brackets class
