-- The languages of stacks of symbols, and the effect of a token on a stack. The next symbol comes first. (own)
use Rattle.std.specs.Prelude.{◌≡◌, ℕ, ◌+◌, Bool, List, [], ◌∷◌, ◌++◌, Option, None, Some, if◌then◌else◌}
use Rattle.daide_token.specs.declared.class.Class.{Class}
use Rattle.daide_grammar.specs.declared.symbol.Sym.{Sym}
use Rattle.daide_grammar.specs.Table.Answers.{TableEntry, Take, Skip, Stop}

-- the list is a concatenation of lists of the symbols, in order
abbrev pub StackMatches : (Sym → List ℕ → Type 0) → List Sym → List ℕ → Type 0
StackMatches language [] r = r ≡ []
StackMatches language (s ∷ stack) r = (a b : List ℕ) × (r ≡ a ++ b) × language s a × StackMatches language stack b

-- the stack after a token of the class: symbols that are skipped are dropped, and one takes the token; None if none
-- does
abbrev pub stack_after : (Sym → Class → TableEntry) → Class → List Sym → Option (List Sym)
stack_after moves class [] = None
stack_after moves class (s ∷ stack) =
    elim (moves s class) [ Take rest ↦ Some (rest ++ stack) | Skip ↦ stack_after moves class stack | Stop ↦ None ]

-- the number of symbols that are skipped before one takes or stops a token of the class
abbrev pub skips_before : (Sym → Class → TableEntry) → Class → List Sym → ℕ
skips_before moves class [] = 0
skips_before moves class (s ∷ stack) =
    elim (moves s class) [ Take rest ↦ 0 | Skip ↦ 1 + skips_before moves class stack | Stop ↦ 0 ]

-- the number of look-ups at the end of a message: in order, up to the first symbol that is not nullable, or the last
-- symbol
abbrev pub ends_asked : (Sym → Bool) → List Sym → ℕ
ends_asked may_end [] = 0
ends_asked may_end (s ∷ stack) = if may_end s then 1 + ends_asked may_end stack else 1
