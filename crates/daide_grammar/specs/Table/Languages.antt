-- The languages of the table's symbols.
use Rattle.std.specs.Prelude.{ℕ, List}
use Rattle.daide_grammar.specs.declared.symbol.Sym.{Sym}
use Rattle.daide_grammar.specs.Forms.{Dialect}
use Rattle.daide_grammar.specs.Matches.{Matches}
use Rattle.daide_grammar.specs.SideMessages.{standard}
use Rattle.daide_grammar.specs.Table.Symbols.{form_of}

-- the lists of tokens that match a symbol's form, in a dialect
abbrev pub SymbolMatchesIn : Dialect → Sym → List ℕ → Type 0
SymbolMatchesIn d s m = Matches d (form_of s) m

-- the lists of tokens that a symbol of the table derives
abbrev pub SymbolMatches : Sym → List ℕ → Type 0
SymbolMatches = SymbolMatchesIn standard
