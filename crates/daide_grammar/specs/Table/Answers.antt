-- The entries of the parse table: what a token means to the next expected symbol. (own)
use Rattle.std.specs.Prelude.{List, take}
use Rattle.daide_grammar.specs.declared.symbol.Sym.{Sym}
use Rattle.daide_grammar.specs.declared.meaning.Rest.{Rest}
use Rattle.daide_grammar.specs.declared.meaning.Meaning.{Meaning}
use Rattle.daide_grammar.specs.declared.meaning.Meaning.TheVariants as Meanings

-- an entry of the table
pub data TableEntry : Type 0 where
  Take : List Sym → TableEntry  -- the token begins the symbol, and these symbols must follow
  Skip : TableEntry  -- the symbol is empty here
  Stop : TableEntry  -- no message continues so

-- the symbols of a rest, the next one first
abbrev pub symbols_of : Rest → List Sym
symbols_of rest = take rest.len rest.symbols

-- the table entry for a meaning of the code
abbrev pub entry_of_meaning : Meaning → TableEntry
entry_of_meaning (Meanings.Take rest) = Take (symbols_of rest)
entry_of_meaning Meanings.Skip = Skip
entry_of_meaning Meanings.Stop = Stop
