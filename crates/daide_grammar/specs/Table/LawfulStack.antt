-- The stacks that can arise while a message is read, for any table of moves. The next symbol comes first.
use Rattle.std.specs.Prelude.{◌≡◌, ◌≢◌, ℕ, suc, List, [], ◌∷◌, ◌++◌}
use Rattle.daide_token.specs.declared.class.Class.{Class}
use Rattle.daide_token.specs.declared.class.Class.TheVariants.{Bra, Ket}
use Rattle.daide_grammar.specs.declared.level.Level.{Level}
use Rattle.daide_grammar.specs.declared.side.Side2.{Side2}
use Rattle.daide_grammar.specs.declared.symbol.Sym.{Sym}
use Rattle.daide_grammar.specs.Table.Answers.{TableEntry, Take, Skip}
use Rattle.daide_grammar.specs.Table.Symbols.{start_symbol_of}

-- The reachable stacks, each with its number of open brackets: a start symbol alone with none, and any stack that an
-- entry makes of a reachable one. A token that is taken replaces the symbol by its rest; a skipped symbol is dropped.
pub data IsLawful (moves : Sym → Class → TableEntry) : List Sym → ℕ → Type 0 where
  start_symbol : (side : Side2) (level : Level) → IsLawful moves (start_symbol_of side level ∷ []) 0
  word : {n : ℕ} {s : Sym} {rest below : List Sym} (c : Class) →
      c ≢ Bra → c ≢ Ket → moves s c ≡ Take rest → IsLawful moves (s ∷ below) n → IsLawful moves (rest ++ below) n
  bra : {n : ℕ} {s : Sym} {rest below : List Sym} →
      moves s Bra ≡ Take rest → IsLawful moves (s ∷ below) n → IsLawful moves (rest ++ below) (suc n)
  ket : {n : ℕ} {s : Sym} {rest below : List Sym} →
      moves s Ket ≡ Take rest → IsLawful moves (s ∷ below) (suc n) → IsLawful moves (rest ++ below) n
  skip : {n : ℕ} {s : Sym} {below : List Sym} (c : Class) →
      moves s c ≡ Skip → IsLawful moves (s ∷ below) n → IsLawful moves below n
