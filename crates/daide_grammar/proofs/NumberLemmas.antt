-- The code's lists of symbols and classes are those of the definitions, and a symbol's number determines it.
use Rattle.daide_grammar.proofs.Common.{◌≡◌, ◌<◌, refl, arith, L60, Sym, all_symbols, symbol_number, symbol_at}
use Rattle.daide_grammar.specs.declared.symbol.Sym.TheVariants.{ArrangementGroup, Arrangement, FactGroup, Fact}
use Rattle.daide_grammar.specs.declared.symbol.Sym.TheVariants.{OperandGroup, Operands, Operand, PressGroup, Press}
use Rattle.daide_grammar.specs.declared.symbol.Sym.TheVariants.{SendGroup, MaybeSendGroup, Send, SendTail, SendFirst}
use Rattle.daide_grammar.specs.declared.symbol.Sym.TheVariants.{Client, RequestGroup, Request, Server}

pub symbol_back : (s : Sym) → symbol_at (symbol_number s) ≡ s
symbol_back (ArrangementGroup L60) = refl
symbol_back (Arrangement L60) = refl
symbol_back (FactGroup L60) = refl
symbol_back (Fact L60) = refl
symbol_back (OperandGroup L60) = refl
symbol_back (Operands L60) = refl
symbol_back (Operand L60) = refl
symbol_back (PressGroup L60) = refl
symbol_back (Press L60) = refl
symbol_back (SendGroup L60) = refl
symbol_back (MaybeSendGroup L60) = refl
symbol_back (Send L60) = refl
symbol_back (SendTail L60) = refl
symbol_back (SendFirst L60) = refl
symbol_back (Client L60) = refl
symbol_back (RequestGroup L60) = refl
symbol_back (Request L60) = refl
symbol_back (Server L60) = refl
symbol_back _ = refl

pub symbol_small : (s : Sym) → symbol_number s < all_symbols
symbol_small (ArrangementGroup L60) = omega arith
symbol_small (Arrangement L60) = omega arith
symbol_small (FactGroup L60) = omega arith
symbol_small (Fact L60) = omega arith
symbol_small (OperandGroup L60) = omega arith
symbol_small (Operands L60) = omega arith
symbol_small (Operand L60) = omega arith
symbol_small (PressGroup L60) = omega arith
symbol_small (Press L60) = omega arith
symbol_small (SendGroup L60) = omega arith
symbol_small (MaybeSendGroup L60) = omega arith
symbol_small (Send L60) = omega arith
symbol_small (SendTail L60) = omega arith
symbol_small (SendFirst L60) = omega arith
symbol_small (Client L60) = omega arith
symbol_small (RequestGroup L60) = omega arith
symbol_small (Request L60) = omega arith
symbol_small (Server L60) = omega arith
symbol_small _ = omega arith
