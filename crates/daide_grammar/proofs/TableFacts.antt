-- Cells of the constant table, worked out from the protocol's tables. A wrong table does not check even if the entries
-- have the same mistake. The cells: the row of a level and the previous one, a row that levels share, and whole rests.
use Rattle.daide_grammar.proofs.Common.{◌≡◌, [], ◌∷◌, refl, Class, Bra, Ket, Power, Text, And, Thx, Tme, Frm, Snd, Qry}
use Rattle.daide_grammar.proofs.Common.{Not, Prn, Other, Word, L0, L10, L20, L30, L50, L60, Sym, TableEntry, Take, Skip}
use Rattle.daide_grammar.proofs.Common.{Stop, class_cell, row_cell, rule_at, column_at, class_number, class_at}
use Rattle.daide_grammar.proofs.Common.{symbol_number, action, rest_of_action}
use Rattle.daide_grammar.specs.declared.symbol.Sym.TheVariants.{Closing, Texts, PowerGroup, PowersGroup}
use Rattle.daide_grammar.specs.declared.symbol.Sym.TheVariants.{MaybeNumberGroup, OneUnit, OrderTail, Orders}
use Rattle.daide_grammar.specs.declared.symbol.Sym.TheVariants.{SubmitFirst, OrderGroup, NoteGroup, Arrangement}
use Rattle.daide_grammar.specs.declared.symbol.Sym.TheVariants.{ArrangementGroup, OperandGroup, Operands, Operand, Fact}
use Rattle.daide_grammar.specs.declared.symbol.Sym.TheVariants.{FactGroup, PressGroup, SendTail, Client, Server, Any}

-- the table's entry for a symbol and a class
abbrev says : Sym → Class → TableEntry
says s c = action (rule_at (class_number c) (symbol_number s))

-- KET closes an open bracket, and BRA does not
closing-ket : says Closing Ket ≡ Take []
unfolding action rest_of_action row_cell
closing-ket = refl

closing-bra : says Closing Bra ≡ Stop
unfolding action rest_of_action row_cell
closing-bra = refl

-- a text continues until the bracket closes
texts-text : says Texts Text ≡ Take (Texts ∷ [])
unfolding action rest_of_action row_cell
texts-text = refl

texts-ket : says Texts Ket ≡ Skip
unfolding action rest_of_action row_cell
texts-ket = refl

-- AND joins from level 30 on, with the same rest at each level above
and-20 : says (Arrangement L20) And ≡ Stop
unfolding action rest_of_action row_cell
and-20 = refl

and-30 : says (Arrangement L30) And ≡ Take (OperandGroup L30 ∷ OperandGroup L30 ∷ Operands L30 ∷ [])
unfolding action rest_of_action row_cell
and-30 = refl

and-60 : says (Arrangement L60) And ≡ Take (OperandGroup L60 ∷ OperandGroup L60 ∷ Operands L60 ∷ [])
unfolding action rest_of_action row_cell
and-60 = refl

-- an AND may contain another from level 50 on
operand-30 : says (Operand L30) And ≡ Stop
unfolding action rest_of_action row_cell
operand-30 = refl

operand-50 : says (Operand L50) And ≡ Take (OperandGroup L50 ∷ OperandGroup L50 ∷ Operands L50 ∷ [])
unfolding action rest_of_action row_cell
operand-50 = refl

-- a query is a fact only at level 60; there a NOT contains a fact
query-50 : says (Fact L50) Qry ≡ Stop
unfolding action rest_of_action row_cell
query-50 = refl

query-60 : says (Fact L60) Qry ≡ Take (ArrangementGroup L60 ∷ [])
unfolding action rest_of_action row_cell
query-60 = refl

not-50 : says (Fact L50) Not ≡ Take (ArrangementGroup L50 ∷ [])
unfolding action rest_of_action row_cell
not-50 = refl

not-60 : says (Fact L60) Not ≡ Take (FactGroup L60 ∷ [])
unfolding action rest_of_action row_cell
not-60 = refl

-- press is sent and passed on from level 10 on
send-0 : says (Client L0) Snd ≡ Stop
unfolding action rest_of_action row_cell
send-0 = refl

send-10 : says (Client L10) Snd ≡ Take (SendTail L10 ∷ [])
unfolding action rest_of_action row_cell
send-10 = refl

from-60 : says (Server L60) Frm ≡ Take (PowerGroup ∷ PowersGroup ∷ PressGroup L60 ∷ [])
unfolding action rest_of_action row_cell
from-60 = refl

-- rests without a level, and the longest
time : says (Client L0) Tme ≡ Take (MaybeNumberGroup ∷ [])
unfolding action rest_of_action row_cell
time = refl

thanks : says (Server L0) Thx ≡ Take (OrderGroup ∷ NoteGroup ∷ [])
unfolding action rest_of_action row_cell
thanks = refl

first-order : says SubmitFirst Bra ≡ Take (OneUnit ∷ Closing ∷ OrderTail ∷ Closing ∷ Orders ∷ [])
unfolding action rest_of_action row_cell
first-order = refl

-- an operator's word has the entries of a token without a meaning: no message begins with it, and any list of tokens
-- may contain it
word-client : says (Client L60) (Word 15) ≡ Stop
unfolding action rest_of_action row_cell
word-client = refl

word-any : says Any (Word 0) ≡ Take (Any ∷ [])
unfolding action rest_of_action row_cell
word-any = refl

-- the reader handles PRN itself
prn : says (Client L60) Prn ≡ Stop
unfolding action rest_of_action row_cell
prn = refl

-- classes by category and code: THX, an unlisted power, an unlisted press code, a character
thx-class : class_at (column_at 0x48 0x1A) ≡ Thx
unfolding class_cell
thx-class = refl

power-class : class_at (column_at 0x41 0xFF) ≡ Power
unfolding class_cell
power-class = refl

press-class : class_at (column_at 0x4A 0x04) ≡ Other
unfolding class_cell
press-class = refl

text-class : class_at (column_at 0x4B 0x61) ≡ Text
unfolding class_cell
text-class = refl
