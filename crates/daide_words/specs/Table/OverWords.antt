-- The table's entries with an operator's words. At a slot that allows the word, its operand in brackets follows. Every
-- other entry is that of the protocol's own table. (own)
use Rattle.std.specs.Prelude.{ℕ, suc, Bool, true, false, not, ◌&&◌, ◌==◌, nat_le, nat_eq, [], ◌∷◌, Option, Some, None}
use Rattle.std.specs.Prelude.{if◌then◌else◌}
use Rattle.std.specs.List.{list_all}
use Rattle.daide_token.specs.declared.class.Class.{Class}
use Rattle.daide_token.specs.declared.class.Class.TheVariants.{Other, Word}
use Rattle.daide_token.specs.Class.{class_of, token_of}
use Rattle.daide_grammar.specs.declared.level.Level.{Level}
use Rattle.daide_grammar.specs.declared.symbol.Sym.{Sym}
use Rattle.daide_grammar.specs.declared.symbol.Sym.TheVariants.{PowerGroup, PowersGroup, ProvincesGroup, OrderGroup}
use Rattle.daide_grammar.specs.declared.symbol.Sym.TheVariants.{ArrangementGroup, OperandGroup, PressGroup}
use Rattle.daide_grammar.specs.Level.{level_number}
use Rattle.daide_grammar.specs.Classes.{same_class}
use Rattle.daide_grammar.specs.Forms.{Slot, Press_slot, Arrangement_slot, Flat_slot, Dialect}
use Rattle.daide_grammar.specs.Words.{AddedWord, Words, WordSlot, press_word, arrangement_word, WordOperand, one_power}
use Rattle.daide_grammar.specs.Words.{some_powers, some_provinces, an_order, an_arrangement, a_press}
use Rattle.daide_grammar.specs.Table.Answers.{TableEntry, Take}
use Rattle.daide_grammar.specs.Table.Symbols.{slot_of, table_answer}
use Rattle.daide_grammar.specs.SideMessages.{dialect_of}

-- the symbol of a word's operand in brackets, for a word in a slot; in the flat slot an arrangement is flat
abbrev pub operand_symbol : WordOperand → Slot → Level → Sym
operand_symbol one_power slot l = PowerGroup
operand_symbol some_powers slot l = PowersGroup
operand_symbol some_provinces slot l = ProvincesGroup
operand_symbol an_order slot l = OrderGroup
operand_symbol an_arrangement Press_slot l = ArrangementGroup l
operand_symbol an_arrangement Arrangement_slot l = ArrangementGroup l
operand_symbol an_arrangement Flat_slot l = OperandGroup l
operand_symbol a_press slot l = PressGroup l

-- a press word is allowed as a press, an arrangement word as an arrangement and as a flat one
abbrev pub makes : WordSlot → Slot → Bool
makes press_word Press_slot = true
makes press_word Arrangement_slot = false
makes press_word Flat_slot = false
makes arrangement_word Press_slot = false
makes arrangement_word Arrangement_slot = true
makes arrangement_word Flat_slot = true

-- whether a word is allowed in a slot at a level: from its own level on
abbrev pub stands : AddedWord → Slot → Level → Bool
stands word slot l = makes word.slot slot && nat_le (level_number word.level) (level_number l)

-- whether a word is allowed for a symbol, given the symbol's slot, if it has one
abbrev pub stands_for : AddedWord → Option (Slot × Level) → Bool
stands_for word (Some p) = stands word p.0 p.1
stands_for word None = false

abbrev pub this_word : Bool → AddedWord → Option AddedWord → Option AddedWord
this_word true word others = Some word
this_word false word others = others

-- the word at index k, if the first of the words has index j
abbrev pub word_from : ℕ → ℕ → Words → Option AddedWord
word_from k j [] = None
word_from k j (word ∷ words) = this_word (nat_eq j k) word (word_from k (suc j) words)

-- the operand follows if the word is allowed; otherwise the entry is another
abbrev pub if_stands : Bool → Sym → TableEntry → TableEntry
if_stands true operand other = Take (operand ∷ [])
if_stands false operand other = other

-- the entry for a word if the symbol has a slot and there is such a word; otherwise another entry
abbrev pub word_answer : Option (Slot × Level) → Option AddedWord → TableEntry → TableEntry
word_answer (Some p) (Some word) other = if_stands (stands word p.0 p.1) (operand_symbol word.operand p.0 p.1) other
word_answer (Some p) None other = other
word_answer None word other = other

-- the table's entry for a symbol and a class, with these words
unfoldable pub answer_over : Words → Sym → Class → TableEntry
answer_over words s (Word place) = word_answer (slot_of s) (word_from place 0 words) (table_answer s (Word place))
answer_over words s class = table_answer s class

-- a word's code is free if it has no meaning in the protocol, and isn't the token that the tables use for such codes
abbrev pub is_free : AddedWord → Bool
is_free word = same_class (class_of word.code) Other && not (word.code == token_of Other)

-- whether each of the words has a free code
abbrev pub are_free : Words → Bool
are_free words = list_all is_free words

-- the words that a table takes into account: all if their codes are free, as the codes of accepted words are; otherwise
-- none
unfoldable pub spoken : Words → Words
spoken words = if are_free words then words else []

-- the dialect of a table with words
abbrev pub spoken_dialect : Words → Dialect
spoken_dialect words = dialect_of (spoken words)
