-- A word of an operator, and its form in the grammar. (own)
use Rattle.std.specs.Prelude.{List, [], ◌∷◌, map}
use Rattle.daide_token.specs.Names.{Named}
use Rattle.daide_grammar.specs.Words.{AddedWord, Words, WordSlot, press_word, arrangement_word, WordOperand, one_power}
use Rattle.daide_grammar.specs.Words.{some_powers, some_provinces, an_order, an_arrangement, a_press}
use Rattle.daide_words.specs.declared.slot.Slot.{Slot}
use Rattle.daide_words.specs.declared.slot.Slot.TheVariants as slots
use Rattle.daide_words.specs.declared.operand.Operand.{Operand}
use Rattle.daide_words.specs.declared.operand.Operand.TheVariants as operands
use Rattle.daide_words.specs.declared.word.Word.{Word}
use Rattle.daide_words.specs.declared.word.WordMeaning.{WordMeaning}

-- a slot, in the grammar's form
abbrev pub grammar_slot : Slot → WordSlot
grammar_slot slots.Press = press_word
grammar_slot slots.Arrangement = arrangement_word

-- an operand, in the grammar's form
abbrev pub grammar_operand : Operand → WordOperand
grammar_operand operands.Power = one_power
grammar_operand operands.Powers = some_powers
grammar_operand operands.Provinces = some_provinces
grammar_operand operands.Order = an_order
grammar_operand operands.Arrangement = an_arrangement
grammar_operand operands.Press = a_press

-- a word, in the grammar's form, which has no name
abbrev pub grammar_word : Word → AddedWord
grammar_word word = record {
  code = word.code;
  slot = grammar_slot word.slot;
  level = word.level;
  operand = grammar_operand word.operand;
}

-- the words of an operator, in the grammar's form
abbrev pub grammar_words : List Word → Words
grammar_words words = map grammar_word words

-- the code and the name of each word
abbrev pub names_of : List Word → List Named
names_of words = map (λ word. let named : Named = (word.code, word.name) in named) words

-- the word of a code, a name and a meaning
abbrev pub new_word : Named → WordMeaning → Word
new_word named meaning =
    record { name = named.1; code = named.0; slot = meaning.slot; level = meaning.level; operand = meaning.operand }

-- the words of separate lists of names and meanings
abbrev pub words_with : List Named → List WordMeaning → List Word
words_with (named ∷ names) (meaning ∷ meanings) = new_word named meaning ∷ words_with names meanings
words_with _ _ = []
