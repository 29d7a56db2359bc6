-- The definitions at single words: XYZ, a press about a power from level 20 on, and QQQ, an arrangement about an
-- arrangement from level 30 on. Worked out from the protocol.
use Rattle.daide_words.proofs.Common.{◌≡◌, ℕ, List, [], ◌∷◌, codes, true, refl, Ok, Err, Word, class_of, names, name_of}
use Rattle.daide_words.proofs.Common.{token_named, Level, L0, L10, L20, L30, L40, L50, L60, Press, WordList, Client}
use Rattle.daide_words.proofs.Common.{Take, Stop, entries, may_end_of, slot_of, table_answer, Words, dialect_of, Slot}
use Rattle.daide_words.proofs.Common.{grammar_words, names_of, word_fault, are_accepted, answer_over}
use Rattle.daide_grammar.specs.declared.symbol.Sym.TheVariants.{Arrangement, Fact, Operand, PowerGroup}
use Rattle.daide_grammar.specs.declared.symbol.Sym.TheVariants.{ArrangementGroup, OperandGroup}
use Rattle.daide_words.specs.declared.slot.Slot.TheVariants as slots
use Rattle.daide_words.specs.declared.operand.Operand as kinds
use Rattle.daide_words.specs.declared.operand.Operand.TheVariants as operands
use Rattle.daide_words.specs.declared.word.Word as code
use Rattle.daide_words.specs.declared.word.WordError.TheVariants as faults
use Rattle.daide_words.specs.Table.OverWords.{spoken}

abbrev made : List ℕ → ℕ → Slot → Level → kinds.Operand → code.Word
made name token slot level operand = record { name = name; code = token; slot = slot; level = level; operand = operand }

abbrev xyz : code.Word
xyz = made (codes "XYZ") 0x4A40 slots.Press L20 operands.Power

abbrev qqq : code.Word
qqq = made (codes "QQQ") 0x4A41 slots.Arrangement L30 operands.Arrangement

abbrev words : Words
words = grammar_words (xyz ∷ qqq ∷ [])

-- both are accepted, and taken into account
accepted : are_accepted (xyz ∷ qqq ∷ []) ≡ true
unfolding name_of token_named names
accepted = refl

both_spoken : spoken words ≡ words
unfolding spoken class_of
both_spoken = refl

-- each refusal, in its order
refused :
    (word_fault (names_of (xyz ∷ [])) (made (codes "GOF") 0x4A41 slots.Press L20 operands.Power) ≡ Err faults.Name)
    × (word_fault (names_of (xyz ∷ [])) (made (codes "xyz") 0x4A41 slots.Press L20 operands.Power) ≡ Err faults.Name)
    × (word_fault (names_of (xyz ∷ [])) (made (codes "XYZ") 0x4A10 slots.Press L20 operands.Power) ≡ Err faults.Name)
    × (word_fault (names_of (xyz ∷ [])) (made (codes "QQQ") 0x4A10 slots.Press L0 operands.Power) ≡ Err faults.Code)
    × (word_fault (names_of (xyz ∷ [])) (made (codes "QQQ") 0x4A12 slots.Press L20 operands.Power) ≡ Err faults.Code)
    × (word_fault (names_of (xyz ∷ [])) (made (codes "QQQ") 0x4A40 slots.Press L20 operands.Power) ≡ Err faults.Code)
    × (word_fault (names_of (xyz ∷ [])) (made (codes "QQQ") 0x4B00 slots.Press L20 operands.Power) ≡ Err faults.Code)
    × (word_fault (names_of (xyz ∷ [])) (made (codes "QQQ") 0x4A41 slots.Arrangement L0 operands.Press)
    ≡ Err faults.Level)
    × (word_fault (names_of (xyz ∷ [])) (made (codes "QQQ") 0x4A41 slots.Arrangement L20 operands.Press)
    ≡ Err faults.Operand)
    × (word_fault (names_of (xyz ∷ [])) (made (codes "QQQ") 0x4A41 slots.Press L20 operands.Press) ≡ Ok tt)
unfolding name_of token_named names
refused = (refl, refl, refl, refl, refl, refl, refl, refl, refl, refl)

-- a word's code has the word's class, and another token has its own
classes : ((dialect_of words).class_of 0x4A40 ≡ Word 0) × ((dialect_of words).class_of 0x4A41 ≡ Word 1)
    × ((dialect_of words).class_of 0x4A42 ≡ class_of 0x4A42)
classes = (refl, refl, refl)

-- a press about a power, from level 20 on
press_word : (answer_over words (Press L20) (Word 0) ≡ Take (PowerGroup ∷ []))
    × (answer_over words (Press L60) (Word 0) ≡ Take (PowerGroup ∷ []))
    × (answer_over words (Press L10) (Word 0) ≡ Stop)
    × (answer_over words (Arrangement L60) (Word 0) ≡ Stop)
    × (answer_over words (Client L60) (Word 0) ≡ Stop)
    × (answer_over words WordList (Word 0) ≡ Take (WordList ∷ []))
unfolding answer_over table_answer entries may_end_of slot_of
press_word = (refl, refl, refl, refl, refl, refl)

-- an arrangement about an arrangement; as an operand below level 50 about a flat one; as a fact never about a fact
arrangement_word : (answer_over words (Arrangement L30) (Word 1) ≡ Take (ArrangementGroup L30 ∷ []))
    × (answer_over words (Arrangement L20) (Word 1) ≡ Stop)
    × (answer_over words (Operand L30) (Word 1) ≡ Take (OperandGroup L30 ∷ []))
    × (answer_over words (Operand L40) (Word 1) ≡ Take (OperandGroup L40 ∷ []))
    × (answer_over words (Operand L50) (Word 1) ≡ Take (ArrangementGroup L50 ∷ []))
    × (answer_over words (Fact L60) (Word 1) ≡ Take (ArrangementGroup L60 ∷ []))
    × (answer_over words (Press L60) (Word 1) ≡ Stop)
    × (answer_over words (Arrangement L60) (Word 2) ≡ Stop)
unfolding answer_over table_answer entries may_end_of slot_of
arrangement_word = (refl, refl, refl, refl, refl, refl, refl, refl)
