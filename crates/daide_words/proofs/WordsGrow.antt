-- A word that is allowed at a level is allowed at every higher one, so a higher level only adds messages.
use Rattle.daide_words.proofs.Common.{ℕ, suc, List, [], ◌∷◌, Level, Side2, AddedWord, Words, WordSlot, press_word}
use Rattle.daide_words.proofs.Common.{arrangement_word, WordOperand, an_arrangement, operand_in, stands_in, word_form}
use Rattle.daide_words.proofs.Common.{dialect_from, dialect_of, IsMessageOver}
use Rattle.daide_grammar.specs.Forms.{Slot, Press_slot, Arrangement_slot, Flat_slot, Form}
use Rattle.daide_grammar.specs.Words.{one_power, some_powers, some_provinces, an_order, a_press, arrangement_in}
use Rattle.daide_grammar.proofs.LevelsGrow.{◌⊑◌, SlotWithin, same_slot, flat_slot, arrangements, flats, flat_arrangements}
use Rattle.daide_grammar.proofs.LevelsGrow.{presses, Within, same, missing, ◌··◌, ◌∣∣◌, inside, name, WordsGrow}
use Rattle.daide_grammar.proofs.LevelsGrow.{from_level-within, message-grows}

-- an arrangement of a slot is one of every larger slot, at every higher level
arrangement-within : (s t : Slot) (a b : Level) → SlotWithin s t → a ⊑ b →
    Within (arrangement_in s a) (arrangement_in t b)
arrangement-within Press_slot t a b same_slot h = name (arrangements h)
arrangement-within Arrangement_slot t a b same_slot h = name (arrangements h)
arrangement-within Flat_slot t a b same_slot h = name (flats h)
arrangement-within s t a b flat_slot h = name (flat_arrangements h)

-- the same for a word's operand
operand-within : (operand : WordOperand) (s t : Slot) (a b : Level) → SlotWithin s t → a ⊑ b →
    Within (operand_in operand s a) (operand_in operand t b)
operand-within one_power s t a b k h = same
operand-within some_powers s t a b k h = same
operand-within some_provinces s t a b k h = same
operand-within an_order s t a b k h = same
operand-within an_arrangement s t a b k h = arrangement-within s t a b k h
operand-within a_press s t a b k h = name (presses h)

-- a word that is allowed in a slot is allowed in every larger slot
stands-within : (slot : WordSlot) (s t : Slot) {f g : Form} → SlotWithin s t → Within f g →
    Within (stands_in slot s f) (stands_in slot t g)
stands-within press_word Press_slot t same_slot w = w
stands-within press_word Arrangement_slot t same_slot w = missing
stands-within press_word Flat_slot t same_slot w = missing
stands-within press_word s t flat_slot w = missing
stands-within arrangement_word Press_slot t same_slot w = missing
stands-within arrangement_word Arrangement_slot t same_slot w = w
stands-within arrangement_word Flat_slot t same_slot w = w
stands-within arrangement_word s t flat_slot w = w

-- a word is allowed from its level on
word-within : (place : ℕ) (word : AddedWord) (s t : Slot) (a b : Level) → SlotWithin s t → a ⊑ b →
    Within (word_form place word s a) (word_form place word t b)
word-within place word s t a b k h =
    stands-within word.slot s t k
    (from_level-within word.level a b h (same ·· inside (operand-within word.operand s t a b k h)))

-- and so are all words
words-grow : (place : ℕ) (words : Words) → WordsGrow (dialect_from place words)
words-grow place [] s t a b k h = missing
words-grow place (word ∷ words) s t a b k h =
    word-within place word s t a b k h ∣∣ words-grow (suc place) words s t a b k h

-- a message with words is one at every higher level
pub levels-only-add-over : (words : Words) (side : Side2) (low high : Level) (m : List ℕ) → low ⊑ high →
    IsMessageOver words side low m → IsMessageOver words side high m
levels-only-add-over words = message-grows (dialect_of words) (words-grow 0 words)
