-- The words that an operator adds to the grammar, and the form of each. (own)
use Rattle.std.specs.Prelude.{ℕ, Bool, false, not, ◌==◌, ◌||◌, List, [], ◌∷◌}
use Rattle.std.specs.List.{list_all}
use Rattle.daide_token.specs.declared.class.Class.TheVariants.{Word}
use Rattle.daide_grammar.specs.declared.level.Level.{Level}
use Rattle.daide_grammar.specs.Forms.{Slot, Press_slot, Arrangement_slot, Flat_slot, Form, never, ◌·◌, group, tok}
use Rattle.daide_grammar.specs.Forms.{some, from_level}
use Rattle.daide_grammar.specs.Message.Lists.{power, province}
use Rattle.daide_grammar.specs.Message.Orders.{order}
use Rattle.daide_grammar.specs.Message.Arrangements.{arrangement, flat_arrangement}
use Rattle.daide_grammar.specs.Message.Press.{press}

-- what a word and its operand form
pub data WordSlot : Type 0 where
  press_word : WordSlot  -- a press
  arrangement_word : WordSlot  -- an arrangement

-- the operand in brackets after a word; it has the level of the whole
pub data WordOperand : Type 0 where
  one_power : WordOperand  -- a power
  some_powers : WordOperand  -- powers, one at least
  some_provinces : WordOperand  -- provinces, one at least
  an_order : WordOperand  -- an order
  an_arrangement : WordOperand  -- an arrangement
  a_press : WordOperand  -- a press

-- a word: its token, what it forms, its lowest level, and its operand
pub record AddedWord : Type 0 where
  pub code : ℕ
  pub slot : WordSlot
  pub level : Level
  pub operand : WordOperand

-- the words of an operator, in the order in which they were added; empty without an operator's settings
abbrev pub Words : Type 0
Words = List AddedWord

-- the maximum number of words that an operator may add
abbrev pub most_words : ℕ
most_words = 16

-- whether a token is the code of one of the words
abbrev pub is_code : Words → ℕ → Bool
is_code [] t = false
is_code (word ∷ words) t = t == word.code || is_code words t

-- whether a list contains none of the words
abbrev pub has_no_word : Words → List ℕ → Bool
has_no_word words m = list_all (λ t. not (is_code words t)) m

-- the arrangements allowed in a slot: in the flat slot the flat ones
abbrev pub arrangement_in : Slot → Level → Form
arrangement_in Press_slot l = arrangement l
arrangement_in Arrangement_slot l = arrangement l
arrangement_in Flat_slot l = flat_arrangement l

-- the operand of a word in a slot, without its brackets
abbrev pub operand_in : WordOperand → Slot → Level → Form
operand_in one_power slot l = power
operand_in some_powers slot l = some power
operand_in some_provinces slot l = some province
operand_in an_order slot l = order
operand_in an_arrangement slot l = arrangement_in slot l
operand_in a_press slot l = press l

-- a press word is allowed as a press, an arrangement word as an arrangement and as a flat one
abbrev pub stands_in : WordSlot → Slot → Form → Form
stands_in press_word Press_slot f = f
stands_in press_word Arrangement_slot f = never
stands_in press_word Flat_slot f = never
stands_in arrangement_word Press_slot f = never
stands_in arrangement_word Arrangement_slot f = f
stands_in arrangement_word Flat_slot f = f

-- the word at an index among the words, in a slot: from its level on, the word and its operand in brackets
abbrev pub word_form : ℕ → AddedWord → Slot → Level → Form
word_form place word slot l =
    stands_in word.slot slot (from_level word.level l (tok (Word place) · group (operand_in word.operand slot l)))
