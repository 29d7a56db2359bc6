use Rattle.daide_words.proofs.Common.{[], ◌∷◌, refl, ap, ◌∙◌, nat_le, ◌&&◌, Level, L10, L60, Client, Press, WordList}
use Rattle.daide_words.proofs.Common.{level_number, Take, entries, may_end_of, slot_of, table_answer, Operand, Slot}
use Rattle.daide_words.proofs.Common.{grammar_operand, grammar_slot, makes, operand_symbol}
use Rattle.daide_grammar.specs.Forms.{Press_slot}
use Rattle.daide_words.proofs.law_facts.classes_at_values.Goals as goal

pub returns-clause-class : goal.returns-clause-class
returns-clause-class c word accepted = c.added_words_move_as_other.ensures.class (word ∷ []) 0 word accepted refl

pub returns-clause-stands : goal.returns-clause-stands
unfolding slot_of
returns-clause-stands c word accepted slot level operand =
    c.added_words_move_as_other.ensures.stands (word ∷ []) 0 word (Press L10) Press_slot L10 accepted refl refl
    (ap (λ (s : Slot). makes (grammar_slot s) Press_slot && nat_le (level_number word.level) 10) slot
    ∙ ap (λ (l : Level). nat_le (level_number l) 10) level)
    ∙ ap (λ (o : Operand). Take (operand_symbol (grammar_operand o) Press_slot L10 ∷ [])) operand

pub returns-clause-client : goal.returns-clause-client
unfolding slot_of table_answer entries may_end_of
returns-clause-client c word accepted =
    c.added_words_move_as_other.ensures.elsewhere (word ∷ []) 0 word (Client L60) accepted refl refl

pub returns-clause-list : goal.returns-clause-list
unfolding slot_of table_answer entries may_end_of
returns-clause-list c word accepted =
    c.added_words_move_as_other.ensures.elsewhere (word ∷ []) 0 word WordList accepted refl refl
