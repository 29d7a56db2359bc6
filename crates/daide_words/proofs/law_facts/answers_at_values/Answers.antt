use Rattle.daide_words.proofs.Common.{refl, [], ◌∷◌, bra, ket, L0}
use Rattle.daide_grammar.specs.Balanced.{bracketed, empty, plain}
use Rattle.daide_grammar.specs.declared.side.Side2.TheVariants.{Client as BotSide, ServerEnd}
use Rattle.daide_words.proofs.Apart.{numbers_apart}
use Rattle.daide_words.proofs.law_facts.answers_at_values.Goals as goal

pub returns-clause-prn : goal.returns-clause-prn
returns-clause-prn c word = c.prn_answer_is_a_message.ensures (word ∷ []) BotSide L0 (ket ∷ [])

pub returns-clause-huh : goal.returns-clause-huh
returns-clause-huh c word accepted =
    c.huh_answer_is_a_message.ensures (word ∷ []) ServerEnd L0 _ accepted (bracketed [] empty)

pub returns-clause-err : goal.returns-clause-err
returns-clause-err c word accepted =
    c.huh_answer_with_err_is_a_message.ensures (word ∷ []) BotSide L0 (0x4A40 ∷ []) 0 accepted
    (plain 0x4A40 (numbers_apart 0x4A40 bra refl) (numbers_apart 0x4A40 ket refl))
