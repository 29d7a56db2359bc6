use Rattle.daide_grammar.proofs.Common.{[], ◌∷◌, refl, bra, ket, L0}
use Rattle.daide_grammar.specs.Balanced.{bracketed, empty, plain}
use Rattle.daide_grammar.specs.declared.side.Side2.TheVariants.{Client as BotSide, ServerEnd}
use Rattle.daide_grammar.proofs.Apart.{numbers_apart}
use Rattle.daide_grammar.proofs.law_facts.answers_at_values.Goals as goal

pub returns-clause-prn : goal.returns-clause-prn
returns-clause-prn c = c.prn_answer_is_a_message.ensures.message BotSide L0 (ket ∷ [])

pub returns-clause-prn_depth : goal.returns-clause-prn_depth
returns-clause-prn_depth c m = c.prn_answer_is_a_message.ensures.depth (bra ∷ m)

pub returns-clause-huh : goal.returns-clause-huh
returns-clause-huh c = c.huh_answer_is_a_message.ensures.message ServerEnd L0 (bra ∷ ket ∷ []) (bracketed [] empty)

pub returns-clause-huh_depth : goal.returns-clause-huh_depth
returns-clause-huh_depth c = c.huh_answer_is_a_message.ensures.depth (bra ∷ ket ∷ []) (bracketed [] empty) refl

pub returns-clause-err : goal.returns-clause-err
returns-clause-err c =
    c.huh_answer_with_err_is_a_message.ensures.message BotSide L0 (0x4803 ∷ []) 0
    (plain 0x4803 (numbers_apart 0x4803 bra refl) (numbers_apart 0x4803 ket refl))

pub returns-clause-err_depth : goal.returns-clause-err_depth
returns-clause-err_depth c place = c.huh_answer_with_err_is_a_message.ensures.depth (0x4803 ∷ []) place
