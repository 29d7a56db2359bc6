use Rattle.daide_show.proofs.Common.{[], ◌∷◌, refl, ◌∙◌, digits, Huh}
use Rattle.daide_token.specs.Names.{name_of, names}
use Rattle.daide_token.specs.Text.{text_with}
use Rattle.daide_show.proofs.law_facts.answer_at_a_message.Goals as goal

pub returns : goal.returns
unfolding digits text_with name_of names
returns c = c.shown_answers_are_those_sent.ensures [] (0x48 ∷ 0x0F ∷ 0x48 ∷ 0x03 ∷ []) (Huh 1) refl ∙ refl
