use Rattle.daide_words.proofs.Common.{inl, refl}
use Rattle.daide_words.proofs.laws.prn_answer_is_a_message.Goals as goal

pub returns : goal.returns
returns c words side level m = inl (m, refl)
