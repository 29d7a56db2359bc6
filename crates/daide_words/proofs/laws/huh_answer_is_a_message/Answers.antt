use Rattle.daide_words.proofs.Common.{grammar_words}
use Rattle.daide_words.proofs.AcceptedCodes.{accepted_free}
use Rattle.daide_words.proofs.PairedOverWords.{huh-over}
use Rattle.daide_words.proofs.laws.huh_answer_is_a_message.Goals as goal

pub returns : goal.returns
returns c words side level a accepted =
    huh-over (grammar_words words) (accepted_free words accepted) side level a
