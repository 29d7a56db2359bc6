use Rattle.daide_words.proofs.Common.{grammar_words}
use Rattle.daide_words.proofs.AcceptedCodes.{accepted_free}
use Rattle.daide_words.proofs.PairedOverWords.{huh-err-over}
use Rattle.daide_words.proofs.laws.huh_answer_with_err_is_a_message.Goals as goal

pub returns : goal.returns
returns c words side level m place accepted =
    huh-err-over (grammar_words words) (accepted_free words accepted) side level m place
