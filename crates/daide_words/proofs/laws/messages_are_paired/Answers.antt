use Rattle.daide_words.proofs.Common.{grammar_words}
use Rattle.daide_words.proofs.AcceptedCodes.{accepted_free}
use Rattle.daide_words.proofs.PairedOverWords.{over-paired}
use Rattle.daide_words.proofs.laws.messages_are_paired.Goals as goal

pub returns : goal.returns
returns c words side level m accepted =
    over-paired (grammar_words words) (accepted_free words accepted) side level m
