use Rattle.daide_words.proofs.Common.{grammar_words}
use Rattle.daide_words.proofs.AcceptedCodes.{accepted_free}
use Rattle.daide_words.proofs.OverMessages.{start_symbol-language}
use Rattle.daide_words.proofs.laws.start_symbol_stands_for_messages.Goals as goal

pub returns : goal.returns
returns c words side level m accepted =
    start_symbol-language (grammar_words words) (accepted_free words accepted) side level m
