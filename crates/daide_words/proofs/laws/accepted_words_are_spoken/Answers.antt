use Rattle.daide_words.proofs.Common.{grammar_words, all-spoken}
use Rattle.daide_words.proofs.AcceptedCodes.{accepted_free}
use Rattle.daide_words.proofs.laws.accepted_words_are_spoken.Goals as goal

pub returns : goal.returns
returns c words accepted = all-spoken (grammar_words words) (accepted_free words accepted)
