use Rattle.daide_words.proofs.Common.{grammar_words, laws_over}
use Rattle.daide_words.proofs.AcceptedCodes.{accepted_free}
use Rattle.daide_words.proofs.laws.added_words_keep_the_laws.Goals as goal

pub returns : goal.returns
returns c words accepted = laws_over (grammar_words words) (accepted_free words accepted)
