use Rattle.daide_words.proofs.DifferentWords.{codes_differ, names_differ}
use Rattle.daide_words.proofs.laws.accepted_words_differ.Goals as goal

pub returns-clause-names : goal.returns-clause-names
returns-clause-names c = names_differ

pub returns-clause-codes : goal.returns-clause-codes
returns-clause-codes c = codes_differ
