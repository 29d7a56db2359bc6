use Rattle.daide_grammar.proofs.Common.{plain_laws}
use Rattle.daide_grammar.proofs.PredictionLemmas.{short-rest}
use Rattle.daide_grammar.proofs.laws.stack_is_bounded.Goals as goal

pub returns-clause-entries : goal.returns-clause-entries
returns-clause-entries c = plain_laws.few_entries

pub returns-clause-rests : goal.returns-clause-rests
returns-clause-rests c = short-rest
