use Rattle.daide_grammar.proofs.Common.{plain_laws}
use Rattle.daide_grammar.proofs.laws.lookups_are_bounded.Goals as goal

pub returns-clause-skips : goal.returns-clause-skips
returns-clause-skips c = λ stack k c l. plain_laws.few_skips stack k c l

pub returns-clause-ends : goal.returns-clause-ends
returns-clause-ends c = plain_laws.few_ends
