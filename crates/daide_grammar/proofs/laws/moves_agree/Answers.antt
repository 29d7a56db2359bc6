use Rattle.daide_grammar.proofs.Common.{plain_laws}
use Rattle.daide_grammar.proofs.laws.moves_agree.Goals as goal

pub returns-clause-takes : goal.returns-clause-takes
returns-clause-takes c = λ s rest t m a. plain_laws.takes s t rest a m

pub returns-clause-skips : goal.returns-clause-skips
returns-clause-skips c = λ s t m a. (plain_laws.skips_empty s t a, plain_laws.skips_none s t a m)

pub returns-clause-stops : goal.returns-clause-stops
returns-clause-stops c = λ s t m a. (plain_laws.stops_empty s t a, plain_laws.stops_none s t a m)

pub returns-clause-ends : goal.returns-clause-ends
returns-clause-ends c = plain_laws.ends
