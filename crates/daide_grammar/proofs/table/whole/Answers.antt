use Rattle.daide_grammar.proofs.Common.{refl}
use Rattle.daide_grammar.proofs.table.whole.Goals as goal

pub returns-clause-rows : goal.returns-clause-rows
returns-clause-rows c = refl

pub returns-clause-rests : goal.returns-clause-rests
returns-clause-rests c = refl

pub returns-clause-lengths : goal.returns-clause-lengths
returns-clause-lengths c = refl

pub returns-clause-firsts : goal.returns-clause-firsts
returns-clause-firsts c = refl

pub returns-clause-growths : goal.returns-clause-growths
returns-clause-growths c = refl

pub returns-clause-brackets : goal.returns-clause-brackets
returns-clause-brackets c = refl

pub returns-clause-classes : goal.returns-clause-classes
returns-clause-classes c = refl
