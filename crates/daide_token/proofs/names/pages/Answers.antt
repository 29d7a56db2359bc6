use Rattle.daide_token.proofs.Common.{refl, names}
use Rattle.daide_token.proofs.names.pages.Goals as goal

pub returns-clause-rows : goal.returns-clause-rows
unfolding names
returns-clause-rows c = refl

pub returns-clause-short : goal.returns-clause-short
returns-clause-short c = refl

pub returns-clause-count : goal.returns-clause-count
returns-clause-count c = refl

pub returns-clause-spaced : goal.returns-clause-spaced
returns-clause-spaced c = refl
