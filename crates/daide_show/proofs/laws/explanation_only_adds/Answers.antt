use Rattle.daide_show.proofs.OnlyAdded.{only_adds}
use Rattle.daide_show.proofs.laws.explanation_only_adds.Goals as goal

pub returns : goal.returns
returns c = λ words side level. only_adds words side level
