use Rattle.daide_show.proofs.Separators.{separators_alone}
use Rattle.daide_show.proofs.laws.separators_alone_are_dropped.Goals as goal

pub returns : goal.returns
returns c = separators_alone
