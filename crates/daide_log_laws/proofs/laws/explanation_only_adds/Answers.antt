use Rattle.daide_log_laws.proofs.OnlyAdds.{explanation_adds, plain_adds_nothing}
use Rattle.daide_log_laws.proofs.laws.explanation_only_adds.Goals as goal

pub returns : goal.returns
returns c = record { adds = explanation_adds; none = plain_adds_nothing }
