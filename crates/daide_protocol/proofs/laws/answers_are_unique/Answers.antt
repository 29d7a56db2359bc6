use Rattle.daide_protocol.proofs.OneRun.{one_run}
use Rattle.daide_protocol.proofs.laws.answers_are_unique.Goals as goal

pub returns : goal.returns
returns c = λ old events a b new other r s. one_run events old a b new other r s
