use Rattle.daide_protocol.proofs.OneRun.{runs_join}
use Rattle.daide_protocol.proofs.laws.runs_join.Goals as goal

pub returns : goal.returns
returns c = runs_join
