use Rattle.daide_protocol.proofs.SomeRun.{some_run}
use Rattle.daide_protocol.proofs.laws.events_have_a_run.Goals as goal

pub returns : goal.returns
returns c = some_run
