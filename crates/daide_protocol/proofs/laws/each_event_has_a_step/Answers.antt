use Rattle.daide_protocol.proofs.SomeRun.{some_step}
use Rattle.daide_protocol.proofs.laws.each_event_has_a_step.Goals as goal

pub returns : goal.returns
returns c = some_step
