use Rattle.std.proofs.Common.{refl}
use Rattle.daide_run.proofs.recorded.RecordedSocketsSystemRecordingSocketPortsConnectionSessionFileFile.poll.Goals as goal

pub returns : goal.returns
returns g c = let e = c.poll-orders.ensures.transition in (e.0, e.1, (e.2, tt, refl))
