use Rattle.std.proofs.Common.{sym, refl}
use Rattle.daide_run.proofs.recorded.RecordedSocketsSystemRecordingSocketPortsConnectionSessionFileFile.retire.Goals as goal

pub returns : goal.returns
returns g c = (
  (λ holds. rw (sym c.close-ports.ensures.ports) (c.retire.ensures.transition holds)),
  rw c.number_of.ensures at c.close-ports.ensures.closed,
  refl,
)
