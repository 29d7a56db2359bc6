use Rattle.std.proofs.Common.{sym, refl}
use Rattle.daide_run.proofs.recorded.RecordedSocketsSystemRecordingSocketPortsConnectionSessionFileFile.rest.Goals as goal

pub returns : goal.returns
returns g c = (
  (λ holds. rw (sym c.ports.ensures) (c.rest.ensures.transition holds)),
  rw c.number_of-number.ensures at c.report.ensures,
  refl,
)
