use Rattle.daide_run_laws.proofs.RecordedPorts.{times_within}
use Rattle.daide_run_laws.proofs.StayLemmas.{timeouts_stay}
use Rattle.daide_run_laws.proofs.laws.timeouts_stay.Goals as goal

pub returns : goal.returns
returns g c = timeouts_stay _ _ (λ old new call h. times_within call _ _ h.ports.2)
