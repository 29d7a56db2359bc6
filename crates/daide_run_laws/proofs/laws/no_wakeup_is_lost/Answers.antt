use Rattle.daide_run_laws.proofs.AsleepLemmas.{no_wakeup_lost}
use Rattle.daide_run_laws.proofs.RecordedPorts.{settles_within}
use Rattle.daide_run_laws.proofs.laws.no_wakeup_is_lost.Goals as goal

pub returns : goal.returns
returns g c = no_wakeup_lost _ _ g.S.Duplex.calls g.N.Network.transition (λ old new call h. (_, settles_within _ call _ _ h.ports.1))
