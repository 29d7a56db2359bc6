use Rattle.daide_run_laws.proofs.OverdueLemmas.{deadlines_pass_seldom}
use Rattle.daide_run_laws.proofs.RecordedPorts.{times_within}
use Rattle.daide_run_laws.proofs.laws.deadlines_pass_seldom.Goals as goal

pub returns : goal.returns
returns g c = deadlines_pass_seldom _ _ (λ old new call h. times_within call _ _ h.ports.2) g.N.Network.transition
