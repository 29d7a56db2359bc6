use Rattle.daide_run_laws.proofs.DeadlineLemmas.{no_session_waits}
use Rattle.daide_run_laws.proofs.RecordedPorts.{settles_within, times_within}
use Rattle.daide_run_laws.proofs.laws.no_session_waits_for_ever.Goals as goal

pub returns : goal.returns
returns g c =
    no_session_waits _ _ (λ old new call h. (_, settles_within _ call _ _ h.ports.1))
    (λ old new call h. times_within call _ _ h.ports.2) g.S.Duplex.calls g.N.Network.transition
