use Rattle.daide_log.proofs.Common.{HasFailed}
use Rattle.daide_log.proofs.RecordedPorts.{ports_recorded}
use Rattle.daide_log.proofs.laws.ports_are_recorded.Goals as goal

pub returns : goal.returns
returns g c = λ config words comments trace old new begun by.
    ports_recorded g.P.Ports.transition (HasFailed g.W.Sink.Fails) config words comments trace old new begun by
