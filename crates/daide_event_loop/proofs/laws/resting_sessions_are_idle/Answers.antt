use Rattle.daide_event_loop.proofs.RestingLemmas.{resting_sessions_are_idle}
use Rattle.daide_event_loop.proofs.laws.resting_sessions_are_idle.Goals as goal

pub returns : goal.returns
returns g c = resting_sessions_are_idle g.P.Ports.transition
