use Rattle.daide_event_loop.proofs.FairnessLemmas.{rounds_are_short}
use Rattle.daide_event_loop.proofs.laws.rounds_are_short.Goals as goal

pub returns : goal.returns
returns g c = rounds_are_short g.P.Ports.transition
