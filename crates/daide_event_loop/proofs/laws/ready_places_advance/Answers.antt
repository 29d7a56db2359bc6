use Rattle.daide_event_loop.proofs.FairnessLemmas.{ready_places_advance}
use Rattle.daide_event_loop.proofs.laws.ready_places_advance.Goals as goal

pub returns : goal.returns
returns g c = ready_places_advance g.P.Ports.transition
