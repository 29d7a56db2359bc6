use Rattle.daide_event_loop.proofs.ServedLemmas.{sessions_served}
use Rattle.daide_event_loop.proofs.laws.sessions_are_served.Goals as goal

pub returns : goal.returns
returns g c = λ settings n trace run rounds. sessions_served g.P.Ports.transition settings n trace run rounds
