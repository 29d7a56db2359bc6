use Rattle.daide_event_loop.proofs.OrderLemmas.{orders_heeded}
use Rattle.daide_event_loop.proofs.ServedLemmas.{rounds_serve}
use Rattle.daide_event_loop.proofs.laws.orders_are_heeded.Goals as goal

pub returns : goal.returns
returns g c = λ settings n trace run h.
    orders_heeded g.P.Ports.transition settings trace run (rounds_serve g.P.Ports.transition settings n trace run h).limit
