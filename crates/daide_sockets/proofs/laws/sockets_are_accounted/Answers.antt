use Rattle.daide_sockets.proofs.AccountedLemmas.{accounted}
use Rattle.daide_sockets.proofs.laws.sockets_are_accounted.Goals as goal

pub returns : goal.returns
returns g c = λ pair old new trace came arrivals closing h.
    accounted g.S.Duplex.to_give g.S.Duplex.taken g.S.Duplex.calls pair old new trace came arrivals closing h
