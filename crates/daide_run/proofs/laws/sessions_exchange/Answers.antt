use Rattle.daide_run.proofs.StreamLemmas.{exchanged}
use Rattle.daide_run.proofs.laws.sessions_exchange.Goals as goal

pub returns : goal.returns
returns g c = λ limits history first now gateway moves h.
    exchanged g.S.Duplex.to_give g.S.Duplex.taken limits history first now gateway moves h
