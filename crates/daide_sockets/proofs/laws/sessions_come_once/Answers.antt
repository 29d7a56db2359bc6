use Rattle.daide_sockets.proofs.OnceLemmas.{come_once}
use Rattle.daide_sockets.proofs.laws.sessions_come_once.Goals as goal

pub returns : goal.returns
returns g c = λ pair old new trace n came arrivals h. come_once n g.S.Duplex.to_give g.S.Duplex.taken g.S.Duplex.calls pair old new trace came arrivals h
