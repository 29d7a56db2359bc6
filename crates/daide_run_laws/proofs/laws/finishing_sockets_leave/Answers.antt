use Rattle.daide_run_laws.proofs.FinishTimeLemmas.{finishing_sockets_leave}
use Rattle.daide_run_laws.proofs.laws.finishing_sockets_leave.Goals as goal

pub returns : goal.returns
returns g c =
    finishing_sockets_leave g.N.Network.transition g.S.Duplex.to_give g.S.Duplex.taken g.S.Duplex.calls
