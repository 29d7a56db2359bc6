use Rattle.daide_sockets.proofs.ClosingTimeLemmas.{closing_sockets_leave}
use Rattle.daide_sockets.proofs.laws.closing_sockets_leave.Goals as goal

pub returns : goal.returns
returns g c = closing_sockets_leave g.S.Duplex.to_give g.S.Duplex.taken g.S.Duplex.calls
