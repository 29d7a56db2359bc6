use Rattle.std.proofs.Common.{refl, rules}
use Rattle.daide_buffered_io.proofs.StreamLemmas.{asked_moves}
use Rattle.daide_sockets.proofs.ports.SocketPortsPorts.clock.Goals as goal

pub returns-clause-transition : goal.returns-clause-transition
returns-clause-transition g c = (
  asked_moves g.S.Duplex.to_give g.S.Duplex.taken _ _ _ refl,
  refl,
  ((c.args.is_spent, search rules), refl),
)
