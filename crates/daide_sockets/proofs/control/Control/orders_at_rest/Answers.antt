use Rattle.daide_sockets.proofs.AtRestLemmas.{rests}
use Rattle.daide_sockets.proofs.control.Control.orders_at_rest.Goals as goal

pub returns-clause-control : goal.returns-clause-control
returns-clause-control g c = λ run bots. rests g.N.Network.transition g.S.Duplex.to_give g.S.Duplex.taken g.S.Duplex.calls run bots
    c.args.poller.now.table c.args.poller.now.network c.args.self.now c.requires.free c.requires.not_due
