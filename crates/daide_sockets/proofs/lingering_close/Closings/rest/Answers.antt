use Rattle.daide_sockets.proofs.FinishingLemmas.{waited}
use Rattle.daide_sockets.proofs.lingering_close.Closings.rest.Goals as goal

pub returns : goal.returns
returns g c =
    let poll = c.poll.ensures in
    waited g.N.Network.transition c.args.self.now.streams poll.0 _ _ _ _ _ _ c.disarm.ensures c.arm.ensures poll.1 poll.2
