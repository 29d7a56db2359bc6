use Rattle.daide_channels.proofs.AwaitedLemmas.{picked}
use Rattle.daide_channels.proofs.channels.Channels.room.Goals as goal

pub returns : goal.returns
returns g c =
    let h = picked c.self.invariant c.self.view_is c.at.ensures in
    rw (h.cap, h.arrival) c.room.ensures
