use Rattle.daide_channels.proofs.AwaitedLemmas.{picked}
use Rattle.daide_channels.proofs.channels.Channels.entries.Goals as goal

pub returns-clause-value : goal.returns-clause-value
returns-clause-value g c =
    let h = picked c.self.invariant c.self.view_is c.at.ensures in
    rw h.arrival c.entries.ensures.value

pub returns-clause-few : goal.returns-clause-few
returns-clause-few g c =
    let h = picked c.self.invariant c.self.view_is c.at.ensures in
    rw (h.cap, h.arrival) c.entries.ensures.few

pub returns-clause-at_most : goal.returns-clause-at_most
returns-clause-at_most g c =
    let h = picked c.self.invariant c.self.view_is c.at.ensures in
    rw h.rules c.entries.ensures.at_most
