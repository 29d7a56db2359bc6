use Rattle.daide_channels.proofs.Common.{refl}
use Rattle.daide_channels.proofs.AwaitedLemmas.{picked, tied}
use Rattle.daide_channels.proofs.channels.Channels.body.Goals as goal

pub returns-clause-value : goal.returns-clause-value
returns-clause-value g c =
    let h = picked c.self.invariant c.self.view_is c.at.ensures in
    rw h.arrival c.body.ensures.value

pub returns-clause-within : goal.returns-clause-within
returns-clause-within g c =
    let h = picked c.self.invariant c.self.view_is c.at.ensures in
    rw (h.cap, h.arrival) c.body.ensures.within

pub returns-clause-capped : goal.returns-clause-capped
returns-clause-capped g c =
    let h = picked c.self.invariant c.self.view_is c.at.ensures in
    rw (h.cap, h.arrival) c.body.ensures.capped

pub returns-clause-short : goal.returns-clause-short
returns-clause-short g c = c.body.ensures.short

pub returns-clause-tied : goal.returns-clause-tied
returns-clause-tied g c = tied c.self.invariant c.self.view_is refl
