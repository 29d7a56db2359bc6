use Rattle.daide_channels.proofs.Common.{refl, sym, ◌∙◌}
use Rattle.daide_channels.proofs.AwaitedLemmas.{picked, tied}
use Rattle.daide_channels.proofs.channels.Channels.is_awaited.Goals as goal

pub returns-clause-value : goal.returns-clause-value
returns-clause-value g c =
    let h = picked c.self.invariant c.self.view_is c.at.ensures in
    c.is_awaited.ensures ∙ sym h.awaited

pub returns-clause-tied : goal.returns-clause-tied
returns-clause-tied g c = tied c.self.invariant c.self.view_is refl
