use Rattle.daide_channels.proofs.Common.{◌∙◌, ap, length, refl, Queue}
use Rattle.daide_channels.proofs.AwaitedLemmas.{seen, waits_len}
use Rattle.daide_channels.proofs.channels.Channels.count.Goals as goal

pub returns-clause-value : goal.returns-clause-value
returns-clause-value g c =
    c.len.ensures.value ∙ ap (λ (q : Queue). length q.items) c.at.ensures
    ∙ waits_len (seen c.self.invariant c.self.view_is refl)

pub returns-clause-at_most_three : goal.returns-clause-at_most_three
returns-clause-at_most_three g c = c.len.ensures.at_most_three
