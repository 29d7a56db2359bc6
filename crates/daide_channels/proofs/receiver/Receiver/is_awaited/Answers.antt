use Rattle.daide_channels.proofs.Common.{ap, ◌∙◌, is_some, Receiver}
use Rattle.daide_channels.proofs.receiver.Receiver.is_awaited.Goals as goal

pub returns : goal.returns
returns g c = c.is_some.ensures ∙ ap (λ (v : Receiver). is_some v.verdict) c.self.view_is
