use Rattle.daide_session.proofs.Common.{ap, ◌∙◌, SessionView}
use Rattle.daide_protocol.specs.Machine.{plain_phase}
use Rattle.daide_session.proofs.session.Session.phase.Goals as goal

pub returns : goal.returns
returns g c = c.plain.ensures ∙ ap (λ (v : SessionView). plain_phase v.state.phase) c.self.view_is
