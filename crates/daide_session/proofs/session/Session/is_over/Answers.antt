use Rattle.daide_session.proofs.Common.{ap, ◌∙◌, is_over, SessionView}
use Rattle.daide_session.proofs.session.Session.is_over.Goals as goal

pub returns : goal.returns
returns g c = c.is_over.ensures ∙ ap (λ (v : SessionView). is_over v.state.phase) c.self.view_is
