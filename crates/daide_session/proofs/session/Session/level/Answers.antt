use Rattle.daide_session.proofs.Common.{ap, ◌∙◌, level_in, SessionView}
use Rattle.daide_session.proofs.session.Session.level.Goals as goal

pub returns : goal.returns
returns g c = c.level.ensures ∙ ap (λ (v : SessionView). level_in v.state.phase) c.self.view_is
