use Rattle.daide_session.proofs.Common.{ap, ◌∙◌, SessionView}
use Rattle.daide_protocol.specs.Account.{summary_of}
use Rattle.daide_session.proofs.session.Session.summary.Goals as goal

pub returns : goal.returns
returns g c = c.summary.ensures ∙ ap (λ (v : SessionView). summary_of v.account) c.self.view_is
