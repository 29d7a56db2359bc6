use Rattle.daide_session.proofs.Common.{ap, SessionView}
use Rattle.daide_session.proofs.session.Session.account.Goals as goal

pub returns : goal.returns
returns g c = ap (λ (v : SessionView). v.account) c.self.view_is
