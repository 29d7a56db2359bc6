use Rattle.daide_session.proofs.Common.{sym, ap, ◌∙◌, Coming, coming, SessionView}
use Rattle.daide_session.proofs.EmitsLemmas.{coming_at}
use Rattle.daide_session.proofs.session.Session.noted.Goals as goal

pub returns : goal.returns
returns g c =
    c.noted.ensures
    ∙ (ap (λ (h : Coming). h.noted) (sym (coming_at c.self.inside.channels c.self.inside.protocol c.args.side))
    ∙ ap (λ (v : SessionView). (coming v.state c.args.side).noted) c.self.view_is)
