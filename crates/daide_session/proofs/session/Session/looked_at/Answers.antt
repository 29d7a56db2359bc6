use Rattle.daide_session.proofs.Common.{sym, ap, ◌∙◌, SessionView, Holding, holding}
use Rattle.daide_session.proofs.FrameEventsLemmas.{holding_at}
use Rattle.daide_session.proofs.session.Session.looked_at.Goals as goal

pub returns : goal.returns
returns g c =
    c.looked_at.ensures
    ∙ (ap (λ (h : Holding). h.looked_at) (sym (holding_at c.self.inside.channels c.self.inside.protocol c.args.side))
    ∙ ap (λ (v : SessionView). (holding v c.args.side).looked_at) c.self.view_is)
