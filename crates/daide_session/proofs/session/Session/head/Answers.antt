use Rattle.daide_session.proofs.Common.{sym, ap, ◌∙◌, head_in, SessionView, Holding, holding}
use Rattle.daide_session.proofs.FrameEventsLemmas.{holding_at}
use Rattle.daide_session.proofs.session.Session.head.Goals as goal

pub returns : goal.returns
returns g c =
    c.head.ensures
    ∙ (ap (λ (h : Holding). head_in c.self.inside.channels.cap h.frame_bytes)
    (sym (holding_at c.self.inside.channels c.self.inside.protocol c.args.side))
    ∙ ap (λ (v : SessionView). head_in v.state.limits.cap (holding v c.args.side).frame_bytes) c.self.view_is)
