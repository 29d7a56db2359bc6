use Rattle.daide_session.proofs.Common.{sym, ap, ◌∙◌, drop, ◌≤◌, length, subst, announced, SessionView, Holding}
use Rattle.daide_session.proofs.Common.{holding}
use Rattle.daide_session.proofs.FrameEventsLemmas.{holding_at}
use Rattle.daide_session.proofs.session.Session.body.Goals as goal

pub returns-clause-value : goal.returns-clause-value
returns-clause-value g c =
    c.body.ensures.value
    ∙ (ap (λ (h : Holding). drop 4 h.frame_bytes)
    (sym (holding_at c.self.inside.channels c.self.inside.protocol c.args.side))
    ∙ ap (λ (v : SessionView). drop 4 (holding v c.args.side).frame_bytes) c.self.view_is)

pub returns-clause-within : goal.returns-clause-within
returns-clause-within g c =
    subst (λ (v : SessionView). length c.body.result.now ≤ announced v.state.limits.cap (holding v c.args.side).frame_bytes)
    c.self.view_is
    (subst (λ (h : Holding). length c.body.result.now ≤ announced c.self.inside.channels.cap h.frame_bytes)
    (sym (holding_at c.self.inside.channels c.self.inside.protocol c.args.side)) c.body.ensures.within)
