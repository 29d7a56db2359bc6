use Rattle.daide_session.proofs.Common.{sym, ap, ◌∙◌, take, Coming, coming, SessionView, Holding, holding, is_awaited}
use Rattle.daide_session.proofs.Common.{queued}
use Rattle.daide_session.proofs.FrameEventsLemmas.{holding_at}
use Rattle.daide_session.proofs.EmitsLemmas.{coming_at}
use Rattle.daide_session.proofs.session.Session.header.Goals as goal

pub returns-clause-value : goal.returns-clause-value
returns-clause-value g c =
    c.header.ensures
    ∙ (ap (λ (h : Holding). take 4 h.frame_bytes)
    (sym (holding_at c.self.inside.channels c.self.inside.protocol c.args.side))
    ∙ ap (λ (v : SessionView). take 4 (holding v c.args.side).frame_bytes) c.self.view_is)

pub returns-clause-tied : goal.returns-clause-tied
returns-clause-tied g c = λ free.
    let t = c.self.inside.channels in
    let s = c.self.inside.protocol in
    ap (λ (v : SessionView). (holding v c.args.side).frame_bytes) (sym c.self.view_is)
    ∙ (ap (λ (h : Holding). h.frame_bytes) (holding_at t s c.args.side)
    ∙ (c.is_awaited-awaited.ensures.tied
    (ap (λ (v : SessionView). is_awaited (queued v) c.args.side) c.self.view_is ∙ free)
    ∙ (ap (λ (x : Coming). x.pending) (sym (coming_at t s c.args.side))
    ∙ ap (λ (v : SessionView). (coming v.state c.args.side).pending) c.self.view_is)))
