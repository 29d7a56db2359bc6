use Rattle.daide_session.proofs.Common.{[], ap, ◌∙◌, subst, sym, other, SessionView, Lost, Holding, holding, PerSide}
use Rattle.daide_session.proofs.Common.{at, KeepsFront, view_of, HoldsNoMore}
use Rattle.daide_channels.specs.Channels.{ReceiveState}
use Rattle.daide_session.proofs.SessionFronts.{other_front}
use Rattle.daide_session.proofs.WrittenLemmas.{holds_less, lost_of}
use Rattle.daide_session.proofs.SessionLemmas.{standing_over}
use Rattle.daide_session.proofs.session.Session.lost.Given.{Over}
use Rattle.daide_session.proofs.session.Session.lost.Goals as goal
use Rattle.daide_session.proofs.FrameEventsLemmas.{holding_at}

lost : (g : Over) (c : goal.After-lose g) →
    Lost (view_of c.self.inside.channels c.self.inside.protocol) c.args.side
    (view_of c.lose.new.self c.on_peer_closed.new.protocol)
lost g c = lost_of c.self.inside.channels c.on_peer_closed.new.channels c.lose.new.self c.self.inside.protocol c.on_peer_closed.new.protocol
    c.args.side c.on_peer_closed.ensures.moves c.on_peer_closed.ensures.keeps c.lose.ensures.lets_go c.lose.ensures.queued

pub invariant_of-self : goal.invariant_of-self
invariant_of-self g c = standing_over _ (lost g c).over

pub returns-clause-lost : goal.returns-clause-lost
returns-clause-lost g c =
    subst (λ (v : SessionView). Lost v c.args.side (view_of c.lose.new.self c.on_peer_closed.new.protocol)) c.self.view_is (lost g c)

pub returns-clause-other_front : goal.returns-clause-other_front
returns-clause-other_front g c =
    subst (λ (v : SessionView). KeepsFront v (other c.args.side) (view_of c.lose.new.self c.on_peer_closed.new.protocol))
    c.self.view_is
    (other_front c.self.inside.channels c.on_peer_closed.new.channels c.lose.new.self c.self.inside.protocol c.on_peer_closed.new.protocol
    c.args.side [] c.on_peer_closed.ensures.fronts c.lose.ensures.queued c.lose.ensures.other_front)

pub returns-clause-looks_at_nothing : goal.returns-clause-looks_at_nothing
returns-clause-looks_at_nothing g c = λ side.
    ap (λ (h : Holding). h.looked_at) (holding_at c.lose.new.self c.on_peer_closed.new.protocol side)
    ∙ (c.lose.ensures.lets_go.looked_at side
    ∙ (ap (λ (x : PerSide ReceiveState). (at x side).holding.looked_at) c.on_peer_closed.ensures.keeps.sides
    ∙ (ap (λ (h : Holding). h.looked_at) (sym (holding_at c.self.inside.channels c.self.inside.protocol side))
    ∙ ap (λ (v : SessionView). (holding v side).looked_at) c.self.view_is)))

pub returns-clause-asks_nothing : goal.returns-clause-asks_nothing
returns-clause-asks_nothing g c = λ side.
    ap (λ (h : Holding). h.total) (holding_at c.lose.new.self c.on_peer_closed.new.protocol side)
    ∙ (c.lose.ensures.lets_go.total side
    ∙ (ap (λ (x : PerSide ReceiveState). (at x side).holding.total) c.on_peer_closed.ensures.keeps.sides
    ∙ (ap (λ (h : Holding). h.total) (sym (holding_at c.self.inside.channels c.self.inside.protocol side))
    ∙ ap (λ (v : SessionView). (holding v side).total) c.self.view_is)))

pub returns-clause-holds : goal.returns-clause-holds
returns-clause-holds g c =
    subst (λ (v : SessionView). HoldsNoMore v (view_of c.lose.new.self c.on_peer_closed.new.protocol)) c.self.view_is
    (holds_less c.self.inside.channels c.on_peer_closed.new.channels c.lose.new.self c.self.inside.protocol c.on_peer_closed.new.protocol
    c.on_peer_closed.ensures.keeps.sides c.lose.ensures.lets_go)
