use Rattle.daide_session.proofs.Common.{subst, SessionView, view_of, Dropped}
use Rattle.daide_session.proofs.WrittenLemmas.{dropped_of}
use Rattle.daide_session.proofs.SessionLemmas.{standing_dropped}
use Rattle.daide_session.proofs.session.Session.drop_waiting.Given.{Over}
use Rattle.daide_session.proofs.session.Session.drop_waiting.Goals as goal

returns_dropped : (g : Over) (c : goal.After-lose g) →
    Dropped (view_of c.self.inside.channels c.self.inside.protocol) c.args.to
    (view_of c.lose.new.self c.self.inside.protocol)
returns_dropped g c = dropped_of c.self.inside.channels c.lose.new.self c.self.inside.protocol c.args.to c.lose.ensures.lets_go
    c.lose.ensures.queued c.lose.ensures.other_front

pub invariant_of-self : goal.invariant_of-self
invariant_of-self g c = standing_dropped _ _ c.args.to (returns_dropped g c) c.self.invariant

pub returns : goal.returns
returns g c =
    subst (λ (v : SessionView). Dropped v c.args.to (view_of c.lose.new.self c.self.inside.protocol)) c.self.view_is
    (returns_dropped g c)
