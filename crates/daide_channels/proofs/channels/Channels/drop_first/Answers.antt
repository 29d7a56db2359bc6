use Rattle.daide_channels.proofs.Common.{ap, ◌∙◌, at, put, Queue, first_of, tail_of}
use Rattle.daide_channels.specs.Channels.{fields}
use Rattle.daide_channels.proofs.DroppedLemmas.{IsLeft, dropped_first}
use Rattle.daide_channels.proofs.channels.Channels.drop_first.Given.{Over}
use Rattle.daide_channels.proofs.channels.Channels.drop_first.Goals.{After-release}
use Rattle.daide_channels.proofs.channels.Channels.drop_first.Goals as goal

lets_go : (g : Over) (c : After-release g) → IsLeft c.args.self.now
    (fields c.release.new.receivers (put c.self.inside.wires c.args.to c.drop_first-gone.new.self)) c.args.to
lets_go g c =
    let d = c.self.inside in
    let own = c.at_mut.ensures.value in
    dropped_first (fields d.receivers d.wires) _ c.args.self.now c.args.to c.drop_first-gone.result c.self.view_is
    c.self.invariant (c.drop_first-gone.ensures.gone ∙ ap (λ (q : Queue). first_of q.items) own)
    (ap (put d.wires c.args.to) (c.drop_first-gone.ensures.left
    ∙ ap (λ (q : Queue). record { written = 0; items = tail_of q.items }) own)) c.release.ensures

pub invariant_of-self : goal.invariant_of-self
invariant_of-self g c = (lets_go g (goal.at.invariant_of-self g c).After-release).sound

pub returns-clause-lets_go : goal.returns-clause-lets_go
returns-clause-lets_go g c = (lets_go g (goal.at.returns-clause-lets_go g c).After-release).goes

pub returns-clause-queued : goal.returns-clause-queued
returns-clause-queued g c = (lets_go g (goal.at.returns-clause-queued g c).After-release).queued

pub returns-clause-other_front : goal.returns-clause-other_front
returns-clause-other_front g c = (lets_go g (goal.at.returns-clause-other_front g c).After-release).other_front

pub returns-clause-own_front : goal.returns-clause-own_front
returns-clause-own_front g c = (lets_go g (goal.at.returns-clause-own_front g c).After-release).own_front
