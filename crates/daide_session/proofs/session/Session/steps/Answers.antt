use Rattle.daide_session.proofs.Common.{◌≤◌, sym, ap, ◌∙◌, subst, SessionView, holding, steps_of, steps_bound}
use Rattle.daide_session.proofs.FrameEventsLemmas.{holding_at}
use Rattle.daide_session.proofs.WeightLemmas.{steps_few, steps_once}
use Rattle.daide_session.specs.Work.{look_ups_due}
use Rattle.daide_session.proofs.session.Session.steps.Goals as goal

pub returns-clause-value : goal.returns-clause-value
returns-clause-value g c =
    c.steps.ensures.value
    ∙ (ap steps_of (sym (holding_at c.self.inside.channels c.self.inside.protocol c.args.side))
    ∙ ap (λ (v : SessionView). steps_of (holding v c.args.side)) c.self.view_is)

pub returns-clause-steps : goal.returns-clause-steps
returns-clause-steps g c =
    subst (λ (v : SessionView). c.steps.result ≤ steps_bound v c.args.side) c.self.view_is
    (steps_few c.self.inside.channels c.self.inside.protocol c.args.side c.steps.result c.steps.ensures.few)

pub returns-clause-once : goal.returns-clause-once
returns-clause-once g c =
    subst (λ (v : SessionView). c.steps.result ≤ look_ups_due v c.args.side) c.self.view_is
    (steps_once c.self.inside.channels c.self.inside.protocol c.args.side c.steps.result c.steps.ensures.once)
