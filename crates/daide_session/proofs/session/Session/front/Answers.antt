use Rattle.daide_session.proofs.Common.{List, sym, ap, ◌∙◌, subst, Sent, SessionView, queued, IsFrontOf}
use Rattle.daide_protocol.specs.Wires.{front_of, next_part}
use Rattle.daide_session.proofs.SessionFronts.{parts_at}
use Rattle.daide_session.proofs.EmitsLemmas.{waiting_at}
use Rattle.daide_session.proofs.session.Session.front.Goals as goal

pub returns-clause-value : goal.returns-clause-value
returns-clause-value g c =
    c.front.ensures.value
    ∙ (ap next_part (sym (parts_at c.self.inside.channels c.self.inside.protocol c.args.side))
    ∙ ap (λ (v : SessionView). front_of v c.args.side) c.self.view_is)

pub returns-clause-front : goal.returns-clause-front
returns-clause-front g c =
    subst (λ (v : SessionView). IsFrontOf c.front.result.now (queued v c.args.side)) c.self.view_is
    (subst (λ (xs : List Sent). IsFrontOf c.front.result.now xs)
    (sym (waiting_at c.self.inside.channels c.self.inside.protocol c.args.side)) c.front.ensures.front)
