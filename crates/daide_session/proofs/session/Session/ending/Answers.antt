use Rattle.daide_session.proofs.Common.{Option, ap, ◌∙◌, is_some, Ending, SessionView}
use Rattle.daide_protocol.specs.Machine.{ending_in}
use Rattle.daide_protocol.proofs.EndingLemmas.{ending_known}
use Rattle.daide_session.proofs.session.Session.ending.Goals as goal

pub returns-clause-value : goal.returns-clause-value
returns-clause-value g c = c.ending.ensures ∙ ap (λ (v : SessionView). ending_in v.state.phase) c.self.view_is

pub returns-clause-over : goal.returns-clause-over
returns-clause-over g c =
    ap (λ (e : Option Ending). is_some e) (returns-clause-value g c) ∙ ending_known c.args.self.now.state.phase
