use Rattle.daide_log.proofs.Common.{◌∙◌}
use Rattle.daide_log.proofs.play.take_answers.Goals as goal

pub returns-clause-state : goal.returns-clause-state
returns-clause-state g c = c.drop_waiting-2.ensures.same_state ∙ c.drop_waiting.ensures.same_state

pub returns-clause-idle : goal.returns-clause-idle
returns-clause-idle g c = record {
  bot = c.drop_waiting-2.ensures.other_wire ∙ c.drop_waiting.ensures.dropped;
  server = c.drop_waiting-2.ensures.dropped;
}
