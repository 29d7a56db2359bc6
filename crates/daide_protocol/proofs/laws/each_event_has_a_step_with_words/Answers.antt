use Rattle.daide_protocol.proofs.Common.{grammar_words, accepted_free}
use Rattle.daide_protocol.proofs.WordedRuns.{step_over}
use Rattle.daide_protocol.proofs.laws.each_event_has_a_step_with_words.Goals as goal

pub returns : goal.returns
returns c words old event accepted same = step_over (grammar_words words) (accepted_free words accepted) old event same
