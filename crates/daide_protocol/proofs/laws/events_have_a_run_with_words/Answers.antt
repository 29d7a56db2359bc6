use Rattle.daide_protocol.proofs.Common.{grammar_words, accepted_free}
use Rattle.daide_protocol.proofs.WordedRuns.{run_over}
use Rattle.daide_protocol.proofs.laws.events_have_a_run_with_words.Goals as goal

pub returns : goal.returns
returns c words old events accepted same = run_over (grammar_words words) (accepted_free words accepted) old events same
