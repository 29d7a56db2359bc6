use Rattle.daide_grammar.proofs.Languages.{huh-answer}
use Rattle.daide_grammar.proofs.DepthLemmas.{huh_depth}
use Rattle.daide_grammar.proofs.laws.huh_answer_is_a_message.Goals as goal

pub returns-clause-message : goal.returns-clause-message
returns-clause-message c = huh-answer

pub returns-clause-depth : goal.returns-clause-depth
returns-clause-depth c = huh_depth
