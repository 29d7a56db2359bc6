use Rattle.daide_protocol.proofs.CallLemmas.{wires_get_answers}
use Rattle.daide_protocol.proofs.laws.each_wire_gets_the_answers.Goals as goal

pub returns : goal.returns
returns c = wires_get_answers
