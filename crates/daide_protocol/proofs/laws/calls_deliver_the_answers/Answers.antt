use Rattle.daide_protocol.proofs.CallLemmas.{calls_deliver}
use Rattle.daide_protocol.proofs.laws.calls_deliver_the_answers.Goals as goal

pub returns : goal.returns
returns c = λ old new calls are. calls_deliver calls old new are
