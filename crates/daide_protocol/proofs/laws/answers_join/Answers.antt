use Rattle.daide_protocol.proofs.WireLemmas.{answers_join}
use Rattle.daide_protocol.proofs.laws.answers_join.Goals as goal

pub returns : goal.returns
returns c = answers_join
