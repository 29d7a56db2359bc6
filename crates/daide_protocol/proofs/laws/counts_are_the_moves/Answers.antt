use Rattle.daide_protocol.proofs.CountLemmas.{counts_are_sent}
use Rattle.daide_protocol.proofs.laws.counts_are_the_moves.Goals as goal

pub returns : goal.returns
returns c = counts_are_sent
