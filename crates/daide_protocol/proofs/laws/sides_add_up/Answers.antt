use Rattle.daide_protocol.proofs.CountLemmas.{both_sides}
use Rattle.daide_protocol.proofs.laws.sides_add_up.Goals as goal

pub returns : goal.returns
returns c = both_sides
