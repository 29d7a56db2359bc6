use Rattle.daide_protocol.proofs.HarmLemmas.{harms_alone}
use Rattle.daide_protocol.proofs.laws.a_side_harms_itself_alone.Goals as goal

pub returns : goal.returns
returns c = harms_alone
