use Rattle.daide_protocol.proofs.Common.{[], refl}
use Rattle.daide_protocol.proofs.WordedVerdicts.{free_verdicts}
use Rattle.daide_protocol.proofs.laws.verdicts_are_the_grammars.Goals as goal

pub returns : goal.returns
returns c side level max_depth m v = free_verdicts [] refl side level max_depth m v
