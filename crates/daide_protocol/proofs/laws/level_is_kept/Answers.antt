use Rattle.daide_protocol.proofs.AccountLevels.{level_is_kept}
use Rattle.daide_protocol.proofs.laws.level_is_kept.Goals as goal

pub returns : goal.returns
returns c = level_is_kept
