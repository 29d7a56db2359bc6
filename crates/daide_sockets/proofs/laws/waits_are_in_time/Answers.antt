use Rattle.daide_sockets.proofs.InTimeLemmas.{waits_in_time}
use Rattle.daide_sockets.proofs.laws.waits_are_in_time.Goals as goal

pub returns : goal.returns
returns g = waits_in_time
