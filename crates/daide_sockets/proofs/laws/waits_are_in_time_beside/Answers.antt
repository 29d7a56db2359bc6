use Rattle.daide_sockets.proofs.BesideLemmas.{beside_in_time}
use Rattle.daide_sockets.proofs.laws.waits_are_in_time_beside.Goals as goal

pub returns : goal.returns
returns g c = beside_in_time
