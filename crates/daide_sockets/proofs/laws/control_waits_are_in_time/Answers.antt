use Rattle.daide_sockets.proofs.ControlInTimeLemmas.{control_in_time}
use Rattle.daide_sockets.proofs.laws.control_waits_are_in_time.Goals as goal

pub returns : goal.returns
returns g c = control_in_time _
