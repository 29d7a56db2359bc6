use Rattle.std.proofs.Common.{length}
use Rattle.daide_sockets.proofs.control.+requested_by.Given as goal

abbrev pub decreases-requested_by : goal.decreases-requested_by
decreases-requested_by g l = length l.places.now
