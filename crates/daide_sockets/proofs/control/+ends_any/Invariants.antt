use Rattle.std.proofs.Common.{length}
use Rattle.daide_sockets.proofs.control.+ends_any.Given as goal

abbrev pub decreases-ends_any : goal.decreases-ends_any
decreases-ends_any g l = length l.places.now
