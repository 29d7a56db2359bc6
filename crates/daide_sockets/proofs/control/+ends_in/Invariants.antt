use Rattle.std.proofs.Common.{length}
use Rattle.daide_sockets.proofs.control.+ends_in.Given as goal

abbrev pub decreases-ends_in : goal.decreases-ends_in
decreases-ends_in g l = length l.places.now
