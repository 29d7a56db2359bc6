use Rattle.std.proofs.Common.{length}
use Rattle.daide_sockets.proofs.control.+arm_all.Given as goal

abbrev pub decreases-arm_all : goal.decreases-arm_all
decreases-arm_all g l = length l.places.now
