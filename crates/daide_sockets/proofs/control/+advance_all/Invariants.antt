use Rattle.std.proofs.Common.{length}
use Rattle.daide_sockets.proofs.control.+advance_all.Given as goal

abbrev pub decreases-advance_all : goal.decreases-advance_all
decreases-advance_all g l = length l.places.now
