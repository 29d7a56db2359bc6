use Rattle.std.proofs.Common.{length}
use Rattle.daide_sockets.proofs.control.+first_free.Given as goal

abbrev pub decreases-first_free : goal.decreases-first_free
decreases-first_free g l = length l.places.now
