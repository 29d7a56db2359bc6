use Rattle.std.proofs.Common.{length}
use Rattle.daide_sockets.proofs.control.+has_free.Given as goal

abbrev pub decreases-has_free : goal.decreases-has_free
decreases-has_free g l = length l.places.now
