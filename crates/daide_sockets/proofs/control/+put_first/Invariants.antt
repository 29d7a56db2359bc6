use Rattle.std.proofs.Common.{length}
use Rattle.daide_sockets.proofs.control.+put_first.Given as goal

abbrev pub decreases-put_first : goal.decreases-put_first
decreases-put_first g l = length l.places.now
