use Rattle.std.proofs.Common.{length}
use Rattle.daide_sockets.proofs.control.+are_places_free.Given as goal

abbrev pub decreases-are_places_free : goal.decreases-are_places_free
decreases-are_places_free g l = length l.places.now
