use Rattle.std.proofs.Common.{length}
use Rattle.daide_sockets.proofs.control.+room_beside.Given as goal

abbrev pub decreases-room_beside : goal.decreases-room_beside
decreases-room_beside g l = length l.places.now
