use Rattle.std.proofs.Common.{refl}
use Rattle.daide_sockets.proofs.control.show_at.Goals as goal

pub returns-in-Some : goal.returns-in-Some
returns-in-Some g c = rw c.in-Some.is (c.show.new.self, c.show.ensures.shows, refl)
