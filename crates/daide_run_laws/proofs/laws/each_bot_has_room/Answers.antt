use Rattle.daide_run_laws.proofs.RoomLemmas.{each_bot_has_room}
use Rattle.daide_run_laws.proofs.laws.each_bot_has_room.Goals as goal

pub returns : goal.returns
returns g c = each_bot_has_room _ g.N.Network.transition g.S.Duplex.to_give g.S.Duplex.taken g.S.Duplex.calls (λ ports. ports.ports)
