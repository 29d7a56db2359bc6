use Rattle.daide_frame.specs.PerSide.{at, put}
use Rattle.daide_frame.specs.Side.{other}
use Rattle.daide_frame.proofs.PerSideLemmas.{at_put, put_there}
use Rattle.daide_sockets.proofs.PortLemmas.{offered_ports, same_beside}
use Rattle.daide_sockets.proofs.ports.SocketPortsPorts.put.Goals as goal

pub returns-else-eq-clause-transition : goal.returns-else-eq-clause-transition
returns-else-eq-clause-transition g c =
    let sides = c.args.self.now.sides in
    let side = c.args.side in
    let socket = c.put-put.new.self in
    let puts = rw c.at_mut.ensures.value at c.put-put.ensures in
    offered_ports g.S.Duplex.to_give g.S.Duplex.taken g.S.Duplex.calls c.args.self.now (put sides side socket) side
    c.args.bytes.now c.put-put.result
    (rw (at_put sides side socket) puts.passes)
    (rw (at_put sides side socket) puts.offered)
    (rw (at_put sides side socket) puts.in_time)
    (rw (put_there sides side socket)
    (same_beside g.S.Duplex.to_give g.S.Duplex.taken g.S.Duplex.calls c.args.self.now.idle.reading (at sides (other side))))
