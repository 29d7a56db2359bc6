use Rattle.std.proofs.Common.{length}
use Rattle.daide_frame.specs.PerSide.{at, put}
use Rattle.daide_frame.specs.Side.{other}
use Rattle.daide_frame.proofs.PerSideLemmas.{at_put, put_there}
use Rattle.daide_sockets.proofs.PortLemmas.{pulled_ports, same_beside}
use Rattle.daide_sockets.proofs.ports.SocketPortsPorts.pull.Goals as goal

pub returns-else-eq-clause-transition : goal.returns-else-eq-clause-transition
returns-else-eq-clause-transition g c =
    let sides = c.args.self.now.sides in
    let side = c.args.side in
    let socket = c.pull_in_time-pull.new.socket in
    let pulls = rw c.at_mut.ensures.value at c.pull_in_time-pull.ensures in
    pulled_ports g.S.Duplex.to_give g.S.Duplex.taken g.S.Duplex.calls c.args.self.now (put sides side socket) side
    (length c.args.buffer.now) c.pull_in_time-pull.result c.pull_in_time-pull.new.buffer
    (rw (at_put sides side socket) pulls.passes)
    (rw (at_put sides side socket) pulls.pulled)
    (rw (at_put sides side socket) pulls.in_time)
    (rw (put_there sides side socket)
    (same_beside g.S.Duplex.to_give g.S.Duplex.taken g.S.Duplex.calls c.args.self.now.idle.reading (at sides (other side))))
