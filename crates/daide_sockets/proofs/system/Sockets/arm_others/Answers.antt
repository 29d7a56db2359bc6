use Rattle.std.proofs.Common.{◌∙◌}
use Rattle.daide_sockets.specs.PollTimes.{listener_armed}
use Rattle.daide_sockets.proofs.BesideLemmas.{beside_armed}
use Rattle.daide_sockets.proofs.system.Sockets.arm_others.Goals as goal

pub returns-clause-armed : goal.returns-clause-armed
returns-clause-armed g c =
    c.arm-2.ensures
    ∙ beside_armed {S = g.row.N-Connection.Denot} c.args.self.now.poller.table c.arm.new.table
    (listener_armed c.args.self.now.poller.table c.args.self.now.acceptor) c.args.self.now.closings.streams c.arm.ensures
