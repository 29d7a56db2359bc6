use Rattle.std.proofs.Common.{◌≡◌, true, false, refl}
use Rattle.daide_sockets.specs.PollTimes.{listener_armed, others_armed}
use Rattle.daide_sockets.specs.Table.{arming_all}
use Rattle.daide_sockets.proofs.RunPollLemmas.{blocks_armed, is_armed}
use Rattle.daide_sockets.proofs.system.Sockets.poll_places.Goals as goal
use Rattle.daide_sockets.proofs.system.Sockets.poll_places.Goals.{then-may_block, else-may_block}

pub returns-clause-polls : goal.returns-clause-polls
returns-clause-polls g c =
    let base = c.args.self.now.poller.table in
    let others = others_armed base (listener_armed base c.args.self.now.acceptor) c.args.self.now.closings.streams in
    let armed = c.if-may_block.self.poller.table in
    let on : c.args.may_block ≡ true → armed ≡ arming_all base others = elim c.if-may_block.branch [
      | then-may_block w ↦ λ e. rw w.self-is w.arm_others.ensures.armed
      | else-may_block w ↦ λ e. absurd (let off = w.if-may_block.false in cc)
    ] in
    let off : c.args.may_block ≡ false → armed ≡ base = elim c.if-may_block.branch [
      | then-may_block w ↦ λ e. absurd (let on = w.if-may_block.true in cc)
      | else-may_block w ↦ λ e. rw w.self-is refl
    ] in
    let network : c.if-may_block.self.poller.network ≡ c.args.self.now.poller.network = elim c.if-may_block.branch [
      | then-may_block w ↦ rw w.self-is w.arm_others.ensures.network
      | else-may_block w ↦ rw w.self-is refl
    ] in
    let p = c.poll_for.ensures in (
      p.0,
      p.1,
      p.2,
      blocks_armed c.args.may_block base armed others p.2 on p.3,
      armed,
      is_armed c.args.may_block base armed others on off,
      c.poll_for.new.self.table,
      rw network at p.4,
      c.disarm.ensures,
    )
