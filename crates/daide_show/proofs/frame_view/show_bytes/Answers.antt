use Rattle.daide_show.proofs.Common.{arith}
use Rattle.daide_show.proofs.OneFrame.{fault_has_header, right_frame}
use Rattle.daide_show.proofs.frame_view.show_bytes.Goals as goal

pub write_frame-written-requires-clause-right : goal.write_frame-written-requires-clause-right
write_frame-written-requires-clause-right g c =
    rw c.body.ensures.value (right_frame c.in-Ok.cutter.cap c.args.bytes.now c.in-Whole.head _ c.in-Whole.ensures).0

pub write_frame-written-requires-clause-capped : goal.write_frame-written-requires-clause-capped
write_frame-written-requires-clause-capped g c =
    let right = right_frame c.in-Ok.cutter.cap c.args.bytes.now c.in-Whole.head _ c.in-Whole.ensures in
    rw c.body.ensures.value (omega (arith, c.in-Ok.ensures.cap, right.1))

pub write_bytes_fault-written-requires : goal.write_bytes_fault-written-requires
write_bytes_fault-written-requires g c =
    fault_has_header c.in-Ok.cutter.cap c.args.bytes.now c.in-Fault.code c.in-Fault.ensures
