use Rattle.daide_log.proofs.Common.{◌∙◌, length, ap, coming, holding}
use Rattle.daide_protocol.specs.Machine.{ending_in}
use Rattle.daide_log.specs.Explained.{is_at_fault}
use Rattle.daide_frame.specs.Frames.{announced_by}
use Rattle.daide_log.proofs.PartLemmas.{part_found}
use Rattle.daide_log.proofs.explained.part_of.Goals as goal

pub returns : goal.returns
returns g c = λ number.
    let session = c.args.session.now in
    let side = c.args.side in
    part_found number side session.state.limits.cap (is_at_fault side (ending_in session.state.phase)) (holding session side).frame_bytes
    (coming session.state side).pending _ _ c.is_at_fault-at_fault.result
    c.announced_by-announced.result c.part_in.result
    (ap length c.header-header.ensures.value) (ap length c.body-body.ensures.value)
    (c.is_at_fault-at_fault.ensures ∙ ap (is_at_fault side) c.ending.ensures.value)
    (c.announced_by-announced.ensures.value ∙ ap announced_by c.head.ensures) c.part_in.ensures
    (c.header-header.ensures.tied c.requires)
