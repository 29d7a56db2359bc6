use Rattle.std.proofs.Common.{◌∙◌}
use Rattle.daide_protocol.specs.Machine.{is_over}
use Rattle.daide_driver.proofs.HubLemmas.{is_there, closed_over}
use Rattle.daide_driver.proofs.slot.Removed.from_closed.Goals as goal

-- the session is closed, so its ending is known
pub unwrap-requires : goal.unwrap-requires
unwrap-requires g c =
    is_there c.ending.result (c.ending.ensures.over ∙ closed_over (is_over c.args.session.state.phase) _ c.requires)
