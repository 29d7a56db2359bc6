use Rattle.daide_settings.proofs.Common.{Some, ap, ◌∙◌}
use Rattle.daide_settings.proofs.Named.{v4_read, v4_unread}
use Rattle.daide_settings.proofs.settings.ranges.v4_named.Goals as goal

pub returns-in-Ok : goal.returns-in-Ok
returns-in-Ok c = ap Some c.to_bits.ensures ∙ v4_read c.args.text.now c.in-Ok.address c.in-Ok.ensures

pub returns-in-Err : goal.returns-in-Err
returns-in-Err c = v4_unread c.args.text.now c.in-Err.ensures
