use Rattle.daide_settings.proofs.Common.{Some, ap, ◌∙◌}
use Rattle.daide_settings.proofs.Named.{v6_read, v6_unread}
use Rattle.daide_settings.proofs.settings.ranges.v6_named.Goals as goal

pub returns-in-Ok : goal.returns-in-Ok
returns-in-Ok c = ap Some c.to_bits.ensures ∙ v6_read c.args.text.now c.in-Ok.address c.in-Ok.ensures

pub returns-in-Err : goal.returns-in-Err
returns-in-Err c = v6_unread c.args.text.now c.in-Err.ensures
