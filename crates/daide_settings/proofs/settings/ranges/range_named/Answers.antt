use Rattle.std.proofs.lemmas.Str.Pattern.{split_once_first}
use Rattle.daide_settings.proofs.Common.{Some, arith, ◌∙◌}
use Rattle.daide_settings.proofs.Named.{range_split}
use Rattle.daide_settings.proofs.settings.ranges.range_named.Goals as goal

pub returns-in-Some : goal.returns-in-Some
returns-in-Some c =
    let parts = split_once_first 47 c.args.text.now (Some (c.in-Some.address, c.in-Some.digits)) c.in-Some.ensures.cases (omega arith) in
    c.prefixed.ensures ∙ range_split c.args.text.now c.in-Some.address.now c.in-Some.digits.now parts.0 parts.1 parts.2
