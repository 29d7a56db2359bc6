use Rattle.std.proofs.Common.{ap, ◌∙◌}
use Rattle.std.specs.Fmt.{styled_decimal}
use Rattle.daide_status.proofs.Aligned.{aligned}
use Rattle.daide_status.proofs.Chains.{appended_as}
use Rattle.daide_status.proofs.pieces.put_right.Goals as goal

pub returns : goal.returns
returns g c =
    appended_as _ c.args.out.now c.append_text.new.text c.append_text.result _ _ c.append_text.ensures.appended
    c.append_text.ensures.refused
    (ap (λ s. styled_decimal s c.args.number) c.laid_out.ensures ∙ aligned c.args.width c.args.number)
