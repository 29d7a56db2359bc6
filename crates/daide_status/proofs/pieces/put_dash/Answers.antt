use Rattle.std.proofs.Common.{ap, ◌∙◌, codes}
use Rattle.std.specs.Fmt.{styled_text}
use Rattle.daide_status.proofs.Aligned.{dashed}
use Rattle.daide_status.proofs.Chains.{appended_as}
use Rattle.daide_status.proofs.pieces.put_dash.Goals as goal

pub returns : goal.returns
returns g c =
    appended_as _ c.args.out.now c.append_text.new.text c.append_text.result _ _ c.append_text.ensures.appended
    c.append_text.ensures.refused (ap (λ s. styled_text s (codes "-")) c.laid_out.ensures ∙ dashed c.args.width)
