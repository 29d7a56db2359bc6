use Rattle.std.proofs.Common.{append_assoc}
use Rattle.daide_status.specs.Totals.{end_sample}
use Rattle.daide_status.proofs.Chains.{appended_as}
use Rattle.daide_status.proofs.totals.put_end_sample.Goals as goal

pub returns : goal.returns
unfolding end_sample
returns g c =
    appended_as _ c.args.out.now c.append_text.new.text c.append_text.result _ _ c.append_text.ensures.appended
    c.append_text.ensures.refused (simp (append_assoc, c.name-name.ensures))
