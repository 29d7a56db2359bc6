use Rattle.std.proofs.Common.{ℕ, ◌++◌, List}
use Rattle.daide_status.specs.Totals.{end_metric, frame_metric, lost_metrics}
use Rattle.daide_status.proofs.Chains.{chained, then_last}
use Rattle.daide_status.proofs.totals.put_total_metrics.Goals as goal

pub returns : goal.returns
returns g c =
    let old : List ℕ = c.args.out.now.items in
    let counts = c.args.counts.now in
    let lost = lost_metrics counts in
    let ends = end_metric counts.ends in
    then_last _ c.args.out.now c.put_ends.new.out c.put_frame_metric.new.out c.put_frame_metric.result (lost ++ ends) (frame_metric counts)
    (chained old lost ends _ _ c.in_ok-put_lost.ensures c.in_ok-put_ends.ensures) c.put_frame_metric.ensures
