use Rattle.std.proofs.Common.{◌++◌, codes}
use Rattle.daide_status.specs.Metrics.{count_labels, count_sample, sample_end, sample_front}
use Rattle.daide_status.proofs.Chains.{chained, then_last}
use Rattle.daide_status.proofs.metrics.put_count.Goals as goal

pub returns : goal.returns
unfolding count_sample
returns g c =
    let old = c.args.out.now.items in
    let front = sample_front (codes "session_frames_total") c.args.row.now in
    let labels = count_labels c.args.side.now c.args.name.now in
    then_last _ c.args.out.now c.put_count_labels.new.out c.put_sample_end.new.out c.put_sample_end.result (front ++ labels)
    (sample_end c.args.count)
    (chained old front labels _ _ c.in_ok-put_sample_front.ensures c.in_ok-put_count_labels.ensures)
    c.put_sample_end.ensures
