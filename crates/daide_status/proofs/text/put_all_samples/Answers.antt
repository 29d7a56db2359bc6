use Rattle.daide_status.specs.Metrics.{session_metrics}
use Rattle.daide_status.specs.Totals.{total_metrics}
use Rattle.daide_status.proofs.Chains.{then_last}
use Rattle.daide_status.proofs.text.put_all_samples.Goals as goal

pub returns : goal.returns
returns g c =
    let samples = c.args.samples.now in
    then_last _ c.args.out.now c.put_total_metrics.new.out c.put_session_metrics.new.out c.put_session_metrics.result
    (total_metrics c.args.counts.now)
    (session_metrics samples.frames.items samples.bytes.items samples.waiting.items samples.idle.items samples.levels.items)
    c.in_ok-put_total_metrics.ensures c.put_session_metrics.ensures
