use Rattle.daide_status.specs.Metrics.{metric_head}
use Rattle.daide_status.proofs.Chains.{appended_as, then_last}
use Rattle.daide_status.proofs.metrics.put_session_metric.Goals as goal

pub returns : goal.returns
returns g c =
    let middle = c.put_metric.new.out in
    let new = c.append.new.list in
    then_last _ c.args.out.now middle new c.append.result (metric_head c.args.name.now c.args.kind.now c.args.help.now)
    c.args.samples.now.items c.in_ok-put_metric.ensures
    (appended_as _ middle new c.append.result _ _ c.append.ensures.appended c.append.ensures.refused c.as_slice.ensures.value)
