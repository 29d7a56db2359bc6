use Rattle.std.proofs.Common.{◌++◌, codes}
use Rattle.daide_status.specs.Metrics.{accepted_bots, run_metric}
use Rattle.daide_status.proofs.Chains.{chained, then_last}
use Rattle.daide_status.proofs.metrics.put_admissions.Goals as goal

pub returns : goal.returns
returns g c =
    let run = c.args.run.now in
    let bots = run_metric (codes "accepted_total") (codes "counter") (codes "Bots that were accepted.") (accepted_bots run) in
    let served = run_metric (codes "served_total") (codes "counter") (codes "Sessions that are over.") run.served in
    let unreached = run_metric (codes "unreached_total") (codes "counter")
    (codes "Bots for which the server could not be reached.") run.unreached in
    then_last _ c.args.out.now c.put_run_metric-2.new.out c.put_run_metric-3.new.out c.put_run_metric-3.result
    (bots ++ served) unreached
    (chained c.args.out.now.items bots served _ _ (rw c.accepted_bots.ensures at c.in_ok-put_run_metric.ensures)
    c.in_ok-put_run_metric-2.ensures) c.put_run_metric-3.ensures
