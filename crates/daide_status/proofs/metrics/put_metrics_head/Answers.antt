use Rattle.std.proofs.Common.{ℕ, ◌++◌, List}
use Rattle.daide_status.specs.Metrics.{admission_metrics, presence_metrics, server_metrics, waiting_metrics}
use Rattle.daide_status.proofs.Chains.{chained, then_last}
use Rattle.daide_status.proofs.metrics.put_metrics_head.Goals as goal

pub returns : goal.returns
returns g c =
    let old : List ℕ = c.args.out.now.items in
    let run = c.args.run.now in
    let presence = presence_metrics run in
    let admissions = admission_metrics run in
    let waiting = waiting_metrics run in
    then_last _ c.args.out.now c.put_state.new.out c.put_server.new.out c.put_server.result
    (presence ++ admissions ++ waiting) (server_metrics run.server)
    (chained old (presence ++ admissions) waiting _ _
    (chained old presence admissions _ _ c.in_ok-put_presence.ensures c.in_ok-put_admissions.ensures)
    c.in_ok-put_state.ensures) c.put_server.ensures
