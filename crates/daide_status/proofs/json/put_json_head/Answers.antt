use Rattle.std.proofs.Common.{◌++◌}
use Rattle.daide_status.specs.Json.{json_run_counts, json_run_state, json_server}
use Rattle.daide_status.proofs.Chains.{chained, then_last}
use Rattle.daide_status.proofs.json.put_json_head.Goals as goal

pub returns : goal.returns
returns g c =
    let run = c.args.run.now in
    then_last _ c.args.out.now c.put_run_state.new.out c.put_server_member.new.out c.put_server_member.result
    (json_run_counts run ++ json_run_state run) (json_server run.server)
    (chained c.args.out.now.items (json_run_counts run) (json_run_state run) _ _ c.in_ok-put_run_counts.ensures
    c.in_ok-put_run_state.ensures) c.put_server_member.ensures
