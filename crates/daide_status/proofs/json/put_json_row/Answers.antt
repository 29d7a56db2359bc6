use Rattle.std.proofs.Common.{ℕ, ◌++◌, List}
use Rattle.daide_status.specs.Json.{json_counts, json_identity, json_idle, json_waiting, json_bytes}
use Rattle.daide_status.proofs.Chains.{chained, then_last}
use Rattle.daide_status.proofs.json.put_json_row.Goals as goal

pub returns : goal.returns
returns g c =
    let old : List ℕ = c.args.out.now.items in
    let row = c.args.row.now in
    let first = json_identity row ++ json_counts row.account in
    let waiting = json_waiting row in
    let bytes = json_bytes row in
    then_last _ c.args.out.now c.put_byte_sides.new.out c.put_idle_sides.new.out c.put_idle_sides.result
    (first ++ waiting ++ bytes) (json_idle row)
    (chained old (first ++ waiting) bytes _ _
    (chained old first waiting _ _
    (chained old (json_identity row) (json_counts row.account) _ _ c.in_ok-put_identity.ensures
    c.in_ok-put_counts.ensures) c.in_ok-put_waiting_sides.ensures) c.in_ok-put_byte_sides.ensures) c.put_idle_sides.ensures
