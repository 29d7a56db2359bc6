use Rattle.std.proofs.Common.{ℕ, ◌++◌, List, refl}
use Rattle.daide_status.specs.Columns.{column_names, ended_line, run_line, server_line}
use Rattle.daide_status.proofs.Chains.{appended_as, chained, then_last}
use Rattle.daide_status.proofs.table.put_table_head.Goals as goal

pub returns : goal.returns
returns g c =
    let old : List ℕ = c.args.out.now.items in
    let run = c.args.run.now in
    let middle = c.put_ended_line.new.out in
    let new = c.append.new.list in
    then_last _ c.args.out.now middle new c.append.result (run_line run ++ server_line run.server ++ ended_line run.counts) column_names
    (chained old (run_line run ++ server_line run.server) (ended_line run.counts) _ _
    (chained old (run_line run) (server_line run.server) _ _ c.in_ok-put_run_line.ensures c.in_ok-put_server_line.ensures)
    c.in_ok-put_ended_line.ensures)
    (appended_as _ middle new c.append.result _ _ c.append.ensures.appended c.append.ensures.refused refl)
