use Rattle.std.proofs.Common.{ℕ, ◌++◌, List, codes, refl}
use Rattle.daide_status.specs.Columns.{ended_items, no_sessions}
use Rattle.daide_status.proofs.Chains.{appended_as, chained, then_last}
use Rattle.daide_status.proofs.table.put_ended_line.Goals as goal

pub returns : goal.returns
returns g c =
    let old : List ℕ = c.args.out.now.items in
    let counts = c.args.counts.now in
    let middle = c.put_ended_items.new.out in
    let new = c.append.new.list in
    then_last _ c.args.out.now middle new c.append.result (no_sessions counts ++ ended_items counts.ends) (codes "\n")
    (chained old (no_sessions counts) (ended_items counts.ends) _ _ c.in_ok-put_no_sessions.ensures
    c.in_ok-put_ended_items.ensures)
    (appended_as _ middle new c.append.result _ _ c.append.ensures.appended c.append.ensures.refused refl)
