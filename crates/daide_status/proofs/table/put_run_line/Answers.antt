use Rattle.std.proofs.Common.{ℕ, ◌++◌, List, codes, refl}
use Rattle.daide_status.specs.Pieces.{text_if}
use Rattle.daide_status.specs.Columns.{totals}
use Rattle.daide_status.proofs.Chains.{appended_as, chained, then_last}
use Rattle.daide_status.proofs.table.put_run_line.Goals as goal

pub returns : goal.returns
returns g c =
    let old : List ℕ = c.args.out.now.items in
    let run = c.args.run.now in
    let waiting = text_if run.has_waiting (codes "; bots may wait for a place") in
    let stopping = text_if run.is_stopping (codes "; stopping") in
    let middle = c.put_if-2.new.out in
    let new = c.append.new.list in
    then_last _ c.args.out.now middle new c.append.result (totals run ++ waiting ++ stopping) (codes "\n")
    (chained old (totals run ++ waiting) stopping _ _
    (chained old (totals run) waiting _ _ c.in_ok-put_totals.ensures c.in_ok-put_if.ensures) c.in_ok-put_if-2.ensures)
    (appended_as _ middle new c.append.result _ _ c.append.ensures.appended c.append.ensures.refused refl)
