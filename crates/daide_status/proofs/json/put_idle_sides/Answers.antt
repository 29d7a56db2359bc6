use Rattle.std.proofs.Common.{ℕ, ◌++◌, List, codes, refl}
use Rattle.daide_status.specs.Pieces.{number_or_null}
use Rattle.daide_status.proofs.Chains.{appended_as, chained, then_last}
use Rattle.daide_status.proofs.json.put_idle_sides.Goals as goal

pub returns : goal.returns
returns g c =
    let old : List ℕ = c.args.out.now.items in
    let row = c.args.row.now in
    let front = codes ",\"idle_seconds\":{\"bot\":" in
    let bot = number_or_null row.bot_idle in
    let between = codes ",\"server\":" in
    let server = number_or_null row.server_idle in
    let middle = c.put_or_null-2.new.out in
    let new = c.append-3.new.list in
    then_last _ c.args.out.now middle new c.append-3.result (front ++ bot ++ between ++ server) (codes "}}")
    (chained old (front ++ bot ++ between) server _ _
    (chained old (front ++ bot) between _ _
    (chained old front bot _ _ c.in_ok-append.ensures.appended c.in_ok-put_or_null.ensures)
    c.in_ok-append-2.ensures.appended) c.in_ok-put_or_null-2.ensures)
    (appended_as _ middle new c.append-3.result _ _ c.append-3.ensures.appended c.append-3.ensures.refused refl)
