use Rattle.std.proofs.Common.{ℕ, ◌++◌, List}
use Rattle.daide_status.specs.Columns.{bot_cells, session_cells, side_cells, waiting_cells}
use Rattle.daide_status.proofs.Chains.{chained, then_last}
use Rattle.daide_status.proofs.table.put_table_row.Goals as goal

pub returns : goal.returns
returns g c =
    let old : List ℕ = c.args.out.now.items in
    let row = c.args.row.now in
    let session = session_cells row in
    let bot = side_cells row.account.bot in
    let server = side_cells row.account.server in
    let waiting = waiting_cells row in
    then_last _ c.args.out.now c.put_waiting_cells.new.out c.put_bot.new.out c.put_bot.result
    (session ++ bot ++ server ++ waiting) (bot_cells row)
    (chained old (session ++ bot ++ server) waiting _ _
    (chained old (session ++ bot) server _ _
    (chained old session bot _ _ c.in_ok-put_session_cells.ensures c.in_ok-put_side.ensures)
    c.in_ok-put_side-2.ensures) c.in_ok-put_waiting_cells.ensures) c.put_bot.ensures
