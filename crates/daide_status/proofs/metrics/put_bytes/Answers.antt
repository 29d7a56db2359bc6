use Rattle.std.proofs.Common.{ℕ, ◌++◌, List, codes}
use Rattle.daide_status.specs.Metrics.{session_sample}
use Rattle.daide_status.proofs.Chains.{chained, then_last}
use Rattle.daide_status.proofs.metrics.put_bytes.Goals as goal

pub returns : goal.returns
returns g c =
    let old = c.args.out.now.items in
    let row = c.args.row.now in
    let sample : List ℕ → ℕ → List ℕ = λ label count. session_sample (codes "session_bytes_total") row label count in
    let from_bot = sample (codes "side=\"bot\",direction=\"received\"") row.received_from_bot in
    let from_server = sample (codes "side=\"server\",direction=\"received\"") row.received_from_server in
    let to_bot = sample (codes "side=\"bot\",direction=\"sent\"") row.sent_to_bot in
    let to_server = sample (codes "side=\"server\",direction=\"sent\"") row.sent_to_server in
    let received = chained old from_bot from_server _ _ c.in_ok-put_byte_count.ensures c.in_ok-put_byte_count-2.ensures in
    let then_sent = chained old (from_bot ++ from_server) to_bot _ _ received c.in_ok-put_byte_count-3.ensures in
    then_last _ c.args.out.now c.put_byte_count-3.new.out c.put_byte_count-4.new.out c.put_byte_count-4.result
    (from_bot ++ from_server ++ to_bot) to_server then_sent c.put_byte_count-4.ensures
