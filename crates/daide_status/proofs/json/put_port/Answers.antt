use Rattle.std.proofs.Common.{codes}
use Rattle.daide_status.specs.Pieces.{number_or_null}
use Rattle.daide_status.proofs.Chains.{then_last}
use Rattle.daide_status.proofs.json.put_port.Goals as goal

pub returns : goal.returns
returns g c =
    then_last _ c.args.out.now c.append.new.list c.put_or_null.new.out c.put_or_null.result (codes ",\"port_to_server\":")
    (number_or_null c.args.row.now.port_to_server) c.in_ok-append.ensures.appended
    (rw c.port_number.ensures at c.put_or_null.ensures)
