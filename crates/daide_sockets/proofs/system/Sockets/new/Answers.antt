use Rattle.std.proofs.Common.{ap}
use Rattle.daide_sockets.specs.Lingering.{ClosingList}
use Rattle.daide_sockets.proofs.KeptRowLemmas.{first_rows}
use Rattle.daide_sockets.proofs.system.Sockets.new.Goals as goal

pub returns-clause-rows : goal.returns-clause-rows
returns-clause-rows g c = λ empty.
    first_rows {S = g.row.N-Connection.Denot} _ _ _ c.in_ok-poller.ensures.table
    (ap (λ (l : ClosingList g.row.N-Connection.Denot). l.streams) c.in_ok-arrivals.ensures.none_pending.1) empty
