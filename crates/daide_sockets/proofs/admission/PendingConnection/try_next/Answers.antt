use Rattle.daide_sockets.proofs.ConnectLemmas.{fresh_waits}
use Rattle.daide_sockets.proofs.admission.PendingConnection.try_next.Goals as goal

pub returns-clause-still : goal.returns-clause-still
returns-clause-still g c = λ some.
    fresh_waits c.begun-begun.new.poller.table c.args.key c.begun-begun.result c.connecting.result
    c.begun-begun.ensures.unknown c.connecting.ensures.none.1 c.connecting.ensures.fresh some
