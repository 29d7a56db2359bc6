use Rattle.std.proofs.Common.{refl}
use Rattle.daide_sockets.proofs.AcceptLemmas.{failed_not_due, taken_not_due}
use Rattle.daide_sockets.proofs.listener.Listener.note_accept.Goals as goal

pub returns-in-Some-clause-left : goal.returns-in-Some-clause-left
returns-in-Some-clause-left c = λ some.
    taken_not_due _ _ c.args.key c.pause.new.self _ c.take_report.ensures.table c.now.ensures
    (failed_not_due _ _ _ (rw c.pause.ensures.rest refl) c.pause.ensures.later)
