use Rattle.std.proofs.Common.{refl, rules}
use Rattle.daide_sockets.proofs.AcceptLemmas.{no_bot_due}
use Rattle.daide_sockets.proofs.KeptRowLemmas.{changes_more, changes_none, report_changes}
use Rattle.daide_sockets.proofs.admission.Acceptor.accept.Goals as goal

pub returns-then-not-is_due-clause-table : goal.returns-then-not-is_due-clause-table
returns-then-not-is_due-clause-table g c = changes_none _ _ _ refl

pub returns-in-Ok-clause-once : goal.returns-in-Ok-clause-once
returns-in-Ok-clause-once g c = λ due. record {
  accepted = c.accept.result;
  call = c.accept.ensures.calls;
  given = rw c.in-Ok.is refl;
}

pub returns-in-Err-clause-once : goal.returns-in-Err-clause-once
returns-in-Err-clause-once g c = λ due. record {
  accepted = c.accept.result;
  call = c.accept.ensures.calls;
  given = rw c.in-Err.is refl;
}

pub returns-in-Err-clause-left : goal.returns-in-Err-clause-left
returns-in-Err-clause-left g c = λ none.
    no_bot_due _ _ _ (record c.args.self.now { listener = c.note_accept-in-Err.new.self })
    (rw c.accept.ensures.table at c.note_accept-in-Err.ensures.table) c.listener_key-key.ensures.key
    (c.note_accept-in-Err.ensures.left (search rules))

pub returns-in-Ok-clause-table : goal.returns-in-Ok-clause-table
returns-in-Ok-clause-table g c =
    changes_more _ _ _ _ (λ row is. rw (← c.listener_key-key.ensures.key) is)
    (report_changes _ _ _ (rw c.accept.ensures.table at c.note_accept.ensures.table))

pub returns-in-Err-clause-table : goal.returns-in-Err-clause-table
returns-in-Err-clause-table g c =
    changes_more _ _ _ _ (λ row is. rw (← c.listener_key-key.ensures.key) is)
    (report_changes _ _ _ (rw c.accept.ensures.table at c.note_accept-in-Err.ensures.table))

pub returns-in-Ok-clause-given : goal.returns-in-Ok-clause-given
returns-in-Ok-clause-given g c = record {
  came = c.in-Ok.came;
  mid = c.accept.new.self.network;
  call = rw c.in-Ok.is at c.accept.ensures.calls;
}
