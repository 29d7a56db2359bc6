use Rattle.daide_tools.proofs.JudgingLemmas.{three_written}
use Rattle.daide_tools.proofs.trying.write_passed.Goals as goal

pub returns-clause-written : goal.returns-clause-written
returns-clause-written g c =
    three_written c.write_control.result _ _ _ _ _ _ _ c.in_ok-write_listen.ensures.written
    c.in_ok-write_server.ensures.written (rw c.is_some.ensures at c.write_control.ensures.written)
