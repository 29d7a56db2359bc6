use Rattle.std.proofs.Common.{inl, inr, refl}
use Rattle.daide_tools.proofs.CheckingLemmas.{said_of}
use Rattle.daide_tools.proofs.several.end_with_table.Goals as goal

pub returns-in-Err-clause-ended : goal.returns-in-Err-clause-ended
returns-in-Err-clause-ended g c =
    said_of c.print_log_fault.result _ c.print_log_fault.ensures.status c.print_log_fault.ensures.said
    (λ status one said. inr (inl (refl, (tt, rw c.without_line-refused.ensures at said), one)))

pub returns-clause-ended : goal.returns-clause-ended
returns-clause-ended g c =
    said_of c.print_log_fault-in-Err-write_whole.result _ c.print_log_fault-in-Err-write_whole.ensures.status
    c.print_log_fault-in-Err-write_whole.ensures.said
    (λ status one said. inr (inr (((_, _, c.in-Err-write_whole.ensures.failed), rw c.without_line.ensures at said), one)))
