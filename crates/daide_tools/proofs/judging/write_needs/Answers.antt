use Rattle.daide_tools.proofs.JudgingLemmas.{three_appended}
use Rattle.daide_tools.proofs.judging.write_needs.Goals as goal

pub returns-clause-written : goal.returns-clause-written
returns-clause-written g c =
    rw c.in-Some.is
    (three_appended c.write_descriptors.result _ _ _ _ _ _ _
    (rw c.session_bytes.ensures at c.in_ok-write_memory.ensures.written) c.in_ok-append.ensures.appended
    (rw c.is_some.ensures at c.write_descriptors.ensures.written))
