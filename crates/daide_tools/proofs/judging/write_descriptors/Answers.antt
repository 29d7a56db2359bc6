use Rattle.daide_tools.proofs.JudgingLemmas.{three_appended}
use Rattle.daide_tools.proofs.judging.write_descriptors.Goals as goal

pub returns-clause-written : goal.returns-clause-written
returns-clause-written g c =
    three_appended c.append.result _ _ _ _ _ _ _
    (rw c.descriptors-most.ensures at c.in_ok-write_descriptor_count.ensures.written)
    c.in_ok-write_control_need.ensures.written c.append.ensures.appended
