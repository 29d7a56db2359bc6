use Rattle.daide_log.proofs.ReadLemmas.{no_fault_before_a_read}
use Rattle.daide_log.proofs.laws.no_read_behind_a_fault.Goals as goal

pub returns : goal.returns
returns c = λ before written came fault has t. no_fault_before_a_read before written came fault has t
