use Rattle.daide_show.proofs.NoteLemmas.{of_the_fault}
use Rattle.daide_show.proofs.laws.note_is_of_the_fault.Goals as goal

pub returns : goal.returns
returns c = of_the_fault
