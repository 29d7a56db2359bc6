use Rattle.daide_words.proofs.NamesRead.{operand_names, slot_names}
use Rattle.daide_words.proofs.laws.operands_have_one_name.Goals as goal

pub returns-clause-operand : goal.returns-clause-operand
returns-clause-operand c = operand_names

pub returns-clause-slot : goal.returns-clause-slot
returns-clause-slot c = slot_names
