-- A class that no arm lists follows the table's entries.
use Rattle.std.proofs.Common.{rules}
use Rattle.daide_grammar.proofs.OtherClasses.{press_other, press_ins, press_qry, press_sug, press_thk, press_idk, press_sry}
use Rattle.daide_grammar.proofs.plain.press.press.Goals as goal

pub returns-in_default : goal.returns-in_default
returns-in_default c = search (rules, press_other, press_ins, press_qry, press_sug, press_thk, press_idk, press_sry)
