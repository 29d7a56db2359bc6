-- A class that no arm lists follows the table's entries.
use Rattle.std.proofs.Common.{rules}
use Rattle.daide_grammar.proofs.OtherClasses.{simple_other, simple_xdo, simple_dmz, simple_scd, simple_occ}
use Rattle.daide_grammar.proofs.plain.press.simple.Goals as goal

pub returns-in_default : goal.returns-in_default
returns-in_default c = search (rules, simple_other, simple_xdo, simple_dmz, simple_scd, simple_occ)
