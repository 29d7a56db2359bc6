-- A class that no arm lists follows the table's entries.
use Rattle.std.proofs.Common.{rules}
use Rattle.daide_grammar.proofs.OtherClasses.{arrangement_other, arrangement_below}
use Rattle.daide_grammar.proofs.plain.press.arrangement.Goals as goal

pub returns-in_default : goal.returns-in_default
returns-in_default c = search (rules, arrangement_other, arrangement_below)
