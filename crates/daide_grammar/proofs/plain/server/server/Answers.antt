-- A class that no arm lists follows the table's entries.
use Rattle.std.proofs.Common.{rules}
use Rattle.daide_grammar.proofs.OtherClasses.{server_other, server_frm}
use Rattle.daide_grammar.proofs.plain.server.server.Goals as goal

pub returns-in_default : goal.returns-in_default
returns-in_default c = search (rules, server_other, server_frm)
