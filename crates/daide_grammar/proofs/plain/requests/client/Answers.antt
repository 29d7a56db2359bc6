-- A class that no arm lists follows the table's entries.
use Rattle.std.proofs.Common.{rules}
use Rattle.daide_grammar.proofs.OtherClasses.{client_other}
use Rattle.daide_grammar.proofs.plain.requests.client.Goals as goal

pub returns-in_default : goal.returns-in_default
returns-in_default c = search (rules, client_other)
