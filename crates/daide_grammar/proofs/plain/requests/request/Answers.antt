-- A class that no arm lists follows the table's entries.
use Rattle.std.proofs.Common.{rules}
use Rattle.daide_grammar.proofs.OtherClasses.{request_other, request_snd}
use Rattle.daide_grammar.proofs.plain.requests.request.Goals as goal

pub returns-in_default : goal.returns-in_default
returns-in_default c = search (rules, request_other, request_snd)
