use Rattle.daide_protocol.proofs.Common.{length, tokens_of, characters}
use Rattle.daide_protocol.proofs.NameLemmas.{Fills}
use Rattle.daide_protocol.proofs.bot_name.NameText.at_front.Given as goal

abbrev pub invariant-characters : goal.invariant-characters
invariant-characters l = Fills (characters (tokens_of l.tokens)) l.bytes l.len (characters (tokens_of l.rest))

abbrev pub decreases-characters : goal.decreases-characters
decreases-characters l = length l.rest
