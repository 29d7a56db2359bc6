use Rattle.daide_grammar.proofs.Common.{plain_laws}
use Rattle.daide_grammar.proofs.laws.no_language_is_empty.Goals as goal

pub returns : goal.returns
returns c = plain_laws.no_language_is_empty
