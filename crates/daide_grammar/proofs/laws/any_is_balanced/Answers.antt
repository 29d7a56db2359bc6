use Rattle.daide_grammar.proofs.Languages.{any-is-balanced}
use Rattle.daide_grammar.proofs.laws.any_is_balanced.Goals as goal

pub returns : goal.returns
returns c = any-is-balanced
