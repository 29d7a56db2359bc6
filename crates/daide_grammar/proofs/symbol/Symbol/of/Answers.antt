use Rattle.daide_grammar.proofs.Common.{refl}
use Rattle.daide_grammar.proofs.symbol.Symbol.of.Goals as goal

pub returns : goal.returns
returns c = refl
