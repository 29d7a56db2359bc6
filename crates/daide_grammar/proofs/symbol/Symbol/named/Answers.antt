use Rattle.daide_grammar.proofs.Common.{ap, ◌∙◌, symbol_at}
use Rattle.daide_grammar.proofs.NumberLemmas.{symbol_back}
use Rattle.daide_grammar.proofs.symbol.Symbol.named.Goals as goal

pub returns : goal.returns
returns c = ap symbol_at c.number_of.ensures ∙ symbol_back c.args.sym
