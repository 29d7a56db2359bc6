use Rattle.daide_grammar.proofs.Common.{◌∙◌}
use Rattle.daide_grammar.proofs.symbol.Symbol.sym.Goals as goal

pub returns : goal.returns
returns c = c.listed.ensures ∙ c.self.view_is
