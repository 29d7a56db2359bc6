use Rattle.daide_grammar.proofs.Common.{sym, ap, ◌∙◌, symbol_number, number_back}
use Rattle.daide_grammar.proofs.top_symbol.TopSymbol.number.Goals as goal

pub returns-clause-number : goal.returns-clause-number
returns-clause-number c = sym (number_back c.self.inside.number c.self.invariant) ∙ ap symbol_number c.self.view_is
