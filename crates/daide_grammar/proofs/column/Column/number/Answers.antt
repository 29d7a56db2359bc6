use Rattle.daide_grammar.proofs.Common.{sym, ap, ◌∙◌, class_number, class_number_back}
use Rattle.daide_grammar.proofs.column.Column.number.Goals as goal

pub returns-clause-number : goal.returns-clause-number
returns-clause-number c = sym (class_number_back c.self.inside.number c.self.invariant) ∙ ap class_number c.self.view_is
