use Rattle.daide_grammar.proofs.Common.{ap, ◌∙◌, is_bracket}
use Rattle.daide_grammar.proofs.WordColumns.{bracket_told}
use Rattle.daide_grammar.proofs.column.Column.is_bracket.Goals as goal

pub returns : goal.returns
returns c = bracket_told c.self.inside.number c.self.invariant ∙ ap is_bracket c.self.view_is
