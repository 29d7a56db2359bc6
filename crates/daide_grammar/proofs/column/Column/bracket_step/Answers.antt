use Rattle.daide_grammar.proofs.Common.{ap, ◌∙◌, bracket_step}
use Rattle.daide_grammar.proofs.BracketSteps.{step_told}
use Rattle.daide_grammar.proofs.column.Column.bracket_step.Goals as goal

pub returns : goal.returns
returns c =
    c.bracket_cell.ensures ∙ step_told c.self.inside.number c.self.invariant ∙ ap bracket_step c.self.view_is
