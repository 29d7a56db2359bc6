use Rattle.daide_grammar.proofs.Common.{ℕ, ap, sym, ◌∙◌, ◌/◌, ◌%◌, first_at, rule_at, action, table_answer}
use Rattle.daide_grammar.proofs.NextsAgree.{next_told}
use Rattle.daide_grammar.proofs.RowsAgree.{looked_up}
use Rattle.daide_grammar.proofs.dense.move_of.Goals as goal

pub of_cell-requires : goal.of_cell-requires
of_cell-requires c =
    ap (λ (cell : ℕ). cell / 256) c.row_cell-cell.ensures
    ∙ next_told c.number.result c.number-2.result
    ∙ ap (λ (cell : ℕ). first_at (cell % 256)) (sym c.row_cell-cell.ensures)

pub returns : goal.returns
returns c =
    c.of_cell.ensures ∙ ap (λ (cell : ℕ). action (cell % 256)) c.row_cell-cell.ensures
    ∙ ap (λ n. action (rule_at c.number.result n)) c.number-2.ensures.number
    ∙ looked_up c.args.sym c.number.result c.number.ensures.below
    ∙ ap (table_answer c.args.sym) c.number.ensures.class
