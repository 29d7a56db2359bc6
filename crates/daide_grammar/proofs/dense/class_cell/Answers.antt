use Rattle.daide_grammar.proofs.Common.{ℕ, List, ap, ◌∙◌, slice_index, class_cell}
use Rattle.daide_grammar.proofs.dense.class_cell.Goals as goal

pub returns : goal.returns
unfolding class_cell
returns c =
    ap (λ (cells : List ℕ). slice_index cells c.args.place) (c.as_flattened.ensures.value ∙ c.whole.ensures.classes)
