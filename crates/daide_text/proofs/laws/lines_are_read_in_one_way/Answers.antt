use Rattle.std.proofs.Common.{ap, sym, ◌∙◌}
use Rattle.daide_text.specs.Line.{read_pieces}
use Rattle.daide_text.proofs.Cuts.{one_cut}
use Rattle.daide_text.proofs.laws.lines_are_read_in_one_way.Goals as goal

pub returns : goal.returns
returns c added line one other h i =
    h.2 ∙ ap (read_pieces added 1) (one_cut h.0 i.0 line h.1 i.1) ∙ sym i.2
