use Rattle.std.proofs.Common.{refl}
use Rattle.daide_text.specs.Line.{read_pieces}
use Rattle.daide_text.proofs.Cuts.{each_line_has_a_cut}
use Rattle.daide_text.proofs.laws.each_line_is_read.Goals as goal

pub returns : goal.returns
returns c added line =
    let cut = each_line_has_a_cut line in (read_pieces added 1 cut.0, (cut.0, cut.1, refl))
