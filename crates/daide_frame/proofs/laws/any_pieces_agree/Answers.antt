use Rattle.daide_frame.proofs.CutsAgree.{cut_piece}
use Rattle.daide_frame.proofs.laws.any_pieces_agree.Goals as goal

pub returns : goal.returns
returns c = cut_piece
