use Rattle.daide_frame.proofs.CutsAgree.{by_byte-cut}
use Rattle.daide_frame.proofs.laws.frames_are_found_byte_by_byte.Goals as goal

pub returns : goal.returns
returns c = by_byte-cut
