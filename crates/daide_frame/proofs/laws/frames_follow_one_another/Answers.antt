use Rattle.daide_frame.proofs.CutsAgree.{cut-follows}
use Rattle.daide_frame.proofs.laws.frames_follow_one_another.Goals as goal

pub returns : goal.returns
returns c = cut-follows
