use Rattle.daide_driver.proofs.FramesGone.{frames_gone}
use Rattle.daide_driver.proofs.laws.frames_go.Goals as goal

pub returns : goal.returns
returns c = frames_gone
