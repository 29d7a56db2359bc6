use Rattle.daide_protocol.proofs.FramesHeard.{frames_heard}
use Rattle.daide_protocol.proofs.laws.frames_are_those_of_the_cut.Goals as goal

pub returns : goal.returns
returns c = frames_heard
