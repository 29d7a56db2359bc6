use Rattle.daide_protocol.proofs.FramesHeard.{waited_for}
use Rattle.daide_protocol.proofs.laws.each_side_is_waited_for.Goals as goal

pub returns : goal.returns
returns c = λ side limits events effects new run live. waited_for events limits effects new run live side
