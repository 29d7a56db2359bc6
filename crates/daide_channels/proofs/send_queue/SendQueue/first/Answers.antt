use Rattle.daide_channels.proofs.Common.{rules}
use Rattle.daide_channels.proofs.send_queue.SendQueue.first.Goals as goal

pub returns-in-len1-up : goal.returns-in-len1-up
returns-in-len1-up c = search rules
