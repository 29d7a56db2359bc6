use Rattle.daide_channels.proofs.Common.{rules}
use Rattle.daide_channels.proofs.send_queue.SendQueue.push.Goals as goal

pub returns : goal.returns
returns c = search rules
