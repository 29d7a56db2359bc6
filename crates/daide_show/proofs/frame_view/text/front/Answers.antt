use Rattle.daide_show.proofs.Common.{arith}
use Rattle.daide_show.proofs.FaultLines.{all_in_front}
use Rattle.daide_show.proofs.frame_view.text.front.Goals as goal

pub returns-clause-value : goal.returns-clause-value
returns-clause-value c = all_in_front c.args.count c.args.bytes.now (omega arith)
