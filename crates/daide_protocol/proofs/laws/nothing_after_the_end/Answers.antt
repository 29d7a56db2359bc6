use Rattle.daide_protocol.proofs.Common.{[]}
use Rattle.daide_protocol.proofs.OneRun.{one_run}
use Rattle.daide_protocol.proofs.PieceRuns.{over_stays}
use Rattle.daide_protocol.proofs.laws.nothing_after_the_end.Goals as goal

pub returns : goal.returns
returns c = λ old new events effects over run. one_run events old effects [] new old run (over_stays old events over)
