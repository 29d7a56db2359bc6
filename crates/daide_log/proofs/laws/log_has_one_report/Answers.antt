use Rattle.daide_log.proofs.OneReport.{one_report}
use Rattle.daide_log.proofs.SomeReport.{some_report}
use Rattle.daide_log.proofs.laws.log_has_one_report.Goals as goal

pub returns : goal.returns
returns c = record { some = some_report; one = one_report }
