use Rattle.std.proofs.Common.{inr}
use Rattle.daide_sockets.proofs.KeptRowLemmas.{report_changes}
use Rattle.daide_sockets.proofs.admission.PendingConnection.progress.Goals as goal

pub returns-clause-calls : goal.returns-clause-calls
returns-clause-calls g c = inr (c.connection.result.now, c.connect_report-report.result, c.connect_report-report.ensures)

pub returns-clause-table : goal.returns-clause-table
returns-clause-table g c = report_changes _ _ _ c.take_report-known.ensures.table
