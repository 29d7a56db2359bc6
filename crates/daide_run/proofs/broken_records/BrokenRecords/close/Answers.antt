use Rattle.std.proofs.Common.{◌∙◌, ap, sym}
use Rattle.daide_log.specs.Recording.{written_in}
use Rattle.daide_run.proofs.broken_records.BrokenRecords.close.Goals as goal

pub returns-in-Some-clause-closed : goal.returns-in-Some-clause-closed
returns-in-Some-clause-closed g c =
    let log_is = sym c.into_parts-ports.ensures.1 ∙ ap written_in c.in-Some.is in
    (c.report.ensures, rw log_is c.finish.ensures)
