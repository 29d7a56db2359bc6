use Rattle.daide_run.proofs.EndLemmas.{none_reported}
use Rattle.daide_run.proofs.broken_records.BrokenRecords.none.Goals as goal

pub invariant_of-result : goal.invariant_of-result
invariant_of-result g c = none_reported g.E.NoticeLog.Reported _ 256 c.no_ends.ensures
