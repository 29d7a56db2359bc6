use Rattle.daide_run.proofs.EndLemmas.{put_reported}
use Rattle.daide_run.proofs.broken_records.log_once.Goals as goal

pub returns-then-has-clause-reported : goal.returns-then-has-clause-reported
returns-then-has-clause-reported g c = c.requires c.args.place c.args.end (c.has.ensures c.if-has.true)

pub returns-clause-kept : goal.returns-clause-kept
returns-clause-kept g c =
    put_reported g.E.NoticeLog.Reported c.args.end _ _ c.requires c.log_end.ensures c.put.ensures
