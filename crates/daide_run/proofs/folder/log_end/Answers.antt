use Rattle.daide_run.proofs.folder.log_end.Goals as goal

pub returns-in-Failed : goal.returns-in-Failed
returns-in-Failed g c = rw c.in-Failed.is (c.args.file.now.cause, c.log_notice.ensures)
