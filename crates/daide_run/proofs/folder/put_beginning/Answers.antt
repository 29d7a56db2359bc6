use Rattle.daide_log.specs.RecordItem.{comment_line}
use Rattle.daide_run.proofs.folder.put_beginning.Goals as goal

pub returns : goal.returns
unfolding comment_line
returns g c = (c.utc.result, c.utc.ensures, c.comment.ensures)
