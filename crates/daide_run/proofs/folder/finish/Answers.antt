use Rattle.std.proofs.Common.{inl, inr, rules}
use Rattle.daide_run.proofs.folder.finish.Goals as goal

pub returns-then-eq-2 : goal.returns-then-eq-2
returns-then-eq-2 g c = λ whole. inr (c.finish-file.result.0.cause, c.log_notice.ensures)

pub returns : goal.returns
returns g c = λ whole. inl (c.finish-file.result.0, (c.finish-file.ensures.whole (search rules)).1)
