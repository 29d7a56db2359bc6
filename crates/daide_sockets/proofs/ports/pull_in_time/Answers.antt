use Rattle.std.proofs.Common.{sym, ◌∙◌}
use Rattle.daide_sockets.proofs.ports.pull_in_time.Goals as goal
use Rattle.daide_sockets.proofs.ports.pull_in_time.Goals.{then-is_late, else-is_late}

pub returns-in-Got-clause-asked : goal.returns-in-Got-clause-asked
returns-in-Got-clause-asked g c = λ silent ends. elim c.if-is_late.branch [
  | then-is_late w ↦ rw (sym c.is_over-is_late.ensures ∙ w.if-is_late.true) (rw w.socket-is at c.pull-pull.ensures.asked)
  | else-is_late w ↦ rw (sym c.is_over-is_late.ensures ∙ w.if-is_late.false) (rw w.socket-is at c.pull-pull.ensures.asked)
]
