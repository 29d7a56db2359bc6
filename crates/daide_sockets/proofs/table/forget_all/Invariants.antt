use Rattle.std.proofs.Common.{◌≡◌, ℕ, ◌<◌}
use Rattle.std.specs.Prelude.{None}
use Rattle.daide_sockets.proofs.TableLemmas.{due_at}
use Rattle.daide_sockets.proofs.table.forget_all.Given as goal

-- those passed are forgotten
abbrev pub invariant-loop-place : goal.invariant-loop-place
invariant-loop-place l = (k : ℕ) → k < l.place → due_at l.deadlines k ≡ None
