use Rattle.std.proofs.Common.{◌≡◌, ℕ, ◌<◌, ◌≤◌, true}
use Rattle.daide_sockets.specs.Table.{row_at}
use Rattle.daide_sockets.proofs.table.first_free.Given as goal

-- those passed are taken
abbrev pub invariant-loop-key : goal.invariant-loop-key
invariant-loop-key l = (k : ℕ) → l.first ≤ k → k < l.key → (row_at l.rows k).is_taken ≡ true
