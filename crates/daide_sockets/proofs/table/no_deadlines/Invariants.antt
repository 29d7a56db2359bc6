use Rattle.std.proofs.Common.{◌≡◌, ◌≤◌, length, vec_capacity}
use Rattle.std.specs.Prelude.{replicate, None}
use Rattle.daide_sockets.proofs.table.no_deadlines.Given as goal

abbrev pub invariant-loop-place : goal.invariant-loop-place
invariant-loop-place l = record {
  none : l.deadlines.items ≡ replicate l._place None;
  len : length l.deadlines.items ≡ l._place;
  room : l.places ≤ vec_capacity l.deadlines;
}
