use Rattle.std.proofs.Common.{◌≡◌, ◌≤◌, length, vec_capacity}
use Rattle.std.specs.Prelude.{replicate}
use Rattle.daide_sockets.specs.Table.{free_row}
use Rattle.daide_sockets.proofs.table.free_rows.Given as goal

abbrev pub invariant-loop-row : goal.invariant-loop-row
invariant-loop-row l = record {
  rows : l.rows.items ≡ replicate l._row free_row;
  len : length l.rows.items ≡ l._row;
  room : l.count ≤ vec_capacity l.rows;
}
