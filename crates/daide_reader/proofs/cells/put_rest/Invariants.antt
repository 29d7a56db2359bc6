use Rattle.daide_reader.proofs.Common.{◌≡◌, ◌≤◌, ◌+◌, ◌-◌, ◌++◌, take, length}
use Rattle.daide_reader.proofs.cells.put_rest.Given as goal

abbrev pub invariant-loop-done : goal.invariant-loop-done
invariant-loop-done g l = record {
  few : l.done ≤ 8;
  room : length l.cells ≡ g.row.N;
  items : take (l.at + l.done) l.cells ≡ take l.at l.fn.cells ++ take l.done l.rest;
}

abbrev pub decreases-loop-done : goal.decreases-loop-done
decreases-loop-done g l = 8 - l.done
