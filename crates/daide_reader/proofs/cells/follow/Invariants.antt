use Rattle.daide_reader.proofs.Common.{◌≡◌, ◌≤◌, ◌+◌, ◌%◌, ◌^◌, take, reverse, length, stack_after, steps_at}
use Rattle.daide_reader.proofs.cells.follow.Given as goal

abbrev pub invariant-loop-left : goal.invariant-loop-left
invariant-loop-left g l =
    let words = g.T.Predict.words in
    let asked = g.T.Predict.asked in
    let moves = g.T.Predict.moves (words l.fn.table) in
    record {
      words : words l.table ≡ words l.fn.table;
      count : l.left ≤ g.row.N;
      room : length l.cells ≡ g.row.N;
      stack : stack_after moves l.class (reverse (take l.left l.cells))
          ≡ stack_after moves l.class (reverse (take l.fn.count l.fn.cells));
      steps : (asked l.table + steps_at moves l.class (reverse (take l.left l.cells))) % 2 ^ 64
          ≡ (asked l.fn.table + steps_at moves l.class (reverse (take l.fn.count l.fn.cells))) % 2 ^ 64;
    }

abbrev pub decreases-loop-left : goal.decreases-loop-left
decreases-loop-left g l = l.left
