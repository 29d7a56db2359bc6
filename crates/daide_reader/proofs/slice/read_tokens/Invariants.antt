use Rattle.daide_reader.proofs.Common.{◌≤◌, ◌-◌, ◌/◌, length, take, reverse}
use Rattle.daide_reader.proofs.StretchLemmas.{AtToken}
use Rattle.daide_reader.proofs.slice.read_tokens.Given as goal

-- the locals are a reader that has read the tokens so far
abbrev pub invariant-loop-next : goal.invariant-loop-next
invariant-loop-next g l = record {
  inside : l.left ≤ g.row.N;
  upto : l.next ≤ length l.body / 2;
  at : AtToken g.T.Predict g.met.T.Predict.laws l.max_depth l.body l.fn.start.read l.fn.start.unclosed
      (record { table = l.fn.table; stack = reverse (take l.fn.start.count l.fn.cells) })
      l.next l.opened (record { table = l.table; stack = reverse (take l.left l.cells) });
}

abbrev pub decreases-loop-next : goal.decreases-loop-next
decreases-loop-next g l = length l.body / 2 - l.next
