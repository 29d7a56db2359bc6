use Rattle.std.proofs.Common.{◌≡◌, ◌+◌, ◌++◌, take, length}
use Rattle.daide_frame.proofs.cutter.put.Given as goal

abbrev pub invariant-loop-k : goal.invariant-loop-k
invariant-loop-k l = record {
  four : length l.header ≡ 4;
  items : take (l.have + l.k) l.header ≡ take l.have l.fn.header ++ take l.k l.piece;
}
