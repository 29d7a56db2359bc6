use Rattle.std.proofs.Common.{◌≡◌}
use Rattle.daide_sockets.specs.Lingering.{LooksAlong}
use Rattle.daide_sockets.specs.Rows.{KeepsClosingRows, closing_keys}
use Rattle.daide_sockets.proofs.lingering_close.ClosingSockets.look_along.Given as goal

-- the streams checked so far, at the same reading of the clock
abbrev pub invariant-loop-place : goal.invariant-loop-place
invariant-loop-place g l = record {
  looked : LooksAlong g.S.Duplex.to_give g.S.Duplex.taken g.S.Duplex.calls l.fn.now l.fn.from l._place l.initial.self l.at
      l.self;
  clock : l.table.reading ≡ l.initial.table.reading;
  rows : KeepsClosingRows l.initial.table (closing_keys l.initial.self) l.table (closing_keys l.self);
}
