use Rattle.std.proofs.Common.{◌≡◌}
use Rattle.std.specs.Prelude.{None}
use Rattle.daide_sockets.specs.Finishing.{FinishesFor}
use Rattle.daide_sockets.specs.Lingering.{GoOnFor}
use Rattle.daide_sockets.specs.Rows.{AreRowsOf, closing_keys}
use Rattle.daide_sockets.proofs.lingering_close.Closings.finish.Given as goal

-- the rounds so far, with a wait after each
abbrev pub invariant-loop-round : goal.invariant-loop-round
invariant-loop-round g l = record {
  rounds : GoOnFor g.S.Duplex.to_give g.S.Duplex.taken g.S.Duplex.calls l._round l.initial.self l.self;
  readings : FinishesFor g.N.Network.transition g.S.Duplex.to_give g.S.Duplex.taken g.S.Duplex.calls l._round
      (record { network = l.initial.poller.network; table = l.initial.poller.table; closing = l.initial.self })
      (record { network = l.poller.network; table = l.poller.table; closing = l.self });
  rows : AreRowsOf l.initial.poller.table (closing_keys l.initial.self.streams) →
      AreRowsOf l.poller.table (closing_keys l.self.streams);
  none : l.poller.table.due ≡ None;
}
