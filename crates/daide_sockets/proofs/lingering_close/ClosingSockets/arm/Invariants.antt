use Rattle.std.proofs.Common.{◌≡◌, drop}
use Rattle.daide_sockets.specs.PollTimes.{closings_armed}
use Rattle.daide_sockets.specs.Table.{arming_all}
use Rattle.daide_sockets.proofs.lingering_close.ClosingSockets.arm.Given as goal

-- the rest is still to be watched
abbrev pub invariant-loop-closing : goal.invariant-loop-closing
invariant-loop-closing g l = record {
  armed : arming_all l.table (closings_armed l.initial.table (drop l.closing-index l.closing-items))
      ≡ arming_all l.initial.table (closings_armed l.initial.table l.closing-items);
  rows : l.table.rows ≡ l.initial.table.rows;
}
