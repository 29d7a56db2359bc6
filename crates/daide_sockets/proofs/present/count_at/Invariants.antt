use Rattle.std.proofs.Common.{◌≡◌, ◌+◌, ◌≤◌, length}
use Rattle.daide_settings.specs.Ranges.{count_at}
use Rattle.daide_sockets.specs.Present.{hosts_of}
use Rattle.daide_sockets.proofs.present.count_at.Given as goal

-- those counted so far, and those of the rest, are all; and there are at most as many as bots passed
abbrev pub invariant-loop-rest : goal.invariant-loop-rest
invariant-loop-rest l = record {
  counted : l.count + count_at l.host (hosts_of l.rest) ≡ count_at l.host (hosts_of l.bots);
  few : l.count + length l.rest ≤ length l.bots;
}

abbrev pub decreases-loop-rest : goal.decreases-loop-rest
decreases-loop-rest l = length l.rest
