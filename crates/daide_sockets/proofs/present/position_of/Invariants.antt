use Rattle.std.proofs.Common.{◌≡◌, ◌+◌, ◌≤◌, length}
use Rattle.daide_sockets.specs.Present.{position_of}
use Rattle.daide_sockets.proofs.present.position_of.Given as goal

-- those passed are not the number's, and there are at most as many as bots
abbrev pub invariant-loop-rest : goal.invariant-loop-rest
invariant-loop-rest l = record {
  found : l.at + position_of l.number l.rest ≡ position_of l.number l.bots;
  few : l.at + length l.rest ≤ length l.bots;
}

abbrev pub decreases-loop-rest : goal.decreases-loop-rest
decreases-loop-rest l = length l.rest
