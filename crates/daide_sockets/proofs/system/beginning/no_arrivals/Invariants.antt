use Rattle.std.proofs.Common.{◌≡◌, ◌≤◌, length, vec_capacity}
use Rattle.daide_sockets.specs.Pairing.{pending_connects}
use Rattle.daide_sockets.proofs.system.beginning.no_arrivals.Given as goal

-- the places so far are free, and there is room for the others
abbrev pub invariant-loop-place : goal.invariant-loop-place
invariant-loop-place g l = record {
  free : pending_connects l.arrivals.items ≡ 0;
  count : length l.arrivals.items ≡ l._place;
  room : l.places ≤ vec_capacity l.arrivals;
}
