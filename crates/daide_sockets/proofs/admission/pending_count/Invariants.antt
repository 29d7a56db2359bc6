use Rattle.std.proofs.Common.{◌≡◌, ◌+◌, ◌≤◌, drop}
use Rattle.daide_sockets.specs.Pairing.{pending_connects}
use Rattle.daide_sockets.proofs.admission.pending_count.Given as goal

-- the rest is still to be counted
abbrev pub invariant-loop-arrival : goal.invariant-loop-arrival
invariant-loop-arrival g l = record {
  counted : l.count + pending_connects (drop l.arrival-index l.arrivals) ≡ pending_connects l.arrivals;
  few : l.count ≤ l.arrival-index;
}
