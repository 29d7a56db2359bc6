use Rattle.std.proofs.Common.{◌≡◌, ℕ, ◌+◌, ◌-◌, length}
use Rattle.daide_sockets.specs.Accepting.{ConnectsFrom}
use Rattle.daide_sockets.specs.KeptRows.{ChangesRows}
use Rattle.daide_sockets.proofs.admission.begun.Given as goal

-- only the row of the connects changed, and each address so far was tried once
abbrev pub invariant-loop-address : goal.invariant-loop-address
invariant-loop-address g l = record {
  table : ChangesRows (λ row. row ≡ l.key) l.initial.poller.table l.poller.table;
  calls : (count : ℕ) × (l.tried ≡ l.initial.tried + count)
      × ConnectsFrom g.N.Network.transition l.servers l.key l.initial.tried count l.initial.poller.network l.poller.network;
}

abbrev pub decreases-loop-address : goal.decreases-loop-address
decreases-loop-address g l = length l.servers - l.tried
