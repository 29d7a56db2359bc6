use Rattle.std.proofs.Common.{◌≡◌, ◌*◌, ◌≤◌, take}
use Rattle.std.specs.Prelude.{sum_by}
use Rattle.daide_protocol.specs.Weight.{weight_of}
use Rattle.daide_driver.specs.Hub.{session_bound}
use Rattle.daide_driver.proofs.hub.Hub.weight.Given as goal

-- the sum over the places so far, each within its bound
abbrev pub invariant-loop-place : goal.invariant-loop-place
invariant-loop-place g l = record {
  sum : l.total ≡ sum_by (λ p. weight_of p.session) (take l.place-index l.place-items);
  small : l.total ≤ l.place-index * 135212;
  bound : l.total ≤ l.place-index * session_bound l.self.limits;
}
