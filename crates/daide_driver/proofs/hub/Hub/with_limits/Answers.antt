use Rattle.std.proofs.Common.{refl, arith}
use Rattle.daide_driver.proofs.hub.Hub.with_limits.Goals as goal

pub invariant_of-result : goal.invariant_of-result
invariant_of-result g c = record {
  size = c.requires;
  fits = rw c.in_ok-places.ensures.items (omega arith);
  room = let room = c.in_ok-places.ensures.capacity in omega (arith, room);
  same_limits = rw c.in_ok-places.ensures.items (λ k d inside. absurd (omega (arith, inside)));
}

pub returns-clause-opening : goal.returns-clause-opening
returns-clause-opening g c = rw c.in_ok-places.ensures.items refl
