use Rattle.std.proofs.Common.{◌≡◌, ◌≤◌}
use Rattle.std.specs.Prelude.{vec_capacity}
use Rattle.daide_driver.specs.Slab.{all_free}
use Rattle.daide_driver.proofs.slab.Slab.with_limits.Given as goal

-- so many free places so far, and room for all
abbrev pub invariant-loop-place : goal.invariant-loop-place
invariant-loop-place g l = record {
  items : l.places.items ≡ all_free l._place;
  room : l.max ≤ vec_capacity l.places;
}
