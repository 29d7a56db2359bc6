use Rattle.std.proofs.Common.{◌≡◌, ℕ, ◌<◌, Some}
use Rattle.std.specs.Prelude.{slice_get}
use Rattle.daide_driver.specs.declared.place.SlabPlace.TheVariants.{Free}
use Rattle.daide_driver.proofs.slab.first_free.Given as goal

-- no place so far is free
abbrev pub invariant-loop-place : goal.invariant-loop-place
invariant-loop-place g l = (k : ℕ) → k < l.place → slice_get l.places k ≡ Some Free → ⊥
