use Rattle.std.proofs.Common.{subst, arith}
use Rattle.daide_driver.specs.Slab.{IsNextFree}
use Rattle.daide_driver.specs.declared.place.SlabPlace.TheVariants.{Free, Kept}
use Rattle.daide_driver.proofs.SlabLemmas.{place_in, place_set}
use Rattle.daide_driver.proofs.slab.Slab.keep.Goals as goal

pub index_mut-requires : goal.index_mut-requires
index_mut-requires g c =
    let inside = place_in _ _ _ _ c.self.view_is c.args.place Free c.requires in omega (arith, inside, c.self.inside.places.ok.0)

pub invariant_of-self : goal.invariant_of-self
invariant_of-self g c =
    subst (λ places. IsNextFree places c.first_free-self-inside.result) c.deref.ensures.value c.first_free-self-inside.ensures

pub returns : goal.returns
returns g c = place_set _ _ _ _ c.self.view_is c.args.place Kept
