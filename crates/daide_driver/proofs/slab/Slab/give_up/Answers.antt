use Rattle.std.proofs.Common.{arith}
use Rattle.daide_driver.specs.declared.place.SlabPlace.TheVariants.{Free, Kept}
use Rattle.daide_driver.proofs.SlabLemmas.{next_freed, place_in, place_set}
use Rattle.daide_driver.proofs.slab.Slab.give_up.Goals as goal

pub index_mut-requires : goal.index_mut-requires
index_mut-requires g c =
    let inside = place_in _ _ _ _ c.self.view_is c.args.place Kept c.requires in omega (arith, inside, c.self.inside.places.ok.0)

pub invariant_of-self : goal.invariant_of-self
invariant_of-self g c =
    next_freed c.self.inside.places.items c.args.place (place_in _ _ _ _ c.self.view_is c.args.place Kept c.requires)

pub returns : goal.returns
returns g c = place_set _ _ _ _ c.self.view_is c.args.place Free
