use Rattle.std.proofs.Common.{ap, arith}
use Rattle.daide_driver.specs.declared.place.SlabPlace.TheVariants.{Held}
use Rattle.daide_driver.specs.Slab.{is_held}
use Rattle.daide_driver.proofs.SlabLemmas.{held_at, is_there, item_held, next_kept, place_set, within}
use Rattle.daide_driver.proofs.slab.Slab.turn.Goals as goal

pub index_mut-requires : goal.index_mut-requires
index_mut-requires g c =
    let inside = within _ _ _ _ c.self.view_is c.args.place c.requires in omega (arith, inside, c.self.inside.places.ok.0)

pub item_mut-requires : goal.item_mut-requires
item_mut-requires g c =
    let slot = is_there _ _ _ _ c.self.view_is c.args.place c.index_mut.result.now c.requires c.index_mut.ensures.value in
    ap is_held slot.1

pub invariant_of-self : goal.invariant_of-self
invariant_of-self g c =
    let s = c.self.inside in
    next_kept s.places.items c.args.place s.next (Held c.item_mut.result.now) (Held c.turn.new.self)
    (item_held _ _ _ _ c.self.view_is c.args.place c.index_mut.result.now
    c.item_mut.result.now c.requires c.index_mut.ensures.value c.item_mut.ensures.value)
    (λ e. cc) (λ e. cc) c.self.invariant

pub returns : goal.returns
returns g c =
    let s = c.self.inside in
    let slot = c.item_mut.result.now in (
      record { session = slot.session; ports = slot.ports; meter = slot.meter },
      record { session = c.turn.new.self.session; ports = c.turn.new.self.ports; meter = c.turn.new.self.meter },
      held_at _ _ _ _ c.self.view_is c.args.place c.index_mut.result.now slot
          c.requires c.index_mut.ensures.value c.item_mut.ensures.value,
      place_set _ _ _ _ c.self.view_is c.args.place (Held c.turn.new.self),
      c.turn.ensures,
    )
