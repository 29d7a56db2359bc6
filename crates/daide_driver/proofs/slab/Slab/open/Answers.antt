use Rattle.std.proofs.Common.{ap, ◌∙◌, arith}
use Rattle.daide_driver.specs.declared.meter.Meter.{Meter}
use Rattle.daide_driver.specs.declared.place.SlabPlace.TheVariants.{Kept, Held}
use Rattle.daide_driver.specs.Slab.{with_place}
use Rattle.daide_driver.proofs.SlabLemmas.{item_kept, next_kept, place_in, place_set}
use Rattle.daide_driver.proofs.slab.Slab.open.Goals as goal

pub index_mut-requires : goal.index_mut-requires
index_mut-requires g c =
    let inside = place_in _ _ _ _ c.self.view_is c.args.place Kept c.requires in omega (arith, inside, c.self.inside.places.ok.0)

pub invariant_of-self : goal.invariant_of-self
invariant_of-self g c =
    let s = c.self.inside in
    next_kept s.places.items c.args.place s.next Kept (Held (record { session = c.in-Ok.session; ports = c.args.ports; meter = c.new-meter.result }))
    (item_kept _ _ _ _ c.self.view_is c.args.place c.requires)
    (λ e. cc) (λ e. cc) c.self.invariant

pub returns-clause-opens : goal.returns-clause-opens
returns-clause-opens g c =
    let s = c.self.inside in (
      c.in-Ok.session,
      rw (← c.self.view_is) c.in-Ok.ensures.opening,
      place_set _ _ _ _ c.self.view_is c.args.place
          (Held (record { session = c.in-Ok.session; ports = c.args.ports; meter = c.new-meter.result }))
          ∙ ap (λ (meter : Meter). with_place c.args.self.now c.args.place
          (Held (record { session = c.in-Ok.session; ports = c.args.ports; meter = meter }))) c.new-meter.ensures,
    )
