use Rattle.std.proofs.Common.{refl, sym, ap, ◌∙◌, arith}
use Rattle.daide_driver.specs.declared.place.SlabPlace.TheVariants.{Held}
use Rattle.daide_driver.specs.Slab.{SlotView, is_held, with_ports_in}
use Rattle.daide_driver.proofs.SlabLemmas.{held_at, is_there, item_held, next_kept, place_set, same_held, within}
use Rattle.daide_driver.proofs.slab.Slab.ports_mut.Goals as goal

pub index_mut-requires : goal.index_mut-requires
index_mut-requires g c =
    let inside = within _ _ _ _ c.self.view_is c.args.place c.requires in omega (arith, inside, c.self.inside.places.ok.0)

pub item_mut-lent-requires : goal.item_mut-lent-requires
item_mut-lent-requires g c =
    let slot = is_there _ _ _ _ c.self.view_is c.args.place c.index_mut.result.now c.requires c.index_mut.ensures.value in
    ap is_held slot.1

-- the place has a session, whatever ports the borrower leaves
pub invariant_of-self-lent : goal.invariant_of-self-lent
invariant_of-self-lent g c w =
    let s = c.self.inside in
    let slot = c.item_mut-lent.result.now in
    next_kept s.places.items c.args.place s.next (Held slot) (Held (record { session = slot.session; ports = w; meter = slot.meter }))
    (item_held _ _ _ _ c.self.view_is c.args.place c.index_mut.result.now slot
    c.requires c.index_mut.ensures.value c.item_mut-lent.ensures.value)
    (λ e. cc) (λ e. cc) c.self.invariant

pub returns : goal.returns
returns g c =
    let s = c.self.inside in
    let slot = c.item_mut-lent.result.now in
    let at = held_at _ _ _ _ c.self.view_is c.args.place c.index_mut.result.now slot
    c.requires c.index_mut.ensures.value c.item_mut-lent.ensures.value in (
      (
        refl,
        λ w. place_set _ _ _ _ c.self.view_is c.args.place
            (Held (record { session = slot.session; ports = w; meter = slot.meter }))
            ∙ ap (λ found. with_ports_in c.args.self.now c.args.place found w) (sym at),
      ),
      record {
        writes_back = tt;
        value = λ held own. ap (λ (p : SlotView g.row.P.Denot). p.ports) (same_held _ _ _ _ c.self.view_is c.args.place
            c.index_mut.result.now slot c.requires c.index_mut.ensures.value c.item_mut-lent.ensures.value held own);
      },
    )
