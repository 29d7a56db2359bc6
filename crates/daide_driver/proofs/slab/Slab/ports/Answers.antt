use Rattle.std.proofs.Common.{ap, arith}
use Rattle.daide_driver.specs.Slab.{SlotView, is_held}
use Rattle.daide_driver.proofs.SlabLemmas.{is_there, same_held, within}
use Rattle.daide_driver.proofs.slab.Slab.ports.Goals as goal

pub index-requires : goal.index-requires
index-requires g c =
    let inside = within _ _ _ _ c.self.view_is c.args.place c.requires in omega (arith, inside, c.self.inside.places.ok.0)

pub item-requires : goal.item-requires
item-requires g c =
    let slot = is_there _ _ _ _ c.self.view_is c.args.place c.index.result.now c.requires c.index.ensures in
    ap is_held slot.1

pub returns : goal.returns
returns g c = λ held own. ap (λ (h : SlotView g.row.P.Denot). h.ports) (same_held _ _ _ _ c.self.view_is c.args.place c.index.result.now c.item.result.now
    c.requires c.index.ensures c.item.ensures held own)
