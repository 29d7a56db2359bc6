use Rattle.std.proofs.Common.{sym, ap, ◌∙◌, subst, arith}
use Rattle.daide_driver.specs.declared.place.SlabPlace.TheVariants.{Free}
use Rattle.daide_driver.specs.Hub.{IsReportedOf}
use Rattle.daide_driver.specs.Slab.{SlotView}
use Rattle.daide_driver.proofs.SlabLemmas.{held_at, is_there, next_freed, place_set, same_held, within}
use Rattle.daide_driver.proofs.slab.Slab.remove.Goals as goal

pub index_mut-requires : goal.index_mut-requires
index_mut-requires g c =
    let inside = within _ _ _ _ c.self.view_is c.args.place c.requires.held in omega (arith, inside, c.self.inside.places.ok.0)

pub unreachable-requires : goal.unreachable-requires
unreachable-requires g c =
    let s = c.self.inside in
    let slot = is_there _ _ _ _ c.self.view_is c.args.place c.index_mut.result.now
    c.requires.held c.index_mut.ensures.value in
    c.in_default.not-Held slot.0 (c.replace-taken.ensures.value ∙ slot.1)

pub from_closed-requires : goal.from_closed-requires
from_closed-requires g c =
    let s = c.self.inside in
    let slot = c.in-Held.slot in
    c.requires.closed (record { session = slot.session; ports = slot.ports; meter = slot.meter }) (held_at _ _ _ _ c.self.view_is c.args.place
    c.index_mut.result.now slot c.requires.held c.index_mut.ensures.value (sym c.replace-taken.ensures.value ∙ c.in-Held.is))

pub invariant_of-self : goal.invariant_of-self
invariant_of-self g c =
    let s = c.self.inside in
    rw c.replace-taken.ensures.after (next_freed s.places.items c.args.place
    (within _ _ _ _ c.self.view_is c.args.place c.requires.held))

pub returns-clause-frees : goal.returns-clause-frees
returns-clause-frees g c =
    let s = c.self.inside in
    rw c.replace-taken.ensures.after (place_set _ _ _ _ c.self.view_is c.args.place Free)

pub returns-clause-ports : goal.returns-clause-ports
returns-clause-ports g c = λ held own.
    let s = c.self.inside in
    c.from_closed.ensures.ports ∙ ap (λ (p : SlotView g.row.P.Denot). p.ports) (same_held _ _ _ _ c.self.view_is
    c.args.place c.index_mut.result.now c.in-Held.slot c.requires.held c.index_mut.ensures.value
    (sym c.replace-taken.ensures.value ∙ c.in-Held.is) held own)

pub returns-clause-reported : goal.returns-clause-reported
returns-clause-reported g c = λ held own.
    let s = c.self.inside in
    subst (λ (h : SlotView g.row.P.Denot). IsReportedOf h.session c.from_closed.result.account c.from_closed.result.ending c.from_closed.result.fault_field)
    (same_held _ _ _ _ c.self.view_is c.args.place c.index_mut.result.now c.in-Held.slot
    c.requires.held c.index_mut.ensures.value (sym c.replace-taken.ensures.value ∙ c.in-Held.is) held own)
    c.from_closed.ensures.reported
