use Rattle.std.proofs.Common.{refl, sym, ap, ◌∙◌}
use Rattle.std.specs.Prelude.{slice_get}
use Rattle.std.proofs.lemmas.Option.{slice_get_past, slice_get_read}
use Rattle.daide_driver.proofs.SlabLemmas.{held_seen}
use Rattle.daide_driver.proofs.slab.Slab.has.Goals as goal

pub returns-in-Some : goal.returns-in-Some
returns-in-Some g c =
    c.is_held.ensures ∙ held_seen _ _ _ _ c.self.view_is c.args.place _
    (ap (λ places. slice_get places c.args.place) (sym c.deref.ensures.value)
    ∙ slice_get_read _ _ _ _ refl c.in-Some.ensures.lookup.3.0 c.in-Some.ensures.lookup.1)

pub returns-in-None : goal.returns-in-None
returns-in-None g c =
    held_seen _ _ _ _ c.self.view_is c.args.place _
    (ap (λ places. slice_get places c.args.place) (sym c.deref.ensures.value)
    ∙ slice_get_past _ _ c.in-None.ensures.lookup.3)
