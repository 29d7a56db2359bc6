use Rattle.std.proofs.Common.{◌∙◌, ap, rules, tests}
use Rattle.std.specs.List.{list_all}
use Rattle.std.proofs.lemmas.Iterator.{YieldsList-from_slice}
use Rattle.std.proofs.lemmas.Iterator.Search.{all_from_yields_List}
use Rattle.daide_driver.specs.Slab.{is_free_place}
use Rattle.daide_driver.proofs.SlabLemmas.{all_seen}
use Rattle.daide_driver.proofs.slab.Slab.is_empty.Goals as goal

pub returns : goal.returns
returns g c =
    let s = c.self.inside in
    all_from_yields_List is_free_place _ _ _ c.all.ensures.ran (YieldsList-from_slice c.deref.result.now cc)
    (λ x b q k. search (rules, tests))
    ∙ ap (list_all is_free_place) c.deref.ensures.value
    ∙ all_seen _ _ _ _ c.self.view_is
