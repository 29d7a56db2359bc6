use Rattle.std.proofs.Common.{◌≡◌, [], ◌∷◌, ◌++◌, length, ap, ◌∙◌, arith}
use Rattle.daide_words.specs.Words.{words_of}
use Rattle.daide_protocol.specs.Config.{limits_with}
use Rattle.daide_driver.specs.declared.place.SlabPlace.TheVariants.{Free}
use Rattle.daide_driver.proofs.SlabLemmas.{all_free_length, all_free_more, all_free_next, opening}
use Rattle.daide_driver.proofs.slab.Slab.with_limits.Goals as goal

pub push_reserved-requires : goal.push_reserved-requires
push_reserved-requires g c =
    let items = ap length c.loop-place.invariant.items in
    let count = items ∙ all_free_length _ c.loop-place._place in
    let room = c.loop-place.invariant.room in
    let below = c.loop-place-test.true in
    omega (arith, count, room, below, c.loop-place.places.ok.0)

pub loop-place-preserved : goal.loop-place-preserved
loop-place-preserved g c = record {
  items = c.push_reserved.ensures.items ∙ ap (λ places. places ++ Free ∷ []) c.loop-place.invariant.items
      ∙ all_free_more c.loop-place._place;
  room = let room = c.loop-place.invariant.room in
      let same = c.push_reserved.ensures.capacity in omega (arith, room, same);
}

pub invariant_of-result : goal.invariant_of-result
invariant_of-result g c = rw c.loop-place.invariant.items (all_free_next c.loop-place._place)

pub returns-clause-opening : goal.returns-clause-opening
returns-clause-opening g c =
    let end = c.loop-place-test.false in
    let same : c.loop-place._place ≡ c.args.max = omega (arith, end, c.loop-place.auto._place-end) in
    opening (λ slot. record { session = slot.session; ports = slot.ports; meter = slot.meter }) (limits_with c.args.limits.config (words_of c.args.words))
    c.loop-place.places.items c.loop-place._place c.args.max c.loop-place.invariant.items same
