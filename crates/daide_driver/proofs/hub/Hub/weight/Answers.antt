use Rattle.std.proofs.Common.{◌≤◌, length, arith, refl, subst, sym, ap, ◌∙◌}
use Rattle.std.specs.Prelude.{vec_capacity, sum_by}
use Rattle.std.proofs.lemmas.List.{take_all}
use Rattle.std.proofs.lemmas.List.Sums.{sum_by_more}
use Rattle.daide_words.specs.Words.{words_of}
use Rattle.daide_protocol.specs.Machine.{Limits}
use Rattle.daide_protocol.specs.Weight.{weight_of}
use Rattle.daide_protocol.specs.Config.{limits_with}
use Rattle.daide_driver.specs.Hub.{IsHubSession, session_bound, weight_at}
use Rattle.daide_driver.proofs.HubLemmas.{place_small, config_small, one_more, sum_by-map}
use Rattle.daide_driver.proofs.hub.Hub.weight.Goals as goal

-- the weight of the next place
next_weighs : (g : _) (c : goal.After-weight-total g) →
    c.weight-total.result ≤ session_bound (limits_with c.self.inside.limits.config (words_of c.self.inside.words))
next_weighs g c =
    let s = c.self.inside in
    let hosting = subst (λ xs. IsHubSession (λ p. p.session) s.limits.config (words_of s.words) s.max (vec_capacity s.places) xs)
    (sym c.deref-place-items.ensures.value) c.self.invariant in
    rw c.weight-total.ensures.value (place_small (λ p. p.session) s.limits.config (words_of s.words) s.max (vec_capacity s.places)
    c.deref-place-items.result.now c.loop-place.place-index c.place-item.result hosting c.loop-place-test.true
    c.place-item.is c.weight-total.ensures.directions c.weight-total.ensures.entries
    c.weight-total.ensures.at_most_three)

pub overflow_add-total : goal.overflow_add-total
overflow_add-total g c =
    let s = c.self.inside in
    let small = c.loop-place.invariant.small in
    let next = next_weighs g c in
    let config = config_small s.limits.config s.limits.right in
    let fits = c.self.invariant.fits in
    let size = c.self.invariant.size.1 in
    let inside = c.loop-place-test.true in
    let same = ap length c.deref-place-items.ensures.value in
    omega (arith, small, next, config, fits, size, inside, same)

pub loop-place-preserved : goal.loop-place-preserved
loop-place-preserved g c =
    let config = config_small c.self.inside.limits.config c.self.inside.limits.right in
    let next = next_weighs g c in
    record {
      sum = rw (sum_by_more (λ p. weight_of p.session) c.deref-place-items.result.now
          c.loop-place.place-index c.place-item.result c.loop-place-test.true)
          (rw (sym c.place-item.is) (rw (c.loop-place.invariant.sum, c.weight-total.ensures.value) refl));
      small = one_more c.loop-place.place-index 135212 c.loop-place.total c.weight-total.result
          c.loop-place.invariant.small
          (omega (arith, config, next));
      bound = one_more c.loop-place.place-index (session_bound c.args.self.now.limits) c.loop-place.total
          c.weight-total.result
          c.loop-place.invariant.bound
          (subst (λ (l : Limits). c.weight-total.result ≤ session_bound l) (ap (λ h. h.limits) c.self.view_is)
          next);
    }

pub returns-clause-sum : goal.returns-clause-sum
returns-clause-sum g c =
    let items = c.deref-place-items.result.now in
    let all = take_all c.loop-place.place-index items c.loop-place-test.false in
    c.loop-place.invariant.sum
    ∙ ap (sum_by (λ p. weight_of p.session)) (all ∙ c.deref-place-items.ensures.value)
    ∙ sym (sum_by-map weight_at (λ p. (p.session, p.ports)) c.self.inside.places.items)
    ∙ ap (λ h. sum_by weight_at h.places) c.self.view_is
