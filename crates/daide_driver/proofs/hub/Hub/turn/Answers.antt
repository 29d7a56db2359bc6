use Rattle.std.proofs.Common.{arith}
use Rattle.std.specs.Prelude.{vec_capacity}
use Rattle.daide_words.specs.Words.{words_of}
use Rattle.daide_protocol.specs.Config.{limits_with}
use Rattle.daide_driver.proofs.HubLemmas.{place_inside, place_read, place_set, hosting_set}
use Rattle.daide_driver.proofs.hub.Hub.turn.Goals as goal

pub index_mut-requires : goal.index_mut-requires
index_mut-requires g c =
    let s = c.self.inside in
    let inside = place_inside (λ p. (p.session, p.ports)) (limits_with s.limits.config (words_of s.words)) s.max s.places.items
    c.args.i c.args.self.now c.self.view_is c.requires in
    omega (arith, inside, s.places.ok.0)

pub invariant_of-self : goal.invariant_of-self
invariant_of-self g c =
    let s = c.self.inside in
    let place = c.index_mut.result.now in
    let inside = place_inside (λ p. (p.session, p.ports)) (limits_with s.limits.config (words_of s.words)) s.max s.places.items c.args.i
    c.args.self.now c.self.view_is c.requires in
    hosting_set (λ p. p.session) s.limits.config (words_of s.words) s.max (vec_capacity s.places) s.places.items c.args.i place
    c.turn.new.self inside c.index_mut.ensures.value
    c.turn.ensures.limits c.self.invariant

pub returns : goal.returns
returns g c =
    let s = c.self.inside in
    let place = c.index_mut.result.now in
    let limits = limits_with s.limits.config (words_of s.words) in (
      (place.session, place.ports),
      (c.turn.new.self.session, c.turn.new.self.ports),
      place_read (λ p. (p.session, p.ports)) limits s.max s.places.items c.args.i place
          c.args.self.now c.self.view_is c.requires c.index_mut.ensures.value,
      place_set (λ p. (p.session, p.ports)) limits s.max s.places.items c.args.i
          c.turn.new.self c.args.self.now c.self.view_is,
      c.turn.ensures,
    )
