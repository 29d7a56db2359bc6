use Rattle.std.proofs.Common.{◌∙◌, refl, sym, ap, subst, arith}
use Rattle.std.specs.Prelude.{vec_capacity}
use Rattle.daide_words.specs.Words.{words_of}
use Rattle.daide_protocol.specs.Wires.{IsNew}
use Rattle.daide_driver.specs.Hub.{HubView}
use Rattle.daide_protocol.specs.Config.{limits_with}
use Rattle.daide_driver.proofs.HubLemmas.{hosting_added, place_added, places_counted, room_here}
use Rattle.daide_driver.proofs.hub.Hub.add.Goals as goal

pub push_reserved-requires : goal.push_reserved-requires
push_reserved-requires g c =
    let fits = c.self.invariant.fits in
    let room = c.self.invariant.room in
    let len = c.len-place.ensures in
    let apart = c.if-place-self.false in
    omega (arith, fits, room, len, apart, c.self.inside.places.ok.0)

pub invariant_of-self : goal.invariant_of-self
invariant_of-self g c =
    let s = c.self.inside in
    let fits = c.self.invariant.fits in
    let len = c.len-place.ensures in
    let apart = c.if-place-self.false in
    rw (c.push_reserved.ensures.items, c.push_reserved.ensures.capacity)
    (hosting_added (λ p. p.session) s.limits.config (words_of s.words) s.max (vec_capacity s.places) s.places.items
    (record { session = c.in-Ok.session; ports = c.args.ports }) (omega (arith, fits, len, apart, s.places.ok.0))
    c.in-Ok.ensures.opening c.self.invariant)

-- the hub is full

pub returns-then-place-self-clause-place : goal.returns-then-place-self-clause-place
returns-then-place-self-clause-place g c = tt

pub returns-then-place-self-clause-room : goal.returns-then-place-self-clause-room
returns-then-place-self-clause-room g c = tt

pub returns-then-place-self-clause-added : goal.returns-then-place-self-clause-added
returns-then-place-self-clause-added g c = tt

pub returns-then-place-self-clause-refused : goal.returns-then-place-self-clause-refused
returns-then-place-self-clause-refused g c =
    let s = c.self.inside in
    sym (places_counted (λ p. (p.session, p.ports)) (limits_with s.limits.config (words_of s.words)) s.max s.places.items
    c.args.self.now c.self.view_is)
    ∙ (sym s.places.ok.0 ∙ (sym c.len-place.ensures ∙ (c.if-place-self.true
    ∙ ap (λ (h : HubView g.row.P.Denot). h.max) c.self.view_is)))

pub returns-then-place-self-clause-unchanged : goal.returns-then-place-self-clause-unchanged
returns-then-place-self-clause-unchanged g c = refl

pub returns-then-place-self-clause-ports_back : goal.returns-then-place-self-clause-ports_back
returns-then-place-self-clause-ports_back g c = refl

-- no memory

pub returns-in_default-clause-refused : goal.returns-in_default-clause-refused
returns-in_default-clause-refused g c =
    let s = c.self.inside in
    let fits = c.self.invariant.fits in
    let len = c.len-place.ensures in
    let apart = c.if-place-self.false in (
      room_here (λ p. (p.session, p.ports)) (limits_with s.limits.config (words_of s.words)) s.max s.places.items
          c.args.self.now c.self.view_is (omega (arith, fits, len, apart, s.places.ok.0)),
      subst (λ (h : HubView g.row.P.Denot). g.A.Memory.Refuses h.limits.cap) c.self.view_is
          c.in_default.ensures.refused,
    )

pub returns-in_default-clause-unchanged : goal.returns-in_default-clause-unchanged
returns-in_default-clause-unchanged g c = refl

-- a session is added

pub returns-clause-place : goal.returns-clause-place
returns-clause-place g c =
    let s = c.self.inside in
    c.len-place.ensures
    ∙ (s.places.ok.0
    ∙ places_counted (λ p. (p.session, p.ports)) (limits_with s.limits.config (words_of s.words)) s.max s.places.items
    c.args.self.now c.self.view_is)

pub returns-clause-room : goal.returns-clause-room
returns-clause-room g c =
    let s = c.self.inside in
    let fits = c.self.invariant.fits in
    let len = c.len-place.ensures in
    let apart = c.if-place-self.false in
    room_here (λ p. (p.session, p.ports)) (limits_with s.limits.config (words_of s.words)) s.max s.places.items c.args.self.now
    c.self.view_is (omega (arith, fits, len, apart, s.places.ok.0))

pub returns-clause-added : goal.returns-clause-added
returns-clause-added g c =
    let s = c.self.inside in (
      c.in-Ok.session,
      subst (λ (h : HubView g.row.P.Denot). IsNew h.limits c.in-Ok.session) c.self.view_is c.in-Ok.ensures.opening,
      rw c.push_reserved.ensures.items
          (place_added (λ p. (p.session, p.ports)) (limits_with s.limits.config (words_of s.words)) s.max s.places.items
          (record { session = c.in-Ok.session; ports = c.args.ports }) c.args.self.now c.self.view_is),
    )
