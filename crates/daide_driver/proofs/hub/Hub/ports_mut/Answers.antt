use Rattle.std.proofs.Common.{◌≡◌, refl, sym, ap, ◌∙◌, subst, arith}
use Rattle.std.specs.Prelude.{IfSome, vec_capacity}
use Rattle.daide_words.specs.Words.{words_of}
use Rattle.daide_protocol.specs.Wires.{SessionView}
use Rattle.daide_protocol.specs.Config.{limits_with}
use Rattle.daide_driver.specs.Hub.{with_ports_at}
use Rattle.daide_driver.proofs.HubLemmas.{place_inside, place_read, place_set, hosting_set}
use Rattle.daide_driver.proofs.hub.Hub.ports_mut.Goals as goal

pub index_mut-lent-requires : goal.index_mut-lent-requires
index_mut-lent-requires g c =
    let s = c.self.inside in
    let inside = place_inside (λ p. (p.session, p.ports)) (limits_with s.limits.config (words_of s.words)) s.max s.places.items
    c.args.i c.args.self.now c.self.view_is c.requires in
    omega (arith, inside, s.places.ok.0)

-- the session stays the same, whatever ports the borrower leaves
pub invariant_of-self-lent : goal.invariant_of-self-lent
invariant_of-self-lent g c w =
    let s = c.self.inside in
    let place = c.index_mut-lent.result.now in
    let inside = place_inside (λ p. (p.session, p.ports)) (limits_with s.limits.config (words_of s.words)) s.max s.places.items c.args.i
    c.args.self.now c.self.view_is c.requires in
    hosting_set (λ p. p.session) s.limits.config (words_of s.words) s.max (vec_capacity s.places) s.places.items c.args.i place
    (record { session = place.session; ports = w }) inside c.index_mut-lent.ensures.value refl c.self.invariant

pub returns : goal.returns
returns g c =
    let s = c.self.inside in
    let place = c.index_mut-lent.result.now in
    let limits = limits_with s.limits.config (words_of s.words) in
    let read = place_read (λ p. (p.session, p.ports)) limits s.max s.places.items c.args.i place c.args.self.now
    c.self.view_is c.requires c.index_mut-lent.ensures.value in (
      (
        refl,
        λ w. place_set (λ p. (p.session, p.ports)) limits s.max s.places.items c.args.i
            (record { session = place.session; ports = w }) c.args.self.now c.self.view_is
            ∙ ap (λ found. with_ports_at c.args.self.now c.args.i found w) (sym read),
      ),
      record {
        writes_back = tt;
        value = subst (λ found. IfSome found (λ (p : SessionView × g.row.P.Denot). place.ports ≡ p.1)) (sym read) refl;
      },
    )
