use Rattle.std.proofs.Common.{◌≡◌, refl, sym, subst, arith}
use Rattle.std.specs.Prelude.{IfSome}
use Rattle.daide_words.specs.Words.{words_of}
use Rattle.daide_protocol.specs.Wires.{SessionView}
use Rattle.daide_protocol.specs.Config.{limits_with}
use Rattle.daide_driver.proofs.HubLemmas.{place_inside, place_read}
use Rattle.daide_driver.proofs.hub.Hub.ports.Goals as goal

pub index-requires : goal.index-requires
index-requires g c =
    let s = c.self.inside in
    let inside = place_inside (λ p. (p.session, p.ports)) (limits_with s.limits.config (words_of s.words)) s.max s.places.items
    c.args.i c.args.self.now c.self.view_is c.requires in
    omega (arith, inside, s.places.ok.0)

pub returns : goal.returns
returns g c =
    let s = c.self.inside in
    let place = c.index.result.now in
    let read = place_read (λ p. (p.session, p.ports)) (limits_with s.limits.config (words_of s.words)) s.max s.places.items
    c.args.i place c.args.self.now c.self.view_is c.requires c.index.ensures in
    subst (λ found. IfSome found (λ (p : SessionView × g.row.P.Denot). place.ports ≡ p.1)) (sym read) refl
