use Rattle.std.proofs.Common.{◌≡◌, sym, ◌∙◌, ap, subst, arith}
use Rattle.std.specs.Prelude.{false, Some, IfSome}
use Rattle.daide_words.specs.Words.{words_of}
use Rattle.daide_protocol.specs.Wires.{SessionView, is_closed}
use Rattle.daide_protocol.specs.Config.{limits_with}
use Rattle.daide_driver.specs.Hub.{IsReportedOf}
use Rattle.daide_driver.proofs.HubLemmas.{place_inside, same_read, place_read, place_removed, all_removed}
use Rattle.daide_driver.proofs.hub.Hub.remove_over.Goals as goal

pub index-requires : goal.index-requires
index-requires g c =
    let s = c.self.inside in
    let inside = place_inside (λ p. (p.session, p.ports)) (limits_with s.limits.config (words_of s.words)) s.max s.places.items
    c.args.i c.args.self.now c.self.view_is c.requires in
    omega (arith, inside, s.places.ok.0)

pub remove-slot-requires : goal.remove-slot-requires
remove-slot-requires g c =
    let s = c.self.inside in
    let inside = place_inside (λ p. (p.session, p.ports)) (limits_with s.limits.config (words_of s.words)) s.max s.places.items c.args.i
    c.args.self.now c.self.view_is c.requires in
    omega (arith, inside, s.places.ok.0)

pub returns-then-not-is_closed-clause-open : goal.returns-then-not-is_closed-clause-open
returns-then-not-is_closed-clause-open g c =
    let s = c.self.inside in
    let place = c.index.result.now in
    let read = place_read (λ p. (p.session, p.ports)) (limits_with s.limits.config (words_of s.words)) s.max s.places.items c.args.i place
    c.args.self.now c.self.view_is c.requires c.index.ensures in
    subst (λ found. IfSome found (λ (p : SessionView × g.row.P.Denot). is_closed p.0 ≡ false)) (sym read)
    (sym c.is_closed.ensures ∙ c.if-not-is_closed.true)

pub invariant_of-self : goal.invariant_of-self
invariant_of-self g c =
    let s = c.self.inside in
    let len = c.remove-slot.ensures.len in
    let capacity = c.remove-slot.ensures.capacity in
    record {
      size = c.self.invariant.size;
      fits = let fits = c.self.invariant.fits in
          omega (arith, len, fits, s.places.ok.0, c.remove-slot.new.self.ok.0);
      room = let room = c.self.invariant.room in omega (arith, capacity, room);
      same_limits = rw c.remove-slot.ensures.items
          (all_removed (λ p. p.session.state.limits ≡ limits_with s.limits.config (words_of s.words)) s.places.items c.args.i
          c.self.invariant.same_limits);
    }

pub returns-clause-moved_down : goal.returns-clause-moved_down
returns-clause-moved_down g c =
    let s = c.self.inside in
    let place = c.remove-slot.result in
    let limits = limits_with s.limits.config (words_of s.words) in
    let inside = place_inside (λ p. (p.session, p.ports)) limits s.max s.places.items c.args.i
    c.args.self.now c.self.view_is c.requires in
    let same = same_read s.places.items c.args.i c.index.result.now place inside c.index.ensures
    c.remove-slot.ensures.value in (
      place.session,
      place_read (λ p. (p.session, p.ports)) limits s.max s.places.items c.args.i place
          c.args.self.now c.self.view_is c.requires c.remove-slot.ensures.value
          ∙ ap (λ ports. Some (place.session, ports)) (sym c.from_closed.ensures.ports),
      ap (λ p. is_closed p.session) (sym same) ∙ sym c.is_closed.ensures ∙ c.if-not-is_closed.false,
      rw c.remove-slot.ensures.items
          (place_removed (λ p. (p.session, p.ports)) limits s.max s.places.items c.args.i
          c.args.self.now c.self.view_is),
    )

-- the session is closed
pub from_closed-requires : goal.from_closed-requires
from_closed-requires g c =
    let s = c.self.inside in
    let place = c.remove-slot.result in
    let inside = place_inside (λ p. (p.session, p.ports)) (limits_with s.limits.config (words_of s.words)) s.max s.places.items
    c.args.i c.args.self.now c.self.view_is c.requires in
    let same = same_read s.places.items c.args.i c.index.result.now place inside c.index.ensures
    c.remove-slot.ensures.value in
    ap (λ p. is_closed p.session) (sym same) ∙ sym c.is_closed.ensures ∙ c.if-not-is_closed.false

pub returns-clause-reported : goal.returns-clause-reported
returns-clause-reported g c =
    let s = c.self.inside in
    let place = c.remove-slot.result in
    let read = place_read (λ p. (p.session, p.ports)) (limits_with s.limits.config (words_of s.words)) s.max s.places.items
    c.args.i place c.args.self.now c.self.view_is c.requires c.remove-slot.ensures.value in
    subst (λ found. IfSome found (λ (p : SessionView × g.row.P.Denot). IsReportedOf p.0 c.from_closed.result.account
    c.from_closed.result.ending c.from_closed.result.fault_field))
    (sym read) c.from_closed.ensures.reported
