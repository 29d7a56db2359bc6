use Rattle.std.proofs.Common.{◌≡◌, false, true, sym, ◌∙◌, subst}
use Rattle.std.specs.Prelude.{slice_get}
use Rattle.daide_driver.specs.Slab.{is_at, is_held}
use Rattle.daide_event_loop.specs.Serving.{ServiceView}
use Rattle.daide_event_loop.proofs.VisitLemmas.{visited_held}
use Rattle.daide_event_loop.proofs.serving.Service.visit.Goals as goal

pub give_turns-requires : goal.give_turns-requires
give_turns-requires g c =
    subst (λ (run : ServiceView g.row.P.Denot). is_at is_held run.slab.places c.args.place ≡ true) c.self.view_is
    (sym c.has.ensures ∙ c.if-has.true)

pub join-requires : goal.join-requires
join-requires g c =
    subst (λ (run : ServiceView g.row.P.Denot). is_at is_held run.slab.places c.args.place ≡ false) c.self.view_is
    (sym c.has.ensures ∙ c.if-has.false)

pub returns-then-has-clause-visits : goal.returns-then-has-clause-visits
returns-then-has-clause-visits g c =
    let run : ServiceView g.row.P.Denot = c.args.self.now in
    let turns = c.give_turns.ensures in (
      turns.0,
      turns.1,
      visited_held g.P.Ports.transition (slice_get run.slab.places c.args.place) run c.args.place c.give_turns.result turns.0
          c.give_turns.new.self
          (subst (λ (run : ServiceView g.row.P.Denot). is_at is_held run.slab.places c.args.place ≡ true) c.self.view_is
          (sym c.has.ensures ∙ c.if-has.true))
          turns.2,
    )
