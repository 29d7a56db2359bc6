use Rattle.std.proofs.Common.{◌≤◌, ◌<◌, List, ◌++◌, refl, sym, ap, ◌∙◌, subst, arith}
use Rattle.std.specs.Prelude.{slice_get}
use Rattle.daide_io.specs.ReadyQueue.{ReadyView, queued_places}
use Rattle.daide_io.specs.System.{SystemCall, TransitsBy}
use Rattle.daide_event_loop.specs.Serving.{ServiceView, VisitsUntilRefused}
use Rattle.daide_event_loop.proofs.ServingLemmas.{Visited, none_visited, another_visit, some_room, none_left, all_had, at_error}
use Rattle.daide_event_loop.proofs.TransitLemmas.{transits_then}
use Rattle.daide_event_loop.proofs.VisitLemmas.{visit_turns}
use Rattle.daide_event_loop.proofs.serving.Service.visit_ready.Goals as goal

pub loop-turns-init : goal.loop-turns-init
loop-turns-init g c = (omega arith, none_visited g.P.Ports.transition g.S.System.transition c.args.system.now c.args.self.now)

pub overflow_add-turns : goal.overflow_add-turns
overflow_add-turns g c = let few = c.loop-turns.invariant.0 in omega (arith, few)

pub overflow_add-fresh_first : goal.overflow_add-fresh_first
overflow_add-fresh_first g c = let few = c.loop-turns.invariant.0 in omega (arith, few)

pub overflow_add-fresh_first-in-loop-turns : goal.overflow_add-fresh_first-in-loop-turns
overflow_add-fresh_first-in-loop-turns g c = let few = c.loop-turns.invariant.0 in omega (arith, few)

pub returns-in_default-clause-visits : goal.returns-in_default-clause-visits
returns-in_default-clause-visits g c =
    let run : ServiceView g.row.P.Denot = record {
      slab = c.self.inside.slab;
      counters = c.self.inside.counters;
      ready = c.self.inside.ready;
    } in
    let same = c.in_default.ensures.none.1 in
    none_left g.P.Ports.transition g.S.System.transition _ _ _ run (record run { ready = c.next.new.self }) c.loop-turns.turns
    (subst (λ (now : ServiceView g.row.P.Denot). Visited g.P.Ports.transition g.S.System.transition c.args.system.now c.args.self.now
    c.loop-turns.turns now c.loop-turns.system) (sym c.self.view_is) c.loop-turns.invariant.1)
    (ap (λ (ready : ReadyView). record run { ready = ready }) same)
    (ap queued_places same ∙ c.in_default.ensures.none.0)

pub returns-in_err-turns-clause-broken_off : goal.returns-in_err-turns-clause-broken_off
returns-in_err-turns-clause-broken_off g c =
    let go = g.S.System.transition in
    let run : ServiceView g.row.P.Denot = record {
      slab = c.self.inside.slab;
      counters = c.self.inside.counters;
      ready = c.self.inside.ready;
    } in
    let broken = c.in_err-turns.ensures.broken_off in
    let before = subst (λ (now : ServiceView g.row.P.Denot). Visited g.P.Ports.transition go c.args.system.now c.args.self.now
    c.loop-turns.turns now c.loop-turns.system) (sym c.self.view_is) c.loop-turns.invariant.1 in
    at_error c.from_residual.result ((trace : List (SystemCall g.row.P.Denot)) × TransitsBy go c.args.system.now trace c.visit.new.system
    × VisitsUntilRefused g.A.Memory.Refuses g.P.Ports.transition c.args.self.now trace c.visit.new.self) (
      before.trace ++ broken.0,
      transits_then go before.trace broken.0 _ _ _ before.transits broken.1,
      record {
        visited = before.visited;
        turns = c.loop-turns.turns;
        before = before.trace;
        last = broken.0;
        mid = run;
        ready = c.next.new.self;
        place = c.in-Some.place;
        takes = before.visits;
        room = some_room c.loop-turns.turns c.loop-turns-test.true;
        chooses = c.in-Some.ensures.some;
        refuses = broken.2;
        asked = refl;
      },
    )

-- the visit that was made is short
visit_is_short : (g : _) (c : goal.In_ok-turns g) → (0 < c.in_ok-turns.field-0) × (c.in_ok-turns.field-0 ≤ 8)
visit_is_short g c =
    let run : ServiceView g.row.P.Denot = record {
      slab = c.self.inside.slab;
      counters = c.self.inside.counters;
      ready = c.next.new.self;
    } in
    let visit = c.in_ok-turns.ensures.visits in
    visit_turns g.P.Ports.transition (slice_get run.slab.places c.in-Some.place) run c.in-Some.place c.in_ok-turns.field-0 visit.0
    c.visit.new.self visit.2

pub overflow_add-turns-in-loop-turns : goal.overflow_add-turns-in-loop-turns
overflow_add-turns-in-loop-turns g c =
    let few = c.loop-turns.invariant.0 in
    let short = (visit_is_short g c).1 in
    omega (arith, few, short)

pub loop-turns-smaller : goal.loop-turns-smaller
loop-turns-smaller g c =
    let test = c.loop-turns-test.true in
    let some = (visit_is_short g c).0 in
    omega (arith, test, some)

pub loop-turns-preserved : goal.loop-turns-preserved
loop-turns-preserved g c =
    let go = g.S.System.transition in
    let test = c.loop-turns-test.true in
    let short = (visit_is_short g c).1 in
    let run : ServiceView g.row.P.Denot = record {
      slab = c.self.inside.slab;
      counters = c.self.inside.counters;
      ready = c.self.inside.ready;
    } in
    let visit = c.in_ok-turns.ensures.visits in
    let before = subst (λ (now : ServiceView g.row.P.Denot). Visited g.P.Ports.transition go c.args.system.now c.args.self.now
    c.loop-turns.turns now c.loop-turns.system) (sym c.self.view_is) c.loop-turns.invariant.1 in (
      omega (arith, test, short),
      another_visit g.P.Ports.transition go _ _ _ _ run c.visit.new.self c.loop-turns.turns c.in-Some.place c.in_ok-turns.field-0 before visit.0
          visit.1 (record {
            ready = c.next.new.self;
            room = some_room c.loop-turns.turns c.loop-turns-test.true;
            chooses = c.in-Some.ensures.some;
            visits = visit.2;
          }),
    )

pub returns-clause-visits : goal.returns-clause-visits
returns-clause-visits g c =
    let far = c.loop-turns-test.false in
    all_had g.P.Ports.transition g.S.System.transition _ _ _ _ c.loop-turns.turns c.loop-turns.invariant.1 (omega (arith, far))
