use Rattle.std.proofs.Common.{◌≡◌, List, ◌++◌, refl, subst}
use Rattle.daide_io.specs.System.{SystemCall, TransitsBy}
use Rattle.daide_event_loop.specs.Serving.{ServiceView, polled, opening, VisitsReady, VisitsUntilRefused, Round, BreaksOff}
use Rattle.daide_event_loop.proofs.ServingLemmas.{opened, at_error}
use Rattle.daide_event_loop.proofs.TransitLemmas.{transits_then}
use Rattle.daide_event_loop.proofs.serving.Service.round.Goals as goal

pub returns-clause-round : goal.returns-clause-round
returns-clause-round g c =
    let go = g.S.System.transition in
    let run : ServiceView g.row.P.Denot = record {
      slab = c.self.inside.slab;
      counters = c.self.inside.counters;
      ready = c.self.inside.ready;
    } in
    let orders = c.poll-orders.result in
    let poll = c.poll-orders.ensures in
    let opens = opening poll.0 orders run in
    let visits = c.in_ok-visit_ready.ensures.visits in
    let admits = c.admit.ensures in
    let same : record run { counters = c.heed.new.self; ready = c.poll-orders.new.ready } ≡ polled poll.0 orders run =
    rw (c.heed.ensures, poll.1) refl in
    let step : Round g.P.Ports.transition run (opens ++ visits.0 ++ admits.0) c.admit.new.self = record {
      woken = poll.0;
      orders = orders;
      visiting = visits.0;
      admission = admits.0;
      mid = c.visit_ready.new.self;
      visits = subst (λ (now : ServiceView g.row.P.Denot). VisitsReady g.P.Ports.transition now visits.0 c.visit_ready.new.self) same visits.2;
      admits = admits.2;
      asked = refl;
    } in (
      opens ++ visits.0 ++ admits.0,
      transits_then go (opens ++ visits.0) admits.0 _ _ _
          (transits_then go opens visits.0 _ _ _
          (opened go c.args.system.now _ _ run c.is_empty.result poll.0 orders c.is_empty.ensures poll.2 c.show_sessions.ensures) visits.1)
          admits.1,
      subst (λ (old : ServiceView g.row.P.Denot). Round g.P.Ports.transition old (opens ++ visits.0 ++ admits.0) c.admit.new.self)
          c.self.view_is step,
    )

pub returns-in_err-visit_ready-clause-broken_off : goal.returns-in_err-visit_ready-clause-broken_off
returns-in_err-visit_ready-clause-broken_off g c =
    let go = g.S.System.transition in
    let run : ServiceView g.row.P.Denot = record {
      slab = c.self.inside.slab;
      counters = c.self.inside.counters;
      ready = c.self.inside.ready;
    } in
    let orders = c.poll-orders.result in
    let poll = c.poll-orders.ensures in
    let opens = opening poll.0 orders run in
    let broken = c.in_err-visit_ready.ensures.broken_off in
    let same : record run { counters = c.heed.new.self; ready = c.poll-orders.new.ready } ≡ polled poll.0 orders run =
    rw (c.heed.ensures, poll.1) refl in
    let step : BreaksOff g.A.Memory.Refuses g.P.Ports.transition run (opens ++ broken.0) c.visit_ready.new.self = record {
      woken = poll.0;
      orders = orders;
      visiting = broken.0;
      visits = subst (λ (now : ServiceView g.row.P.Denot). VisitsUntilRefused g.A.Memory.Refuses g.P.Ports.transition now broken.0
          c.visit_ready.new.self) same broken.2;
      asked = refl;
    } in
    at_error c.from_residual.result ((trace : List (SystemCall g.row.P.Denot)) × TransitsBy go c.args.system.now trace c.visit_ready.new.system
    × BreaksOff g.A.Memory.Refuses g.P.Ports.transition c.args.self.now trace c.visit_ready.new.self) (
      opens ++ broken.0,
      transits_then go opens broken.0 _ _ _
          (opened go c.args.system.now _ _ run c.is_empty.result poll.0 orders c.is_empty.ensures poll.2 c.show_sessions.ensures)
          broken.1,
      subst (λ (old : ServiceView g.row.P.Denot). BreaksOff g.A.Memory.Refuses g.P.Ports.transition old (opens ++ broken.0) c.visit_ready.new.self)
          c.self.view_is step,
    )
