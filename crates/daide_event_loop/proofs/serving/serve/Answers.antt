use Rattle.std.proofs.Common.{◌≤◌, List, [], refl, inl, inr, sym, ◌∙◌, subst, arith, rules}
use Rattle.daide_event_loop.specs.declared.serving.ServeFault.{ServeFault}
use Rattle.daide_io.specs.System.{SystemCall, TransitsBy}
use Rattle.daide_event_loop.specs.Serving.{ServiceView, GivesUp, IsServeCause, initial_service}
use Rattle.daide_event_loop.proofs.ServingLemmas.{Ran, no_rounds, another_round, at_memory, runs_out}
use Rattle.daide_event_loop.proofs.ServedLemmas.{body_refused, whole_run}
use Rattle.daide_event_loop.proofs.serving.serve.Goals as goal

pub loop-round-init : goal.loop-round-init
loop-round-init g c =
    let first = initial_service {P = g.row.P.Denot} c.args.settings.now in
    subst (λ (s : ServiceView g.row.P.Denot). Ran g.P.Ports.transition g.S.System.transition 0 first c.args.system.now s c.args.system.now) (sym c.in-Ok.ensures.opening)
    (no_rounds g.P.Ports.transition g.S.System.transition first c.args.system.now)

pub loop-round-preserved : goal.loop-round-preserved
loop-round-preserved g c =
    let round = c.in_ok-round.ensures.round in
    another_round g.P.Ports.transition g.S.System.transition c.loop-round._round _ _ _ _ _ _ c.loop-round.invariant
    (sym c.is_done.ensures ∙ c.if-is_done.false) round.0 round.1 round.2

pub returns-then-is_done-clause-served : goal.returns-then-is_done-clause-served
returns-then-is_done-clause-served g c =
    let ran = c.loop-round.invariant in (
      ran.0,
      ran.1,
      whole_run g.P.Ports.transition c.args.settings.now c.loop-round._round ran.0
          c.loop-round.service ran.2
          (sym c.is_done.ensures ∙ c.if-is_done.true),
    )

-- the places were refused
pub returns-in_default-clause-given_up : goal.returns-in_default-clause-given_up
returns-in_default-clause-given_up g c = ([], refl, inl (refl, c.in_default.ensures.refused))

pub returns-in_default-clause-refused : goal.returns-in_default-clause-refused
returns-in_default-clause-refused g c = inl c.in_default.ensures.refused

-- only refused memory breaks off a round
pub returns-in_err-round-clause-given_up : goal.returns-in_err-round-clause-given_up
returns-in_err-round-clause-given_up g c =
    let broken = c.in_err-round.ensures.broken_off in
    at_memory c.from_residual.result c.in_err-round.field-0.0 (λ (fault : ServeFault). (trace : List (SystemCall g.row.P.Denot))
    × TransitsBy g.S.System.transition c.args.system.now trace c.round.new.system
    × GivesUp g.A.Memory.Refuses g.P.Ports.transition c.args.settings.now fault trace)
    c.from_residual.ensures.1 c.in_err-round.ensures.refused
    (runs_out g.A.Memory.Refuses g.P.Ports.transition g.S.System.transition c.args.settings.now c.loop-round._round _ _ _ _ _ c.loop-round.invariant
    (sym c.is_done.ensures ∙ c.if-is_done.false) broken.0 broken.1 broken.2)

pub returns-in_err-round-clause-refused : goal.returns-in_err-round-clause-refused
returns-in_err-round-clause-refused g c =
    let ran = c.loop-round.invariant in
    let broken = c.in_err-round.ensures.broken_off in
    at_memory c.from_residual.result c.in_err-round.field-0.0
    (IsServeCause g.A.Memory.Refuses c.args.settings.now) c.from_residual.ensures.1
    c.in_err-round.ensures.refused
    (inr (body_refused g.P.Ports.transition c.args.settings.now g.A.Memory.Refuses c.loop-round._round ran.0
    c.loop-round.service ran.2 broken.0 _ broken.2))

-- all rounds were made if the loop ran to its end
pub returns-clause-given_up : goal.returns-clause-given_up
returns-clause-given_up g c =
    let ran = c.loop-round.invariant in
    let last = c.loop-round-test.false in
    let far : c.loop-round._round ≤ 18446744073709551615 = search rules in (
      ran.0,
      ran.1,
      record {
        n = c.loop-round._round;
        end = c.loop-round.service;
        all = omega (arith, last, far);
        rounds = ran.2;
      },
    )
