use Rattle.std.proofs.Common.{◌≤◌, [], ◌∷◌, length, refl, ap, ◌∙◌, subst, arith}
use Rattle.daide_protocol.specs.Events.{Loses}
use Rattle.daide_protocol.specs.Machine.{SessionState}
use Rattle.daide_protocol.specs.Wires.{queued}
use Rattle.daide_protocol.proofs.LimitsKept.{runs_limits}
use Rattle.daide_io.specs.declared.ports.Put.{Put}
use Rattle.daide_io.specs.declared.ports.Put.TheVariants.{Took, Failed}
use Rattle.daide_io.specs.Ports.{Offered, IsPutWithin}
use Rattle.daide_driver.specs.Meter.{put_moved, Moving}
use Rattle.daide_driver.specs.Totals.{Working}
use Rattle.daide_driver.specs.Turn.{Puts}
use Rattle.daide_driver.proofs.Stretches.{carries_nothing, carries_one}
use Rattle.daide_driver.proofs.TurnLemmas.{front_short, no_put, whole_put}
use Rattle.daide_session.proofs.WorkLemmas.{paid_freed, paid_same}
use Rattle.daide_driver.proofs.turn_io.put_front.Goals as goal

pub returns-then-is_empty-clause-puts : goal.returns-then-is_empty-clause-puts
returns-then-is_empty-clause-puts g c =
    let now = c.args.session.now in
    let moved = c.args.moved.now in
    carries_nothing g.P.Ports.transition (Moving moved moved (Working (Puts c.args.side))) now now c.args.ports.now (
      (
        no_put c.args.side c.front-front.result.now now _ c.front-front.ensures.front c.is_empty.ensures
            c.if-is_empty.true,
        λ side. paid_same side now now refl refl,
      ),
      refl,
    )

-- the wire accepted bytes

pub wrote-requires : goal.wrote-requires
wrote-requires g c =
    let short = front_short c.front-front.result.now (queued c.args.session.now c.args.side)
    c.front-front.ensures.front in
    let within : c.in-Took.n ≤ length c.front-front.result.now =
    subst (λ (put : Put). IsPutWithin put (length c.front-front.result.now)) c.in-Took.is c.put-put.ensures.within in
    omega (arith, short, within)

pub returns-in-Took-clause-puts : goal.returns-in-Took-clause-puts
returns-in-Took-clause-puts g c =
    let now = c.args.session.now in
    let front = c.front-front.result.now in
    let moved = c.args.moved.now in
    carries_one g.P.Ports.transition (Moving moved c.add_put.new.self (Working (Puts c.args.side))) now c.wrote.new.self _ _
    (Offered c.args.side front (Took c.in-Took.n))
    (subst (λ (put : Put). g.P.Ports.transition c.args.ports.now (Offered c.args.side front put) c.put-put.new.self) c.in-Took.is
    c.put-put.ensures.transition) (
      (
        whole_put c.args.side (Took c.in-Took.n) front now c.wrote.new.self _ c.front-front.ensures.value
            c.front-front.ensures.front c.is_empty.ensures c.if-is_empty.false
            (subst (λ (put : Put). IsPutWithin put (length front)) c.in-Took.is c.put-put.ensures.within) (
              c.wrote.ensures.wrote,
              record { rest = c.wrote.ensures.own_front; next = c.wrote.ensures.next },
              c.wrote.ensures.other_front,
            ),
        paid_freed now c.wrote.new.self (ap (λ (s : SessionState). s.limits) c.wrote.ensures.wrote.same_state)
            c.wrote.ensures.asks_nothing c.wrote.ensures.holds,
      ),
      c.add_put.ensures ∙ ap (λ (put : Put). put_moved c.args.side put moved) c.in-Took.is,
    )

pub returns-in-Took-clause-limits : goal.returns-in-Took-clause-limits
returns-in-Took-clause-limits g c = ap (λ (s : SessionState). s.limits) c.wrote.ensures.wrote.same_state

-- the wire failed

pub returns-in-Failed-clause-puts : goal.returns-in-Failed-clause-puts
returns-in-Failed-clause-puts g c =
    let now = c.args.session.now in
    let front = c.front-front.result.now in
    let lost = c.lost.ensures.lost in
    let moved = c.args.moved.now in
    carries_one g.P.Ports.transition (Moving moved c.add_put.new.self (Working (Puts c.args.side))) now c.lost.new.self _ _
    (Offered c.args.side front Failed)
    (subst (λ (put : Put). g.P.Ports.transition c.args.ports.now (Offered c.args.side front put) c.put-put.new.self) c.in-Failed.is
    c.put-put.ensures.transition) (
      (
        whole_put c.args.side Failed front now c.lost.new.self _ c.front-front.ensures.value
            c.front-front.ensures.front c.is_empty.ensures c.if-is_empty.false
            (subst (λ (put : Put). IsPutWithin put (length front)) c.in-Failed.is c.put-put.ensures.within)
            (lost, c.lost.ensures.other_front),
        paid_freed now c.lost.new.self
            (runs_limits (Loses c.args.side ∷ []) now.state c.lost.new.self.state lost.effects lost.run)
            c.lost.ensures.asks_nothing c.lost.ensures.holds,
      ),
      c.add_put.ensures ∙ ap (λ (put : Put). put_moved c.args.side put moved) c.in-Failed.is,
    )

pub returns-in-Failed-clause-limits : goal.returns-in-Failed-clause-limits
returns-in-Failed-clause-limits g c =
    let lost = c.lost.ensures.lost in
    runs_limits (Loses c.args.side ∷ []) c.args.session.now.state c.lost.new.self.state lost.effects lost.run
