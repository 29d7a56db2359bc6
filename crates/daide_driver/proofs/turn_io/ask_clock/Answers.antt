use Rattle.std.proofs.Common.{[], ◌∷◌, refl, sym, subst}
use Rattle.daide_protocol.specs.Events.{ImTimerExpired, OperatorStops}
use Rattle.daide_protocol.proofs.LimitsKept.{runs_limits}
use Rattle.daide_io.specs.declared.ports.ClockEvent.{ClockEvent}
use Rattle.daide_io.specs.Ports.{Clock}
use Rattle.daide_driver.specs.Meter.{Moving, Stopping}
use Rattle.daide_driver.specs.Totals.{Working}
use Rattle.daide_driver.specs.Turn.{AsksClock, Hears}
use Rattle.daide_driver.proofs.MeterLemmas.{stops_first}
use Rattle.daide_driver.proofs.Stretches.{carries_one}
use Rattle.daide_session.proofs.WorkLemmas.{paid_held, paid_same}
use Rattle.daide_driver.proofs.AnswerWork.{works_clock}
use Rattle.daide_driver.proofs.turn_io.ask_clock.Goals as goal

pub returns-in-NoEvent-clause-clock : goal.returns-in-NoEvent-clause-clock
returns-in-NoEvent-clause-clock g c =
    let now = c.args.session.now in
    let event = c.clock-event.result in
    carries_one g.P.Ports.transition (Stopping c.args.is_spent (Moving c.args.moved.now c.add_clock.new.self (Working AsksClock)))
    now now _ _ (Clock event) c.clock-event.ensures.transition (
      (
        (
          (event, refl, subst (λ (e : ClockEvent). Hears e now now) (sym c.in-NoEvent.is) refl),
          works_clock now now event (λ side. paid_same side now now refl refl),
        ),
        c.add_clock.ensures,
      ),
      stops_first c.args.is_spent event c.clock-event.ensures.stops,
    )

pub returns-in-ImTimeIsOver-clause-clock : goal.returns-in-ImTimeIsOver-clause-clock
returns-in-ImTimeIsOver-clause-clock g c =
    let now = c.args.session.now in
    let new = c.im_timeout.new.self in
    let goes = c.im_timeout.ensures.goes in
    let event = c.clock-event.result in
    carries_one g.P.Ports.transition (Stopping c.args.is_spent (Moving c.args.moved.now c.add_clock.new.self (Working AsksClock)))
    now new _ _ (Clock event) c.clock-event.ensures.transition (
      (
        (
          (
            event,
            refl,
            subst (λ (e : ClockEvent). Hears e now new) (sym c.in-ImTimeIsOver.is)
                ((c.im_timeout.result, goes), c.im_timeout.ensures.fronts),
          ),
          works_clock now new event
              (paid_held now new (runs_limits (ImTimerExpired ∷ []) now.state new.state goes.effects goes.run) c.im_timeout.ensures.holds),
        ),
        c.add_clock.ensures,
      ),
      stops_first c.args.is_spent event c.clock-event.ensures.stops,
    )

pub returns-in-StopIsRequested-clause-clock : goal.returns-in-StopIsRequested-clause-clock
returns-in-StopIsRequested-clause-clock g c =
    let now = c.args.session.now in
    let new = c.stop.new.self in
    let goes = c.stop.ensures.goes in
    let event = c.clock-event.result in
    carries_one g.P.Ports.transition (Stopping c.args.is_spent (Moving c.args.moved.now c.add_clock.new.self (Working AsksClock)))
    now new _ _ (Clock event) c.clock-event.ensures.transition (
      (
        (
          (
            event,
            refl,
            subst (λ (e : ClockEvent). Hears e now new) (sym c.in-StopIsRequested.is)
                ((c.stop.result, goes), c.stop.ensures.fronts),
          ),
          works_clock now new event
              (paid_held now new (runs_limits (OperatorStops ∷ []) now.state new.state goes.effects goes.run) c.stop.ensures.holds),
        ),
        c.add_clock.ensures,
      ),
      stops_first c.args.is_spent event c.clock-event.ensures.stops,
    )
