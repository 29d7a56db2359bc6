use Rattle.std.proofs.lemmas.Bool.{not-true, not-false}
use Rattle.daide_log.proofs.Common.{◌∷◌, [], sym, ◌∙◌, Option, subst, Bot, Note, Ends, ImTimerExpired, OperatorStops}
use Rattle.daide_log.proofs.Common.{runs_limits, Moves}
use Rattle.daide_log.proofs.PlayLemmas.{end_made, end_silent, timer_made, timer_silent, stop_made, stop_silent, moves_noted, idle_free}
use Rattle.daide_log.proofs.play.apply.Goals as goal

pub returns-then-ended-clause-moves : goal.returns-then-ended-clause-moves
returns-then-ended-clause-moves g c = λ bytes.
    rw c.in-EndOf.is (end_made c.args.session.now c.ended-ended.new.self c.in-EndOf.side c.ended-ended.ensures.goes
    (not-true _ (sym c.ended-ended.ensures.answer ∙ c.if-ended.true)))

pub returns-else-ended-clause-moves : goal.returns-else-ended-clause-moves
returns-else-ended-clause-moves g c = λ bytes.
    rw c.in-EndOf.is (end_silent c.args.session.now c.ended-ended.new.self c.in-EndOf.side c.ended-ended.ensures.goes
    (not-false _ (sym c.ended-ended.ensures.answer ∙ c.if-ended.false)))

pub returns-then-ended-clause-limits : goal.returns-then-ended-clause-limits
returns-then-ended-clause-limits g c =
    let goes = c.ended-ended.ensures.goes in
    runs_limits (Ends c.in-EndOf.side ∷ []) c.args.session.now.state c.ended-ended.new.self.state goes.effects goes.run

pub returns-else-ended-clause-limits : goal.returns-else-ended-clause-limits
returns-else-ended-clause-limits g c =
    let goes = c.ended-ended.ensures.goes in
    runs_limits (Ends c.in-EndOf.side ∷ []) c.args.session.now.state c.ended-ended.new.self.state goes.effects goes.run

pub returns-in-ImTimerLine-clause-moves : goal.returns-in-ImTimerLine-clause-moves
returns-in-ImTimerLine-clause-moves g c = λ bytes.
    let goes = c.im_timeout.ensures.goes in
    rw c.in-ImTimerLine.is (subst (λ (move : Option Note). Moves c.args.session.now (ImTimerExpired ∷ []) Bot move c.im_timeout.new.self)
    (sym c.note_of_move.ensures)
    (moves_noted c.args.session.now c.im_timeout.new.self (ImTimerExpired ∷ []) Bot c.im_timeout.result
    (λ e. timer_silent c.args.session.now c.im_timeout.new.self c.im_timeout.result goes e)
    (λ some. timer_made c.args.session.now c.im_timeout.new.self c.im_timeout.result
    (c.header-held.ensures.tied (idle_free c.args.session.now Bot c.requires.idle)) goes c.im_timeout.ensures.holds some)))

pub returns-in-ImTimerLine-clause-limits : goal.returns-in-ImTimerLine-clause-limits
returns-in-ImTimerLine-clause-limits g c =
    let goes = c.im_timeout.ensures.goes in
    runs_limits (ImTimerExpired ∷ []) c.args.session.now.state c.im_timeout.new.self.state goes.effects goes.run

pub returns-in-StopLine-clause-moves : goal.returns-in-StopLine-clause-moves
returns-in-StopLine-clause-moves g c = λ bytes.
    let goes = c.stop.ensures.goes in
    rw c.in-StopLine.is (subst (λ (move : Option Note). Moves c.args.session.now (OperatorStops ∷ []) Bot move c.stop.new.self)
    (sym c.note_of_move-in-StopLine.ensures)
    (moves_noted c.args.session.now c.stop.new.self (OperatorStops ∷ []) Bot c.stop.result
    (λ e. stop_silent c.args.session.now c.stop.new.self c.stop.result goes e)
    (λ some. stop_made c.args.session.now c.stop.new.self c.stop.result goes some)))

pub returns-in-StopLine-clause-limits : goal.returns-in-StopLine-clause-limits
returns-in-StopLine-clause-limits g c =
    let goes = c.stop.ensures.goes in
    runs_limits (OperatorStops ∷ []) c.args.session.now.state c.stop.new.self.state goes.effects goes.run
