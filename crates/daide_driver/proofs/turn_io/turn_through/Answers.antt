use Rattle.daide_frame.specs.declared.side.Side.TheVariants.{Bot, Server}
use Rattle.daide_driver.specs.Meter.{Moving, Stopping}
use Rattle.daide_driver.specs.Totals.{Working}
use Rattle.daide_driver.specs.Turn.{Then, AsksClock, Puts, Pulls}
use Rattle.daide_driver.specs.Whole.{WholeTurn}
use Rattle.daide_driver.proofs.MeterLemmas.{carries_moving, carries_stopping}
use Rattle.daide_driver.proofs.Stretches.{carries_weaker}
use Rattle.daide_driver.proofs.TurnLemmas.{WorkingTurn}
use Rattle.daide_driver.proofs.Standing.{one_turn}
use Rattle.daide_driver.proofs.turn_io.turn_through.Goals as goal

pub returns-clause-exchange : goal.returns-clause-exchange
returns-clause-exchange g c =
    let transition = g.P.Ports.transition in
    let old = c.args.session.now in
    let new = c.pull-2.new.session in
    let spent = c.args.is_spent in
    let first = c.args.moved.now in
    let last = c.pull-2.new.moved in
    carries_weaker transition (Stopping spent (Moving first last WorkingTurn)) (Stopping spent (Moving first last WholeTurn)) _ _
    (λ xs h. ((one_turn old xs new c.bounds.ensures h.0.0, h.0.1), h.1))
    (carries_stopping transition spent (Working AsksClock) (Then (Working (Puts Bot)) (Then (Working (Puts Server))
    (Then (Working (Pulls Bot)) (Working (Pulls Server))))) _ _ _ _ _ _ c.ask_clock.ensures.clock
    (carries_moving transition (Working (Puts Bot)) (Then (Working (Puts Server))
    (Then (Working (Pulls Bot)) (Working (Pulls Server)))) _ _ _ _ _ _ c.put_front.ensures.puts
    (carries_moving transition (Working (Puts Server)) (Then (Working (Pulls Bot)) (Working (Pulls Server))) _ _ _ _ _ _
    c.put_front-2.ensures.puts
    (carries_moving transition (Working (Pulls Bot)) (Working (Pulls Server)) _ _ _ _ _ _ c.pull.ensures.pulls
    c.pull-2.ensures.pulls))))
