use Rattle.std.proofs.Common.{ap, ◌∙◌}
use Rattle.daide_driver.specs.Meter.{nothing_moved, moved_by, Moving}
use Rattle.daide_driver.specs.Whole.{WholeTurn}
use Rattle.daide_driver.proofs.Stretches.{carries_weaker}
use Rattle.daide_driver.proofs.turn_io.turn.Goals as goal

pub returns-clause-exchange : goal.returns-clause-exchange
returns-clause-exchange g c =
    carries_weaker g.P.Ports.transition _ (Moving nothing_moved c.turn_through.new.moved WholeTurn) _ _
    (λ xs h. (h.0.0, h.0.1 ∙ ap (moved_by xs) c.nothing-moved.ensures))
    c.turn_through.ensures.exchange
