use Rattle.daide_driver.specs.Whole.{WholeTurn}
use Rattle.daide_driver.proofs.Stretches.{carries_weaker}
use Rattle.daide_driver.proofs.hub.HubPlace.turn.Goals as goal

pub returns : goal.returns
returns g c = record {
  exchange = carries_weaker g.P.Ports.transition _ WholeTurn _ _ (λ xs h. h.0.0) c.turn_through.ensures.exchange;
  asked = c.turn_through.ensures.asked;
  weight = c.turn_through.ensures.weight;
  limits = c.turn_through.ensures.limits;
}
