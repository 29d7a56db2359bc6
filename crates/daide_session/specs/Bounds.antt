-- The bounds that a session keeps in every state: the first half of the headline.
use Rattle.std.specs.Prelude.{◌+◌, ◌≤◌, length}
use Rattle.daide_frame.specs.declared.side.Side.{Side}
use Rattle.daide_protocol.specs.Wires.{SessionView, holding, steps_of}
use Rattle.daide_protocol.specs.Weight.{queue_bound, weight_of, weight_bound, steps_bound, IsKeptSmall}

pub record IsWithinBounds (g : SessionView) : Type 0 where
  -- in each direction at most one message's announced length, capped, and eight stack entries for each open bracket
  -- plus sixteen
  pub each_direction : (side : Side) → IsKeptSmall g.state.limits.cap (holding g side)
  -- 64 further entries in all, the queued frames
  pub further : length g.wires.bot + length g.wires.server ≤ queue_bound
  pub weight : weight_of g ≤ weight_bound g
  -- four table steps a token, and four at its end
  pub steps : (side : Side) → steps_of (holding g side) ≤ steps_bound g side
