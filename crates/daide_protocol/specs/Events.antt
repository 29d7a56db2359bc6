-- The events of a session, one for each byte, so that no definition depends on pieces or on their order.
use Rattle.std.specs.Prelude.{ℕ, List, map}
use Rattle.daide_frame.specs.declared.side.Side.{Side}

-- one event
pub data Event : Type 0 where
  Comes : (side : Side) → (byte : ℕ) → Event  -- a side's next byte
  Ends : (side : Side) → Event  -- a side's stream ended
  Loses : (side : Side) → Event  -- the wire toward a side failed
  ImTimerExpired : Event  -- the time for the IM is over
  OperatorStops : Event  -- the operator stopped the session

-- the bytes from a side, one event each
abbrev pub bytes_come : Side → List ℕ → List Event
bytes_come side bytes = map (Comes side) bytes
