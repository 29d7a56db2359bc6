-- The frame events that a run uses, to be compared with those of all the bytes from a side.
use Rattle.std.specs.Prelude.{ℕ, List, [], ◌∷◌, ◌++◌, if◌then◌else◌}
use Rattle.daide_frame.specs.declared.side.Side.{Side}
use Rattle.daide_frame.specs.Frames.{FrameEvent, last_items}
use Rattle.daide_protocol.specs.Events.{Event, Comes, Ends, Loses, ImTimerExpired, OperatorStops}
use Rattle.daide_protocol.specs.Machine.{SessionState, Effect, Runs, coming, is_over}
use Rattle.daide_frame.specs.Side.{same_side}

-- the bytes from a side, among all events
abbrev pub bytes_from : Side → List Event → List ℕ
bytes_from side [] = []
bytes_from side (Comes from byte ∷ events) =
    if same_side from side then byte ∷ bytes_from side events else bytes_from side events
bytes_from side (Ends from ∷ events) = bytes_from side events
bytes_from side (Loses from ∷ events) = bytes_from side events
bytes_from side (ImTimerExpired ∷ events) = bytes_from side events
bytes_from side (OperatorStops ∷ events) = bytes_from side events

-- the frame events from a side that a state uses at an event: none once it is over
abbrev pub heard_at : Side → SessionState → Event → List FrameEvent
heard_at side state (Comes from byte) =
    if is_over state.phase then []
    else (if same_side from side then last_items state.limits.cap ((coming state from).pending ++ byte ∷ []) else [])
heard_at side state (Ends from) = []
heard_at side state (Loses from) = []
heard_at side state ImTimerExpired = []
heard_at side state OperatorStops = []

-- the frame events from a side that a run uses, in their order
abbrev pub items_heard : (side : Side) (old : SessionState) (events : List Event) (effects : List Effect)
    (new : SessionState) → Runs old events effects new → List FrameEvent
items_heard side old [] effects new run = []
items_heard side old (event ∷ events) effects new run =
    heard_at side old event ++ items_heard side run.0 events run.2 new run.4
