-- Progress of a send queue: bytes are sent while the wire accepts some, and frames while it accepts all that it is
-- offered.
use Rattle.std.specs.Prelude.{◌≡◌, ℕ, ◌<◌, ◌≤◌, min, true, List, [], ◌∷◌, ◌++◌, length}
use Rattle.daide_frame.specs.declared.side.Side.{Side}
use Rattle.daide_frame.specs.Side.{same_side}
use Rattle.daide_protocol.specs.Wires.{SessionView, queued, sent_bytes, first_len, parts_of}
use Rattle.daide_channels.specs.Fronts.{AreFresh}
use Rattle.daide_io.specs.declared.ports.Put.TheVariants.{Took, Failed}
use Rattle.daide_io.specs.Ports.{PortCall, TurnBegins, Clock, Pulled, Offered, taken}
use Rattle.daide_driver.specs.Turn.{Turn}

-- turns in a row, each with its own trace
abbrev pub AreTurns : SessionView → List (List PortCall) → SessionView → Type 0
AreTurns old [] new = new ≡ old
AreTurns old (trace ∷ turns) new = (mid : SessionView) × Turn old trace mid × AreTurns mid turns new

-- if this is a put to the wire of this side, the wire accepts at least one byte
abbrev pub TakesSome : Side → PortCall → Type 0
TakesSome side TurnBegins = Unit {0}
TakesSome side (Clock event) = Unit {0}
TakesSome side (Pulled from buffer pull bytes) = Unit {0}
TakesSome side (Offered to bytes (Took n)) = same_side side to ≡ true → 0 < n
TakesSome side (Offered to bytes Failed) = same_side side to ≡ true → ⊥

-- each put of this trace, and of these turns
abbrev pub EachTakesSome : Side → List PortCall → Type 0
EachTakesSome side [] = Unit {0}
EachTakesSome side (call ∷ trace) = TakesSome side call × EachTakesSome side trace

abbrev pub EachTurnTakesSome : Side → List (List PortCall) → Type 0
EachTurnTakesSome side [] = Unit {0}
EachTurnTakesSome side (trace ∷ turns) = EachTakesSome side trace × EachTurnTakesSome side turns

-- the bytes that the wire of this side accepted in the turns, in order
abbrev pub taken_in : Side → List (List PortCall) → List ℕ
taken_in side [] = []
taken_in side (trace ∷ turns) = taken side trace ++ taken_in side turns

-- While a wire accepts at least one byte a put, it accepts as many bytes as there are turns, or all that were queued
-- before them. This holds whatever else happens in the turns.
abbrev pub DueBytesGo : Type 0
DueBytesGo = (side : Side) (turns : List (List PortCall)) (old new : SessionView) → AreTurns old turns new →
    EachTurnTakesSome side turns →
    min (length turns) (length (sent_bytes (queued old side))) ≤ length (taken_in side turns)

-- if this is a put to the wire of this side, the wire accepts all of it
abbrev pub TakesAll : Side → PortCall → Type 0
TakesAll side TurnBegins = Unit {0}
TakesAll side (Clock event) = Unit {0}
TakesAll side (Pulled from buffer pull bytes) = Unit {0}
TakesAll side (Offered to bytes (Took n)) = same_side side to ≡ true → n ≡ length bytes
TakesAll side (Offered to bytes Failed) = same_side side to ≡ true → ⊥

abbrev pub EachTakesAll : Side → List PortCall → Type 0
EachTakesAll side [] = Unit {0}
EachTakesAll side (call ∷ trace) = TakesAll side call × EachTakesAll side trace

abbrev pub EachTurnTakesAll : Side → List (List PortCall) → Type 0
EachTurnTakesAll side [] = Unit {0}
EachTurnTakesAll side (trace ∷ turns) = EachTakesAll side trace × EachTurnTakesAll side turns

-- While a wire accepts all that it is offered, an unsent frame is sent after six turns, whatever else happens in them.
-- An answer is sent in at most six parts.
abbrev pub FramesGo : Type 0
FramesGo = (side : Side) (turns : List (List PortCall)) (old new : SessionView) → AreTurns old turns new →
    EachTurnTakesAll side turns → AreFresh (parts_of old side) (queued old side) → 6 ≤ length turns →
    first_len (queued old side) ≤ length (taken_in side turns)
