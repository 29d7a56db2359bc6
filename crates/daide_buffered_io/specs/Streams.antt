-- The effect of the calls of a session's ports on its two streams. (own)
use Rattle.std.specs.Prelude.{◌≡◌, ℕ, Bool, true, false, List, [], ◌∷◌, ◌++◌, Option, if◌then◌else◌}
use Rattle.daide_frame.specs.declared.side.Side.{Side}
use Rattle.daide_frame.specs.PerSide.{PerSide, at}
use Rattle.daide_frame.specs.Side.{same_side}
use Rattle.daide_io.specs.Ports.{PortCall, TurnBegins, Clock, Pulled, Offered, took}
use Rattle.daide_io.specs.declared.ports.Pull.TheVariants.{Got, Idle, Ended}
use Rattle.daide_buffered_io.specs.Buffers.{Buffer, Passes, ReadsNothing}

-- ---- the effect of one call on the streams

-- the bytes that a call returned from this side's stream
abbrev pub pulled_bytes : Side → PortCall → List ℕ
pulled_bytes side TurnBegins = []
pulled_bytes side (Clock event) = []
pulled_bytes side (Pulled from buffer (Got n) bytes) = if same_side from side then bytes else []
pulled_bytes side (Pulled from buffer Idle bytes) = []
pulled_bytes side (Pulled from buffer Ended bytes) = []
pulled_bytes side (Offered to bytes put) = []

-- the bytes that a trace of calls returned from it, in order
abbrev pub given : Side → List PortCall → List ℕ
given side [] = []
given side (call ∷ trace) = pulled_bytes side call ++ given side trace

-- whether a call concerns this side's stream
abbrev pub is_of : Side → PortCall → Bool
is_of side TurnBegins = false
is_of side (Clock event) = false
is_of side (Pulled from buffer pull bytes) = same_side from side
is_of side (Offered to bytes put) = same_side to side

-- whether a call is a question, which calls no stream
abbrev pub is_question : PortCall → Bool
is_question TurnBegins = false
is_question (Clock event) = true
is_question (Pulled from buffer pull bytes) = false
is_question (Offered to bytes put) = false

-- The effect of one call on the buffered streams of bot and server. Each returned the bytes that the call returned from
-- it, and accepted those that the call put to it. From a stream that the call does not concern nothing is read, and
-- only its write buffer is written. A question changes neither.
pub record Transfers {S : Type 0} (to_give got : S → Option (List ℕ)) (old : PerSide (Buffer S)) (call : PortCall)
    (new : PerSide (Buffer S)) : Type 0 where
  pub passes : (side : Side) →
      Passes to_give got (at old side) (pulled_bytes side call) (took side call) (at new side)
  pub unread : (side : Side) → is_of side call ≡ false → ReadsNothing to_give (at old side) (at new side)
  pub unchanged : is_question call ≡ true → new ≡ old
