-- The calls of ports with their results, and what they mean for a session: its events, and the bytes that each wire
-- took.
use Rattle.std.specs.Prelude.{◌≡◌, ℕ, ◌≤◌, Bool, true, false, ◌||◌, if◌then◌else◌}
use Rattle.std.specs.Prelude.{List, [], ◌∷◌, ◌++◌, take, Option, Some, IfSome}
use Rattle.daide_frame.specs.declared.side.Side.{Side}
use Rattle.daide_protocol.specs.Events.{Event, Ends, Loses, ImTimerExpired, OperatorStops, bytes_come}
use Rattle.daide_frame.specs.Side.{same_side}
use Rattle.daide_io.specs.declared.ports.ClockEvent.{ClockEvent}
use Rattle.daide_io.specs.declared.ports.ClockEvent.TheVariants.{NoEvent, ImTimeIsOver, StopIsRequested}
use Rattle.daide_io.specs.declared.ports.Pull.{Pull}
use Rattle.daide_io.specs.declared.ports.Pull.TheVariants.{Got, Idle, Ended}
use Rattle.daide_io.specs.declared.ports.Put.{Put}
use Rattle.daide_io.specs.declared.ports.Put.TheVariants.{Took, Failed}

-- ---- the trace

-- One step of the ports. Either a turn of their session begins, without a call; or it is a call with its result: of the
-- clock; of a pull, with the length of its buffer and the bytes received; of a put, with the bytes offered.
pub data PortCall : Type 0 where
  TurnBegins : PortCall
  Clock : (event : ClockEvent) → PortCall
  Pulled : (side : Side) → (buffer : ℕ) → (pull : Pull) → (bytes : List ℕ) → PortCall
  Offered : (side : Side) → (bytes : List ℕ) → (put : Put) → PortCall

-- the clock reports something
abbrev pub is_eventful : ClockEvent → Bool
is_eventful NoEvent = false
is_eventful ImTimeIsOver = true
is_eventful StopIsRequested = true

-- the number of bytes of a pull
abbrev pub pulled_len : Pull → ℕ
pulled_len (Got n) = n
pulled_len Idle = 0
pulled_len Ended = 0

-- a pull returns at most as many bytes as its buffer has
abbrev pub IsPullWithin : Pull → ℕ → Type 0
IsPullWithin (Got n) len = n ≤ len
IsPullWithin Idle len = Unit {0}
IsPullWithin Ended len = Unit {0}

-- a put takes at most as many bytes as were offered
abbrev pub IsPutWithin : Put → ℕ → Type 0
IsPutWithin (Took n) len = n ≤ len
IsPutWithin Failed len = Unit {0}

-- The ports went from old to new by these calls, recorded or not; `transition` is the effect of one call with its
-- result.
abbrev pub EvolvesBy : {P : Type 0} → (P → PortCall → P → Type 0) → P → List PortCall → P → Type 0
EvolvesBy transition old [] new = new ≡ old
EvolvesBy {P} transition old (call ∷ trace) new =
    (mid : P) × transition old call mid × EvolvesBy transition mid trace new

-- If there is a record afterwards, there was one before, and these calls were appended to it. Without a record
-- afterwards it holds.
abbrev pub AppendsTo : {A : Type 0} → Option (List A) → List A → Option (List A) → Type 0
AppendsTo {A} old trace new = IfSome new (λ after. (before : List A) × (old ≡ Some before) × (after ≡ before ++ trace))

-- ---- the events

-- the events of a call: the timer, a stop, bytes from a side, its end, or a failed wire; the beginning of a turn has none
abbrev pub event_of : PortCall → List Event
event_of TurnBegins = []
event_of (Clock NoEvent) = []
event_of (Clock ImTimeIsOver) = ImTimerExpired ∷ []
event_of (Clock StopIsRequested) = OperatorStops ∷ []
event_of (Pulled side buffer (Got n) bytes) = bytes_come side bytes
event_of (Pulled side buffer Idle bytes) = []
event_of (Pulled side buffer Ended bytes) = Ends side ∷ []
event_of (Offered side bytes (Took n)) = []
event_of (Offered side bytes Failed) = Loses side ∷ []

-- the events of a trace
abbrev pub events_of : List PortCall → List Event
events_of [] = []
events_of (call ∷ trace) = event_of call ++ events_of trace

-- ---- the wires

abbrev pub took : Side → PortCall → List ℕ
took side TurnBegins = []
took side (Clock event) = []
took side (Pulled from buffer pull bytes) = []
took side (Offered to bytes (Took n)) = if same_side to side then take n bytes else []
took side (Offered to bytes Failed) = []

-- the bytes that the wire to a side took, in order
abbrev pub taken : Side → List PortCall → List ℕ
taken side [] = []
taken side (call ∷ trace) = took side call ++ taken side trace

abbrev pub put_fails : Side → PortCall → Bool
put_fails side TurnBegins = false
put_fails side (Clock event) = false
put_fails side (Pulled from buffer pull bytes) = false
put_fails side (Offered to bytes (Took n)) = false
put_fails side (Offered to bytes Failed) = same_side to side

-- whether a put to the wire to a side failed
abbrev pub has_failed : Side → List PortCall → Bool
has_failed side [] = false
has_failed side (call ∷ trace) = put_fails side call || has_failed side trace
