-- The port calls of a turn and their effect on the session: the clock, one put to each wire with a queued frame, one
-- pull from each side with room. They are in this order, each by the state at its own step.
use Rattle.std.specs.Prelude.{◌≡◌, ℕ, ◌+◌, ◌/◌, ◌<◌, ◌≤◌, ◌⊎◌, min, true, List, [], ◌∷◌, ◌++◌, length}
use Rattle.daide_frame.specs.declared.side.Side.{Side}
use Rattle.daide_frame.specs.declared.side.Side.TheVariants.{Bot, Server}
use Rattle.daide_grammar.specs.Bounds.{message_steps}
use Rattle.daide_reader.specs.Reading.{IsRaised}
use Rattle.daide_protocol.specs.declared.note.Note.{Note}
use Rattle.daide_frame.specs.Side.{other}
use Rattle.daide_protocol.specs.Events.{Event, Ends, ImTimerExpired, OperatorStops, bytes_come}
use Rattle.daide_protocol.specs.Wires.{SessionView, queued, first_len, front_of, holding, room_of, IsFrontOf}
use Rattle.daide_protocol.specs.Wires.{Refines, Lost, Wrote, parts_of, parts_after}
use Rattle.daide_io.specs.declared.ports.ClockEvent.{ClockEvent}
use Rattle.daide_io.specs.declared.ports.ClockEvent.TheVariants.{NoEvent, ImTimeIsOver, StopIsRequested}
use Rattle.daide_io.specs.declared.ports.Pull.{Pull}
use Rattle.daide_io.specs.declared.ports.Pull.TheVariants.{Got, Idle, Ended}
use Rattle.daide_io.specs.declared.ports.Put.{Put}
use Rattle.daide_io.specs.declared.ports.Put.TheVariants.{Took, Failed}
use Rattle.daide_channels.specs.Fronts.{KeepsFront, AreFresh}
use Rattle.daide_io.specs.Ports.{PortCall, Clock, Pulled, Offered, pulled_len, IsPutWithin}

-- the most bytes that a turn reads from a side (own)
abbrev pub most_pulled : ℕ
most_pulled = 512

-- one trace, and then another
abbrev pub Then : (SessionView → List PortCall → SessionView → Type 0) → (SessionView → List PortCall → SessionView → Type 0) →
    SessionView → List PortCall → SessionView → Type 0
Then First Second old trace new =
    (mid : SessionView) × (first : List PortCall) × (second : List PortCall)
    × (trace ≡ first ++ second) × First old first mid × Second mid second new

-- the session handles these events, with any note
abbrev pub AdvancesByEvents : SessionView → List Event → SessionView → Type 0
AdvancesByEvents old events new = (note : Note) × Refines old events note new

-- the front of each wire stays; a wire with an empty queue then starts with a whole final frame or an answer's header
abbrev pub KeepsBoth : SessionView → SessionView → Type 0
KeepsBoth old new = (to : Side) → KeepsFront old to new

-- ---- the clock

-- the expiry of the IM timer, or a stop, if the clock reports one
abbrev pub Hears : ClockEvent → SessionView → SessionView → Type 0
Hears NoEvent old new = new ≡ old
Hears ImTimeIsOver old new = AdvancesByEvents old (ImTimerExpired ∷ []) new × KeepsBoth old new
Hears StopIsRequested old new = AdvancesByEvents old (OperatorStops ∷ []) new × KeepsBoth old new

-- the clock is read once
abbrev pub AsksClock : SessionView → List PortCall → SessionView → Type 0
AsksClock old trace new = (event : ClockEvent) × (trace ≡ Clock event ∷ []) × Hears event old new

-- ---- the puts

-- The accepted bytes are removed from the parts of the frame. The next front is then the rest of the offered part, or
-- else the frame's next part. If the whole frame was accepted, the next frame starts with its first part.
pub record TakesFront (side : Side) (n : ℕ) (old new : SessionView) : Type 0 where
  pub rest : n < first_len (queued old side) → parts_of new side ≡ parts_after n (parts_of old side)
  pub next : first_len (queued old side) ≤ n → AreFresh (parts_of new side) (queued new side)

-- the accepted bytes are removed from the queue; a failed wire is lost; the other wire's front stays
abbrev pub Hands : Side → Put → SessionView → SessionView → Type 0
Hands side (Took n) old new =
    Wrote old side n new × TakesFront side n old new × KeepsFront old (other side) new
Hands side Failed old new = Lost old side new × KeepsFront old (other side) new

-- the queue is empty, and no put is made
abbrev pub HasNone : Side → SessionView → List PortCall → SessionView → Type 0
HasNone side old trace new = (queued old side ≡ []) × (trace ≡ []) × (new ≡ old)

-- the queue is not empty, and one put of the whole front is made
pub record HandsFront (side : Side) (old : SessionView) (trace : List PortCall) (new : SessionView) : Type 0 where
  pub put : Put
  pub filled : 0 < length (front_of old side)
  pub front : IsFrontOf (front_of old side) (queued old side)
  pub asked : trace ≡ Offered side (front_of old side) put ∷ []
  pub within : IsPutWithin put (length (front_of old side))
  pub hands : Hands side put old new

abbrev pub Puts : Side → SessionView → List PortCall → SessionView → Type 0
Puts side old trace new = HasNone side old trace new ⊎ HandsFront side old trace new

-- ---- the pulls

-- received bytes are fed; an end is handled as an end
abbrev pub Gets : Side → Pull → List ℕ → SessionView → SessionView → Type 0
Gets side (Got n) bytes old new = AdvancesByEvents old (bytes_come side bytes) new × KeepsBoth old new
Gets side Idle bytes old new = new ≡ old
Gets side Ended bytes old new = AdvancesByEvents old (Ends side ∷ []) new × KeepsBoth old new

-- there is no room, and no pull is made
abbrev pub HasNoRoom : Side → SessionView → List PortCall → SessionView → Type 0
HasNoRoom side old trace new = (room_of old side ≡ 0) × (trace ≡ []) × (new ≡ old)

-- there is room, and one pull is made into a buffer as long as the room, but of at most `most_pulled` bytes
pub record FillsRoom (side : Side) (old : SessionView) (trace : List PortCall) (new : SessionView) : Type 0 where
  pub pull : Pull
  pub bytes : List ℕ
  pub room : 0 < room_of old side
  pub asked : trace ≡ Pulled side (min (room_of old side) most_pulled) pull bytes ∷ []
  pub counted : length bytes ≡ pulled_len pull
  pub gets : Gets side pull bytes old new

abbrev pub Pulls : Side → SessionView → List PortCall → SessionView → Type 0
Pulls side old trace new = HasNoRoom side old trace new ⊎ FillsRoom side old trace new

-- ---- the turn

abbrev pub Turn : SessionView → List PortCall → SessionView → Type 0
Turn = Then AsksClock (Then (Puts Bot) (Then (Puts Server) (Then (Pulls Bot) (Pulls Server))))

-- ---- its work

-- The maximum number of look-ups of a turn in one side's table: those for the tokens of its one pull, for a token that the
-- pull's first byte completes, and for a message's end.
abbrev pub turn_steps : ℕ
turn_steps = message_steps (most_pulled / 2 + 1) true

-- each side's table made at most this many look-ups
abbrev pub AsksAtMost : ℕ → SessionView → SessionView → Type 0
AsksAtMost most old new = (side : Side) → IsRaised most (holding old side).total (holding new side).total
