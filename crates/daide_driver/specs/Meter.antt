-- The meter of a session: what the calls of its turns moved, and its quota of turns. (own)
use Rattle.std.specs.Prelude.{◌≡◌, ℕ, suc, zero, nat_lt, Bool, true, false, ◌||◌, ◌&&◌, not, List, [], ◌∷◌}
use Rattle.std.specs.Prelude.{Option, Some, None, is_none}
use Rattle.daide_frame.specs.declared.side.Side.{Side}
use Rattle.daide_protocol.specs.Wires.{SessionView}
use Rattle.daide_io.specs.declared.ports.ClockEvent.{ClockEvent}
use Rattle.daide_io.specs.declared.ports.ClockEvent.TheVariants.{StopIsRequested}
use Rattle.daide_io.specs.declared.ports.Pull.{Pull}
use Rattle.daide_io.specs.declared.ports.Pull.TheVariants.{Got, Idle, Ended}
use Rattle.daide_io.specs.declared.ports.Put.{Put}
use Rattle.daide_io.specs.declared.ports.Put.TheVariants.{Took, Failed}
use Rattle.daide_io.specs.ByteCounts.{no_bytes, pull_counted, put_counted}
use Rattle.daide_io.specs.Ports.{PortCall, TurnBegins, Clock, Pulled, Offered, is_eventful}
use Rattle.daide_driver.specs.declared.meter.Meter.{Meter}
use Rattle.daide_driver.specs.declared.meter.Moved.{Moved}

-- ---- what moved

-- bytes were received, or the side ended
abbrev pub is_gain : Pull → Bool
is_gain (Got count) = nat_lt 0 count
is_gain Idle = false
is_gain Ended = true

-- bytes were sent, or the wire failed
abbrev pub is_loss : Put → Bool
is_loss (Took count) = nat_lt 0 count
is_loss Failed = true

abbrev pub nothing_moved : Moved
nothing_moved = record { made_progress = false; bytes = no_bytes }

-- What moved, with one more call. It makes progress if the clock reported something, or there was a gain or a loss.
abbrev pub clock_moved : ClockEvent → Moved → Moved
clock_moved event moved = record { made_progress = moved.made_progress || is_eventful event; bytes = moved.bytes }

abbrev pub pull_moved : Side → Pull → Moved → Moved
pull_moved side pull moved = record {
  made_progress = moved.made_progress || is_gain pull;
  bytes = pull_counted side pull moved.bytes;
}

abbrev pub put_moved : Side → Put → Moved → Moved
put_moved side put moved = record {
  made_progress = moved.made_progress || is_loss put;
  bytes = put_counted side put moved.bytes;
}

abbrev pub moved_after : PortCall → Moved → Moved
moved_after TurnBegins moved = moved
moved_after (Clock event) moved = clock_moved event moved
moved_after (Pulled side buffer pull bytes) moved = pull_moved side pull moved
moved_after (Offered side bytes put) moved = put_moved side put moved

-- the same with several calls, one after another
abbrev pub moved_by : List PortCall → Moved → Moved
moved_by [] moved = moved
moved_by (call ∷ calls) moved = moved_by calls (moved_after call moved)

-- ---- the calls of a turn

-- by the same trace what moved went from one value to another
abbrev pub Moving : Moved → Moved → (SessionView → List PortCall → SessionView → Type 0) → SessionView → List PortCall →
    SessionView → Type 0
Moving before after Kind old calls new = Kind old calls new × (after ≡ moved_by calls before)

-- if the turns of the session are spent, the trace begins with a stop from the clock
abbrev pub StopsIf : Bool → List PortCall → Type 0
StopsIf is_spent calls = is_spent ≡ true → (others : List PortCall) × (calls ≡ Clock StopIsRequested ∷ others)

abbrev pub Stopping : Bool → (SessionView → List PortCall → SessionView → Type 0) → SessionView → List PortCall →
    SessionView → Type 0
Stopping is_spent Kind old calls new = Kind old calls new × StopsIf is_spent calls

-- ---- the quota

-- the meter of a session with this quota of turns; a session that had no turn counts as one that made progress
abbrev pub new_meter : ℕ → Meter
new_meter turns = record { turns_left = Some turns; moved = record { made_progress = true; bytes = no_bytes } }

-- a turn that begins takes one of the turns left; if none is left, the quota is spent
abbrev pub one_less : Option ℕ → Option ℕ
one_less None = None
one_less (Some zero) = None
one_less (Some (suc turns)) = Some turns

-- the turns left after a turn began, by whether the session was over; that of a session that is over is not counted
abbrev pub left_after : Bool → Option ℕ → Option ℕ
left_after true left = left
left_after false left = one_less left

-- the turns of a session were spent while it was open
abbrev pub has_spent_turns : Meter → Bool
has_spent_turns meter = is_none meter.turns_left

-- the meter at the beginning of a turn
abbrev pub with_turn_begun : Bool → Meter → Meter
with_turn_begun is_over meter = record {
  turns_left = left_after is_over meter.turns_left;
  moved = record { made_progress = false; bytes = meter.moved.bytes };
}

-- a turn stops a session that is open and has no turn left
abbrev pub is_stopped_by : Bool → Meter → Bool
is_stopped_by is_over meter = not is_over && is_none (one_less meter.turns_left)

-- the meter after a turn of these calls
abbrev pub metered : Bool → List PortCall → Meter → Meter
metered is_over calls meter = record {
  turns_left = left_after is_over meter.turns_left;
  moved = moved_by calls (record { made_progress = false; bytes = meter.moved.bytes });
}
