-- The timers of a session: when its timeouts start and expire, by the calls of its ports. (own)
use Rattle.std.specs.Prelude.{◌≡◌, ◌≢◌, ◌⊎◌, ◌||◌, ℕ, ◌+◌, ◌<◌, ◌≤◌, nat_lt, Bool, true, false, List, length, Option, Some, None}
use Rattle.std.specs.declared.time.Duration.{Duration}
use Rattle.std.specs.declared.time.Instant.{Instant}
use Rattle.daide_frame.specs.declared.side.Side.{Side}
use Rattle.daide_frame.specs.PerSide.{PerSide, both}
use Rattle.daide_frame.specs.Side.{other}
use Rattle.daide_io.specs.declared.ports.ClockEvent.{ClockEvent}
use Rattle.daide_io.specs.declared.ports.ClockEvent.TheVariants.{NoEvent, ImTimeIsOver, StopIsRequested}
use Rattle.daide_io.specs.declared.ports.Pull.{Pull}
use Rattle.daide_io.specs.declared.ports.Pull.TheVariants.{Got, Idle, Ended}
use Rattle.daide_io.specs.declared.ports.Put.{Put}
use Rattle.daide_io.specs.declared.ports.Put.TheVariants.{Took, Failed}
use Rattle.daide_io.specs.Ports.{PortCall, TurnBegins, Clock, Pulled, Offered}
use Rattle.daide_io.specs.Streams.{StreamCall}
use Rattle.daide_buffered_io.specs.Buffers.{Buffer}
use Rattle.daide_buffered_io.specs.Streams.{Transfers}
use Rattle.daide_sockets.specs.declared.socket.Socket.{Socket}
use Rattle.daide_sockets.specs.declared.ports.SocketPorts.{SocketPorts}
use Rattle.daide_sockets.specs.Lingering.{IsWriting, IsWritingOver}
use Rattle.daide_sockets.specs.Clock.{due_after, IsStallEnd, StallsNext, has_stalled, is_past}
use Rattle.daide_sockets.specs.Wakeups.{SessionSockets, Settles, socket_at}

-- The sockets of a session with their deadlines; the idle timeout of its peers; whether the deadline of the initial message
-- passed when its turn began, for the first time; and whether an operator's request stops the session in this turn.
pub record SessionTimers (S : Type 0) : Type 0 where
  pub sockets : SessionSockets S
  pub idle_time : Option Duration
  pub im_timer_expired : Bool
  pub stops : Bool

-- the streams of ports
abbrev pub streams_of : {S : Type 0} → SocketPorts S → PerSide (Buffer S)
streams_of ports = both ports.sides.bot.stream ports.sides.server.stream

-- the timers of ports
abbrev pub timers_of : {S : Type 0} → SocketPorts S → SessionTimers S
timers_of ports = record {
  sockets = record { sides = ports.sides; reading = ports.idle.reading; im_due = ports.im_due };
  idle_time = ports.idle.time;
  im_timer_expired = ports.im_timer_expired;
  stops = ports.stops;
}

-- a pull that returned bytes
abbrev pub is_got : Pull → Bool
is_got (Got count) = true
is_got Idle = false
is_got Ended = false

-- ---- one socket

-- a stall timeout that runs is unchanged
abbrev pub StallGoesOn : {S : Type 0} → Socket S → Socket S → Type 0
StallGoesOn old new = (moment : Instant) → old.stalls_at ≡ Some moment → new.stalls_at ≡ Some moment

-- a stall timeout with this time is unchanged, or over, or starts at this reading of the clock
abbrev pub IsStallKept : Option Instant → Option Duration → Option Instant → Option Instant → Type 0
IsStallKept reading time old new = (new ≡ old) ⊎ ((new ≡ None) ⊎ IsStallEnd reading time new)

-- The timeouts of a socket after a call at this reading of the clock that may write to it. Their times stay, and so does
-- the idle timeout. The stall timeout stays, ends, or starts at the reading. A write that failed stays failed, and then no
-- stall timeout starts.
pub record KeepsTimers {S : Type 0} (reading : Option Instant) (old new : Socket S) : Type 0 where
  pub stall_time : new.stall_time ≡ old.stall_time
  pub silent_from : new.silent_from ≡ old.silent_from
  pub stall : IsStallKept reading old.stall_time old.stalls_at new.stalls_at
  pub failed : old.stream.has_failed ≡ true →
      (new.stream.has_failed ≡ true) × ((new.stalls_at ≡ old.stalls_at) ⊎ (new.stalls_at ≡ None))

-- The stall timeout after a write of what is held for a peer. It starts again if the peer took a byte and more is held,
-- goes on while the peer takes none, and is over once nothing is held that may be written. With nothing held none starts.
pub record StallsAfterFlush {S : Type 0} (reading : Option Instant) (old new : Socket S) : Type 0 where
  pub restarts : IsWriting new.stream → length new.stream.write_buffer < length old.stream.write_buffer →
      IsStallEnd reading old.stall_time new.stalls_at
  pub goes_on : new.stream.has_failed ≡ false → length new.stream.write_buffer ≡ length old.stream.write_buffer →
      StallGoesOn old new
  pub ends : IsWriting old.stream → IsWritingOver new.stream → new.stalls_at ≡ None
  pub rests : IsWritingOver old.stream → (new.stalls_at ≡ old.stalls_at) ⊎ (new.stalls_at ≡ None)

-- what is held for a peer was written, or stays held
pub record FlushesInTime {S : Type 0} (reading : Option Instant) (old new : Socket S) : Type 0 where
  pub kept : KeepsTimers reading old new
  pub stall : StallsAfterFlush reading old new
  pub full : old.readiness.may_write ≡ false → StallGoesOn old new

-- A turn begins at this reading of the clock. A peer whose stall timeout is over, and which takes no byte of what is held
-- when the turn begins, is given up: its writes fail. One that takes a byte is not. For any other peer, what is held was
-- written, or stays held. `BeginsWriting` says that a write is tried.
pub record BeginsInTime {S : Type 0} (reading : Option Instant) (old new : Socket S) : Type 0 where
  pub kept : KeepsTimers reading old new
  pub stall : StallsAfterFlush reading old new
  pub gives_up : has_stalled old.stall_time reading old.stalls_at ≡ true →
      length old.stream.write_buffer ≤ length new.stream.write_buffer →
      (new.stream.has_failed ≡ true) × (new.stalls_at ≡ None)
  pub goes_on : has_stalled old.stall_time reading old.stalls_at ≡ true →
      length new.stream.write_buffer < length old.stream.write_buffer → new.stream.has_failed ≡ false

-- The stall timeout after a put of this many bytes. If some of them were not accepted, or bytes are held for the peer, it
-- runs from then on. It goes on if the peer took no byte: then all that was held, and all that was accepted, is held. Once
-- all were accepted and nothing is held that may be written, or a write failed, it is over.
abbrev pub StallsAfterPut : {S : Type 0} → Option Instant → ℕ → Put → Socket S → Socket S → Type 0
StallsAfterPut reading len (Took count) old new =
    ((count < len) ⊎ IsWriting new.stream → StallsNext old.stall_time reading old.stalls_at
    (nat_lt (length new.stream.write_buffer) (length old.stream.write_buffer + count)) new.stalls_at)
    × (count ≡ len → IsWritingOver new.stream → new.stalls_at ≡ None)
StallsAfterPut reading len Failed old new = new.stalls_at ≡ None

-- bytes were put
pub record PutsInTime {S : Type 0} (reading : Option Instant) (bytes : List ℕ) (put : Put) (old new : Socket S) :
    Type 0 where
  pub kept : KeepsTimers reading old new
  pub stall : StallsAfterPut reading (length bytes) put old new

-- A side was pulled, with this idle timeout. Its silence starts again with what it sends, and only then. Once the timeout
-- is over, a pull that finds nothing is the side's end.
pub record PullsInTime {S : Type 0} (reading : Option Instant) (idle_time : Option Duration) (pull : Pull)
    (old new : Socket S) : Type 0 where
  pub stall_time : new.stall_time ≡ old.stall_time
  pub stalls_at : new.stalls_at ≡ old.stalls_at
  pub failed : new.stream.has_failed ≡ old.stream.has_failed
  pub starts : is_got pull ≡ true → IsStallEnd reading idle_time new.silent_from
  pub goes_on : is_got pull ≡ false → new.silent_from ≡ old.silent_from
  pub late : has_stalled idle_time reading old.silent_from ≡ true → pull ≢ Idle

-- ---- a session begins

-- A session begins at this reading of the clock, with an idle timeout and a stall timeout, none for never. The silence of
-- each peer begins at the reading, and no stall timeout runs.
pub record BeginsAt {S : Type 0} (start : Option Instant) (times : Option Duration × Option Duration)
    (session : SessionTimers S) : Type 0 where
  pub reading : session.sockets.reading ≡ start
  pub idle_time : session.idle_time ≡ times.0
  pub stall_time : (side : Side) → (socket_at session.sockets side).stall_time ≡ times.1
  pub silent_from : (side : Side) → IsStallEnd start times.0 (socket_at session.sockets side).silent_from
  pub stalls_at : (side : Side) → (socket_at session.sockets side).stalls_at ≡ None

-- ---- the clock

-- What the clock reports: a stop if the caller or an operator stops the session in this turn, and otherwise whether the
-- deadline of the initial message passed when the turn began.
abbrev pub clock_event : Bool → Bool → ClockEvent
clock_event true im_timer_expired = StopIsRequested
clock_event false true = ImTimeIsOver
clock_event false false = NoEvent

-- ---- the calls

-- no turn begins, no timeout of the session changes its time, and the clock reports what it did
pub record SameClock {S : Type 0} (old new : SessionTimers S) : Type 0 where
  pub reading : new.sockets.reading ≡ old.sockets.reading
  pub im_due : new.sockets.im_due ≡ old.sockets.im_due
  pub idle_time : new.idle_time ≡ old.idle_time
  pub im_timer_expired : new.im_timer_expired ≡ old.im_timer_expired
  pub stops : new.stops ≡ old.stops

-- What a call of a session's ports does to its timers. The deadline of the initial message expires once: in the first turn
-- that begins at it or after it. The clock reports that, or a stop, and changes no timer: a stop ends none. It reports a
-- stop, too, if the caller stops the session (`is_spent`).
abbrev pub SetsTimers : {S : Type 0} → PortCall → SessionTimers S → SessionTimers S → Type 0
SetsTimers TurnBegins old new = (new.idle_time ≡ old.idle_time)
    × (new.im_timer_expired ≡ is_past new.sockets.reading old.sockets.im_due)
    × (new.sockets.im_due ≡ due_after new.sockets.reading old.sockets.im_due)
    × ((side : Side) → BeginsInTime new.sockets.reading (socket_at old.sockets side) (socket_at new.sockets side))
SetsTimers (Clock event) old new =
    ((is_spent : Bool) × (event ≡ clock_event (is_spent || old.stops) old.im_timer_expired)) × (new ≡ old)
SetsTimers (Pulled side room pull bytes) old new = SameClock old new
    × PullsInTime old.sockets.reading old.idle_time pull (socket_at old.sockets side) (socket_at new.sockets side)
    × FlushesInTime old.sockets.reading (socket_at old.sockets (other side)) (socket_at new.sockets (other side))
SetsTimers (Offered side bytes put) old new = SameClock old new
    × PutsInTime old.sockets.reading bytes put (socket_at old.sockets side) (socket_at new.sockets side)
    × FlushesInTime old.sockets.reading (socket_at old.sockets (other side)) (socket_at new.sockets (other side))

-- ---- ports

-- What a call does to the ports of a session: to the streams of its two sockets (`Transfers`), to what is known of them
-- (`Settles`), and to its timers (`SetsTimers`).
abbrev pub PortsEvolve : {S : Type 0} → (S → Option (List ℕ)) → (S → Option (List ℕ)) → (S → Option (List StreamCall)) →
    SocketPorts S → PortCall → SocketPorts S → Type 0
PortsEvolve to_give taken calls old call new =
    Transfers to_give taken (streams_of old) call (streams_of new) × Settles calls call old.sides new.sides
    × SetsTimers call (timers_of old) (timers_of new)
