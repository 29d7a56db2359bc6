-- Ports with a record settle, and keep time, as the ports inside do.
use Rattle.std.proofs.Common.{List, Option, arith}
use Rattle.daide_frame.specs.PerSide.{PerSide}
use Rattle.daide_io.specs.Streams.{StreamCall}
use Rattle.daide_io.specs.Ports.{PortCall, TurnBegins, Clock, Pulled, Offered}
use Rattle.daide_log.specs.Recording.{asked_within}
use Rattle.daide_sockets.specs.declared.socket.Socket.{Socket}
use Rattle.daide_sockets.specs.Timers.{SessionTimers, SetsTimers}
use Rattle.daide_sockets.specs.Wakeups.{Settles}

-- a pull with room has room also for a piece of a record's line
pub settles_within : {S : Type 0} (streams : S → Option (List StreamCall)) (call : PortCall) (old new : PerSide (Socket S)) →
    Settles streams (asked_within call) old new → Settles streams call old new
settles_within streams TurnBegins old new h = h
settles_within streams (Clock event) old new h = h
settles_within streams (Pulled side room pull bytes) old new h = (
  record {
    key = h.0.key;
    none_left = λ none some once. h.0.none_left none (grind (arith, some)) once;
    writes = h.0.writes;
    tries_again = h.0.tries_again;
  },
  h.1,
)
settles_within streams (Offered side bytes put) old new h = h

-- and the timers are the same
pub times_within : {S : Type 0} (call : PortCall) (old new : SessionTimers S) →
    SetsTimers (asked_within call) old new → SetsTimers call old new
times_within TurnBegins old new h = h
times_within (Clock event) old new h = h
times_within (Pulled side room pull bytes) old new h = h
times_within (Offered side bytes put) old new h = h
