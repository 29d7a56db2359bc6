-- The calls of a session's ports, by what they do to the sockets of its sides.
use Rattle.std.proofs.Common.{ℕ, List, [], Option, take, refl}
use Rattle.std.specs.declared.time.Instant.{Instant}
use Rattle.daide_frame.specs.declared.side.Side.{Side}
use Rattle.daide_frame.specs.declared.side.Side.TheVariants.{Bot, Server}
use Rattle.daide_frame.specs.PerSide.{PerSide, at}
use Rattle.daide_frame.specs.Side.{other}
use Rattle.daide_io.specs.declared.ports.Pull.{Pull}
use Rattle.daide_io.specs.declared.ports.Put.{Put}
use Rattle.daide_io.specs.Ports.{Pulled, Offered, pulled_len}
use Rattle.daide_io.specs.Streams.{StreamCall}
use Rattle.daide_buffered_io.specs.Buffers.{Passes, ReadsNothing}
use Rattle.daide_buffered_io.specs.Taking.{bytes_taken}
use Rattle.daide_buffered_io.proofs.BufferLemmas.{same_passes}
use Rattle.daide_buffered_io.proofs.StreamLemmas.{pulled_moves, offered_moves}
use Rattle.daide_sockets.specs.declared.ports.SocketPorts.{SocketPorts}
use Rattle.daide_sockets.specs.declared.socket.Socket.{Socket}
use Rattle.daide_sockets.specs.Timers.{FlushesInTime, PortsEvolve, PullsInTime, PutsInTime, SameClock, streams_of, timers_of}
use Rattle.daide_sockets.specs.Wakeups.{IsOffered, IsPulled, StaysUnread}
use Rattle.daide_sockets.proofs.SocketLemmas.{same_in_time, same_unread}

module _ {S : Type 0} (to_give taken : S → Option (List ℕ)) (calls : S → Option (List StreamCall)) where
  -- a socket that a call does not name: at most what is held for it is written
  pub record IsBeside (reading : Option Instant) (old new : Socket S) : Type 0 where
    pub passes : Passes to_give taken old.stream [] [] new.stream
    pub unread : ReadsNothing to_give old.stream new.stream
    pub stays : StaysUnread calls old new
    pub in_time : FlushesInTime reading old new

  pub same_beside : (reading : Option Instant) (socket : Socket S) → IsBeside reading socket socket
  same_beside reading socket = record {
    passes = same_passes to_give taken socket.stream;
    unread = record { read_buffer = refl; gives = refl };
    stays = same_unread calls socket;
    in_time = same_in_time reading socket;
  }

  module _ (old : SocketPorts S) (new : PerSide (Socket S)) where
    same_clock : SameClock (timers_of old) (timers_of (record old { sides = new }))
    same_clock = record { reading = refl; im_due = refl; idle_time = refl; im_timer_expired = refl; stops = refl }

    pub pulled_ports : (side : Side) (room : ℕ) (pull : Pull) (bytes : List ℕ) →
        Passes to_give taken (at old.sides side).stream (take (pulled_len pull) bytes) [] (at new side).stream →
        IsPulled room pull (at old.sides side) (at new side) →
        PullsInTime old.idle.reading old.idle.time pull (at old.sides side) (at new side) →
        IsBeside old.idle.reading (at old.sides (other side)) (at new (other side)) →
        PortsEvolve to_give taken calls old (Pulled side room pull (take (pulled_len pull) bytes)) (record old { sides = new })
    pulled_ports Bot room pull bytes passes pulled in_time beside = (
      pulled_moves to_give taken (streams_of old) (streams_of (record old { sides = new })) Bot room pull bytes passes beside.passes
          beside.unread,
      (pulled, beside.stays),
      (same_clock, in_time, beside.in_time),
    )
    pulled_ports Server room pull bytes passes pulled in_time beside = (
      pulled_moves to_give taken (streams_of old) (streams_of (record old { sides = new })) Server room pull bytes passes beside.passes
          beside.unread,
      (pulled, beside.stays),
      (same_clock, in_time, beside.in_time),
    )

    pub offered_ports : (side : Side) (bytes : List ℕ) (answer : Put) →
        Passes to_give taken (at old.sides side).stream [] (bytes_taken answer bytes) (at new side).stream →
        IsOffered calls bytes answer (at old.sides side) (at new side) →
        PutsInTime old.idle.reading bytes answer (at old.sides side) (at new side) →
        IsBeside old.idle.reading (at old.sides (other side)) (at new (other side)) →
        PortsEvolve to_give taken calls old (Offered side bytes answer) (record old { sides = new })
    offered_ports Bot bytes answer passes offered in_time beside = (
      offered_moves to_give taken (streams_of old) (streams_of (record old { sides = new })) Bot bytes answer passes beside.passes
          beside.unread,
      (offered, beside.stays),
      (same_clock, in_time, beside.in_time),
    )
    offered_ports Server bytes answer passes offered in_time beside = (
      offered_moves to_give taken (streams_of old) (streams_of (record old { sides = new })) Server bytes answer passes beside.passes
          beside.unread,
      (offered, beside.stays),
      (same_clock, in_time, beside.in_time),
    )
