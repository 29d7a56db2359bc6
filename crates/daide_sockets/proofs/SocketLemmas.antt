-- A socket of which nothing was called, and sockets with which a session begins.
use Rattle.std.proofs.Common.{◌≡◌, List, [], Option, None, refl, inl, arith}
use Rattle.std.specs.declared.time.Duration.{Duration}
use Rattle.std.specs.declared.time.Instant.{Instant}
use Rattle.daide_frame.specs.declared.side.Side.{Side}
use Rattle.daide_frame.proofs.PerSideLemmas.{on_both}
use Rattle.daide_io.specs.Streams.{StreamCall}
use Rattle.daide_sockets.specs.Clock.{IsStallEnd}
use Rattle.daide_buffered_io.specs.declared.readiness.Readiness.{Readiness}
use Rattle.daide_sockets.specs.declared.socket.Socket.{Socket}
use Rattle.daide_sockets.specs.Timers.{SessionTimers, BeginsAt, BeginsInTime, FlushesInTime}
use Rattle.daide_sockets.specs.Wakeups.{StaysUnread, socket_at}

pub same_unread : {S : Type 0} (calls : S → Option (List StreamCall)) (socket : Socket S) →
    StaysUnread calls socket socket
same_unread calls socket = record {
  key = refl;
  may_read = refl;
  ahead = refl;
  full = λ h. h;
  writes = ([], (refl, refl));
  tries_again = λ h. h;
}

pub same_in_time : {S : Type 0} (reading : Option Instant) (socket : Socket S) → FlushesInTime reading socket socket
same_in_time reading socket = record {
  kept = record { stall_time = refl; silent_from = refl; stall = inl refl; failed = λ h. (h, inl refl) };
  stall = record {
    restarts = λ writing less. absurd (omega (arith, less));
    goes_on = λ works same moment e. e;
    ends = λ writing over. grind (arith, writing, over);
    rests = λ over. inl refl;
  };
  full = λ h moment e. e;
}

-- a turn begins after a report was taken, which changes no timeout
pub reported_begins : {S : Type 0} (reading : Option Instant) (known : Readiness) (old new : Socket S) →
    BeginsInTime reading (record old { readiness = known }) new → BeginsInTime reading old new
reported_begins reading known old new h = record {
  kept = record {
    stall_time = h.kept.stall_time;
    silent_from = h.kept.silent_from;
    stall = h.kept.stall;
    failed = h.kept.failed;
  };
  stall = record { restarts = h.stall.restarts; goes_on = h.stall.goes_on; ends = h.stall.ends; rests = h.stall.rests };
  gives_up = h.gives_up;
  goes_on = h.goes_on;
}

-- a session begins with these sockets
module _ {S : Type 0} (start : Option Instant) (times : Option Duration × Option Duration) (session : SessionTimers S) where
  pub begins_so : session.sockets.reading ≡ start → session.idle_time ≡ times.0 →
      session.sockets.sides.bot.stall_time ≡ times.1 → session.sockets.sides.server.stall_time ≡ times.1 →
      IsStallEnd start times.0 session.sockets.sides.bot.silent_from →
      IsStallEnd start times.0 session.sockets.sides.server.silent_from →
      session.sockets.sides.bot.stalls_at ≡ None → session.sockets.sides.server.stalls_at ≡ None →
      BeginsAt start times session
  begins_so reading idle_time bot_time server_time bot_silent server_silent bot_stalls server_stalls = record {
    reading = reading;
    idle_time = idle_time;
    stall_time = on_both (λ (side : Side). (socket_at session.sockets side).stall_time ≡ times.1) bot_time server_time;
    silent_from = on_both (λ (side : Side). IsStallEnd start times.0 (socket_at session.sockets side).silent_from)
        bot_silent server_silent;
    stalls_at = on_both (λ (side : Side). (socket_at session.sockets side).stalls_at ≡ None) bot_stalls server_stalls;
  }
