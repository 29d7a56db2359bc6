-- Every place is freed: the deadline that each session of a run over sockets has while a poll may block, the visit that it
-- has once the deadline is past, and how often its deadlines can pass. (own)
use Rattle.std.specs.Prelude.{◌≡◌, ◌≢◌, ◌≤◌, ◌<◌, ◌⊎◌, ℕ, ◌+◌, ◌-◌, ◌++◌, ◌||◌, ◌&&◌, not, nat_lt, max, Bool, true, false, List, [], ◌∷◌, length}
use Rattle.std.specs.Prelude.{Option, Some, is_some}
use Rattle.std.specs.Duration.{as_nanos}
use Rattle.std.specs.Time.{instant_nanos, FitsClock}
use Rattle.std.specs.declared.time.Duration.{Duration}
use Rattle.std.specs.declared.time.Instant.{Instant}
use Rattle.daide_frame.specs.declared.side.Side.{Side}
use Rattle.daide_frame.specs.Side.{same_side}
use Rattle.daide_io.specs.ReadyQueue.{one_if, is_among, is_queued}
use Rattle.daide_io.specs.declared.ports.Put.TheVariants.{Took}
use Rattle.daide_io.specs.Network.{NetworkCall}
use Rattle.daide_io.specs.Ports.{PortCall, TurnBegins, Clock, Pulled, Offered, EvolvesBy}
use Rattle.daide_io.specs.Streams.{StreamCall}
use Rattle.daide_io.specs.System.{SystemCall, Polls, TransitsBy}
use Rattle.daide_io.specs.declared.system.Orders.{Orders}
use Rattle.daide_driver.specs.Slab.{SlotView, IfHeldAt}
use Rattle.daide_settings.specs.declared.settings.Settings.{Settings}
use Rattle.daide_event_loop.specs.Serving.{ServiceView, Round, Rounds, initial_service}
use Rattle.daide_event_loop.specs.Served.{IsServed}
use Rattle.daide_sockets.specs.declared.socket.Socket.{Socket}
use Rattle.daide_sockets.specs.Clock.{IsAtMost, due_after, IsSeconds, IsIdleTime, is_past}
use Rattle.daide_sockets.specs.Table.{Table}
use Rattle.daide_sockets.specs.Scheduling.{RunState, Schedules}
use Rattle.daide_sockets.specs.Timers.{SessionTimers, is_got}
use Rattle.daide_sockets.specs.Wakeups.{Wakes, PollsForPlaces, session_due, socket_at}

-- ---- the premises

-- both timeouts of a session's peers are set to these times
pub record HasTimeouts {S : Type 0} (idle stall : Duration) (session : SessionTimers S) : Type 0 where
  pub idle_time : session.idle_time ≡ Some idle
  pub idle_lasts : 0 < as_nanos idle
  pub stall_time : (side : Side) → (socket_at session.sockets side).stall_time ≡ Some stall

-- a reading of the clock after which both timeouts are within the clock's range
pub record IsReading (idle stall : Duration) (reading : Option Instant) (now : Instant) : Type 0 where
  pub read : reading ≡ Some now
  pub idle_fits : FitsClock (instant_nanos now + as_nanos idle)
  pub stall_fits : FitsClock (instant_nanos now + as_nanos stall)

-- the timeouts of a run's peers are those of its settings
abbrev pub AreTimesOf : Settings → Option Duration × Option Duration → Type 0
AreTimesOf settings times = IsIdleTime settings.idle_seconds times.0 × IsIdleTime settings.stall_seconds times.1

-- a reading of the clock that is not before another
pub record IsLater (idle stall : Duration) (reading later : Option Instant) : Type 0 where
  pub before : Instant
  pub now : Instant
  pub was : reading ≡ Some before
  pub is : IsReading idle stall later now
  pub order : instant_nanos before ≤ instant_nanos now

-- ---- at a poll

-- The session has a nearest deadline, at most the longer of its timeouts after the reading at which its last turn began.
-- A poll for this time ends by it.
pub record HasDeadline {S : Type 0} (idle stall : Duration) (table : Table) (time : Option Duration)
    (session : SessionTimers S) : Type 0 where
  pub due : Instant
  pub now : Instant
  pub is : session_due session.sockets ≡ Some due
  pub reading : session.sockets.reading ≡ Some now
  pub within : instant_nanos due ≤ instant_nanos now + max (as_nanos idle) (as_nanos stall)
  pub ends : (at : Instant) → table.reading ≡ Some at → IsAtMost time (instant_nanos due - instant_nanos at)

-- ---- without a byte

-- how many bytes are held for a socket's peer
abbrev pub held_len : {S : Type 0} → Socket S → ℕ
held_len socket = length socket.stream.write_buffer

-- a call of the ports moves no byte of a side's peer, though it may move some of the other's
abbrev pub MovesNoByte : Side → PortCall → Type 0
MovesNoByte side TurnBegins = Unit {0}
MovesNoByte side (Clock event) = Unit {0}
MovesNoByte side (Pulled from room pull bytes) = same_side from side ≡ true → is_got pull ≡ false
MovesNoByte side (Offered to bytes put) = same_side to side ≡ true → (put ≡ Took 0) × (0 < length bytes)

-- the timeouts of a peer stay: the moment at which its silence is over; and that of a stall timeout that runs, unless the
-- wire failed
pub record KeepsTimeouts {S : Type 0} (old new : Socket S) : Type 0 where
  pub silence : new.silent_from ≡ old.silent_from
  pub stall : (moment : Instant) → old.stalls_at ≡ Some moment →
      (new.stalls_at ≡ Some moment) ⊎ (new.stream.has_failed ≡ true)

-- ---- what is left

-- A peer's stall timeout is over at this reading of the clock, and it took a byte of what was held for it.
abbrev pub takes_late : {S : Type 0} → Option Instant → Socket S → Socket S → Bool
takes_late reading old new = is_past reading old.stalls_at && nat_lt (held_len new) (held_len old)

-- The timeouts that are left of a socket's peer after a turn at this reading: of its silence, if that is not over; and of
-- a stall, unless the peer is given up.
abbrev pub peer_timeouts_left : {S : Type 0} → Option Instant → Socket S → ℕ
peer_timeouts_left reading socket = one_if (is_some (due_after reading socket.silent_from))
    + one_if (not socket.stream.has_failed || is_some socket.stalls_at)

-- The timeouts that are left of a session, at most five: two of each peer, and the one of the initial message.
abbrev pub timeouts_left : {S : Type 0} → SessionTimers S → ℕ
timeouts_left session = peer_timeouts_left session.sockets.reading session.sockets.sides.bot
    + peer_timeouts_left session.sockets.reading session.sockets.sides.server + one_if (is_some session.sockets.im_due)

-- how many pulls returned bytes of a peer
abbrev pub deliveries : List PortCall → ℕ
deliveries [] = 0
deliveries (TurnBegins ∷ calls) = deliveries calls
deliveries (Clock event ∷ calls) = deliveries calls
deliveries (Pulled side room pull bytes ∷ calls) = one_if (is_got pull) + deliveries calls
deliveries (Offered side bytes put ∷ calls) = deliveries calls

-- ---- a run

module _ {P S : Type 0} (transition : P → PortCall → P → Type 0) (timers : P → SessionTimers S) where
  -- The premise about the clock: by these calls each turn of the session begins at a reading that is not before the one of
  -- the turn before. How long a turn or a pause between two takes is open.
  abbrev pub ClockGoesOn : Duration → Duration → (calls : List PortCall) → (old new : P) →
      EvolvesBy transition old calls new → Type 0
  ClockGoesOn idle stall [] old new by = Unit {0}
  ClockGoesOn idle stall (TurnBegins ∷ calls) old new by =
      IsLater idle stall (timers old).sockets.reading (timers by.0).sockets.reading
      × ClockGoesOn idle stall calls by.0 new by.2
  ClockGoesOn idle stall (Clock event ∷ calls) old new by = ClockGoesOn idle stall calls by.0 new by.2
  ClockGoesOn idle stall (Pulled side room pull bytes ∷ calls) old new by = ClockGoesOn idle stall calls by.0 new by.2
  ClockGoesOn idle stall (Offered side bytes put ∷ calls) old new by = ClockGoesOn idle stall calls by.0 new by.2

  -- a session of a run that began at a reading of the clock, while the clock goes on
  pub record IsTimed (settings : Settings) (trace : List (SystemCall P)) (idle stall : Duration)
      (place : SlotView P) : Type 0 where
    pub session : IsServed transition settings trace place
    pub start : Instant
    pub begun : IsReading idle stall (timers session.ports).sockets.reading start
    pub clock : ClockGoesOn idle stall session.history session.ports place.ports session.answered

  -- A session of a run had ports of this value, and came from there to its present value by these calls.
  pub record CameFrom (settings : Settings) (trace : List (SystemCall P)) (mid : P) (late : List PortCall)
      (place : SlotView P) : Type 0 where
    pub session : IsServed transition settings trace place
    pub early : List PortCall
    pub history : session.history ≡ early ++ late
    pub before : EvolvesBy transition session.ports early mid
    pub since : EvolvesBy transition mid late place.ports

  -- ---- a poll

  -- The network is polled once, for the time of a poll that watches others beside the places. If it may block, each
  -- session, while the clock goes on, has a deadline, by the timeouts of the settings. Each session that rests while its
  -- deadline is past at the reading of this poll is woken.
  pub record PollsByDeadlines {N C : Type 0} (network : N → NetworkCall C → N → Type 0) (settings : Settings)
      (calls : List (SystemCall P)) (run : ServiceView P) (may_block : Bool) (woken : List ℕ) (old new : N × Table) : Type 0 where
    pub idle : Duration
    pub stall : Duration
    pub idle_lasts : IsSeconds settings.idle_seconds idle
    pub stall_lasts : IsSeconds settings.stall_seconds stall
    pub others : List (Bool × Option Instant)
    pub polls : PollsForPlaces network others may_block woken old.0 old.1 new.0 new.1
    pub deadlines : may_block ≡ true → (place : ℕ) → IfHeldAt run.slab.places place (λ item.
        IsTimed settings calls idle stall item → HasDeadline idle stall old.1 polls.time (timers item.ports))
    pub late : (place : ℕ) → is_queued run.ready place ≡ false → IfHeldAt run.slab.places place (λ item.
        is_past new.1.reading (session_due (timers item.ports).sockets) ≡ true → is_among place woken ≡ true)

  -- Each poll of a run over sockets, whose settings have both timeouts, is made by deadlines. Its sockets began with the
  -- timeouts of the settings, and a table has a deadline for each place.
  abbrev pub NoSessionWaitsForEver : {N C : Type 0} → (S → Option (List StreamCall)) → (N → NetworkCall C → N → Type 0) → Type 0
  NoSessionWaitsForEver {N} calls network = (settings : Settings) (n : ℕ) (before others : List (SystemCall P))
      (may_block : Bool) (woken : List ℕ) (orders : Orders) (run next : ServiceView P) (first old new : N × Table)
      (begun last : RunState N S) → settings.idle_seconds ≢ 0 → settings.stall_seconds ≢ 0 → AreTimesOf settings begun.times →
      Rounds transition n (initial_service settings) before run →
      Round transition run (Polls may_block woken orders ∷ others) next → length first.1.deadlines ≡ settings.max_sessions →
      TransitsBy (Schedules network timers) begun before last →
      TransitsBy (Wakes network calls (λ ports. (timers ports).sockets)) first before old →
      Wakes network calls (λ ports. (timers ports).sockets) old (Polls may_block woken orders) new →
      PollsByDeadlines network settings before run may_block woken old new

  -- ---- turns without a byte

  -- By these calls no byte comes from the peer of a side or goes to it: no pull of the side returns one, a put to it takes
  -- none of some, and what is held for it stays held.
  abbrev pub IsQuietFor : Side → (calls : List PortCall) → (old new : P) →
      EvolvesBy transition old calls new → Type 0
  IsQuietFor side [] old new by = Unit {0}
  IsQuietFor side (call ∷ calls) old new by = MovesNoByte side call
      × (held_len (socket_at (timers by.0).sockets side) ≡ held_len (socket_at (timers old).sockets side))
      × IsQuietFor side calls by.0 new by.2

  -- Take a session of a run, from any of its calls on. While no byte comes from a side's peer or goes to it, its silence
  -- is over when it was to be over, and a stall timeout that runs expires when it was to expire, unless the wire fails.
  abbrev pub TimeoutsStay : Type 0
  TimeoutsStay = (settings : Settings) (trace : List (SystemCall P)) (mid : P) (late : List PortCall)
      (place : SlotView P) (side : Side) → (from : CameFrom settings trace mid late place) →
      IsQuietFor side late mid place.ports from.since →
      KeepsTimeouts (socket_at (timers mid).sockets side) (socket_at (timers place.ports).sockets side)

  -- ---- turns beyond a deadline

  -- when a turn began, a peer took a byte of what was held for it, though its stall timeout was over
  abbrev pub has_late_taker : P → P → Bool
  has_late_taker old begun =
      takes_late (timers begun).sockets.reading (timers old).sockets.sides.bot (timers begun).sockets.sides.bot
      || takes_late (timers begun).sockets.reading (timers old).sockets.sides.server (timers begun).sockets.sides.server

  -- A turn began at or past the deadline that its session had, and no peer took a byte late.
  abbrev pub is_overdue : P → P → Bool
  is_overdue old begun =
      is_past (timers begun).sockets.reading (session_due (timers old).sockets) && not (has_late_taker old begun)

  -- how many turns began so at or past the session's deadline, by these calls
  abbrev pub overdue_turns : (calls : List PortCall) → (old new : P) →
      EvolvesBy transition old calls new → ℕ
  overdue_turns [] old new by = 0
  overdue_turns (TurnBegins ∷ calls) old new by = one_if (is_overdue old by.0) + overdue_turns calls by.0 new by.2
  overdue_turns (Clock event ∷ calls) old new by = overdue_turns calls by.0 new by.2
  overdue_turns (Pulled side room pull bytes ∷ calls) old new by = overdue_turns calls by.0 new by.2
  overdue_turns (Offered side bytes put ∷ calls) old new by = overdue_turns calls by.0 new by.2

  -- Take a session of a run, from any of its calls on. Each turn that begins at or past its deadline, and at whose beginning
  -- no peer takes a byte late, takes one of the timeouts that are left. Each pull that returns bytes gives back at most one.
  abbrev pub DeadlinesPassSeldom : {N C : Type 0} → (N → NetworkCall C → N → Type 0) → Type 0
  DeadlinesPassSeldom {N} network = (settings : Settings) (trace : List (SystemCall P)) (mid : P)
      (late : List PortCall) (place : SlotView P) (idle stall : Duration) (begun last : RunState N S) →
      (from : CameFrom settings trace mid late place) → TransitsBy (Schedules network timers) begun trace last →
      ClockGoesOn idle stall late mid place.ports from.since →
      (overdue_turns late mid place.ports from.since + timeouts_left (timers place.ports)
      ≤ timeouts_left (timers mid) + deliveries late)
      × (timeouts_left (timers mid) ≤ 5)
