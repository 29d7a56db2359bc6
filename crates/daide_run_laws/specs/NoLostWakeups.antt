-- No wake-up is lost: what each session of a run over sockets waits for while a poll may block. (own)
use Rattle.std.specs.Prelude.{◌≡◌, ℕ, suc, ◌-◌, ◌<◌, Bool, true, false, List, [], ◌∷◌, length, Option, Some}
use Rattle.std.specs.Time.{instant_nanos}
use Rattle.std.specs.declared.time.Duration.{Duration}
use Rattle.std.specs.declared.time.Instant.{Instant}
use Rattle.daide_frame.specs.declared.side.Side.{Side}
use Rattle.daide_protocol.specs.Wires.{SessionView, queued, room_of, no_frame}
use Rattle.daide_io.specs.Network.{NetworkCall}
use Rattle.daide_io.specs.Ports.{PortCall}
use Rattle.daide_io.specs.Streams.{StreamCall}
use Rattle.daide_io.specs.System.{SystemCall, Polls, TransitsBy}
use Rattle.daide_io.specs.declared.system.Orders.{Orders}
use Rattle.daide_driver.specs.declared.place.SlabPlace.{SlabPlace}
use Rattle.daide_driver.specs.declared.place.SlabPlace.TheVariants.{Free}
use Rattle.daide_driver.specs.Slab.{SlotView, IfHeldAt, IsAt}
use Rattle.daide_settings.specs.declared.settings.Settings.{Settings}
use Rattle.daide_event_loop.specs.Serving.{ServiceView, Round, Rounds, initial_service, have_all_come}
use Rattle.daide_sockets.specs.Clock.{IsAtMost}
use Rattle.daide_sockets.specs.Lingering.{IsWriting}
use Rattle.daide_sockets.specs.Scheduling.{RunState, Schedules, AwaitsBots}
use Rattle.daide_sockets.specs.Table.{Table, is_reported_at, key_of}
use Rattle.daide_sockets.specs.Timers.{SessionTimers}
use Rattle.daide_sockets.specs.Wakeups.{SessionSockets, Wakes, PollsForPlaces, session_due, socket_at}

-- The session at a place sleeps while the network is polled for this time. Nothing that was reported of its sockets is left.
-- A side for whose bytes it has room is not readable, and nothing was read ahead. A side for which frames are queued, or bytes
-- buffered, is not writable. The poll ends by the session's nearest deadline.
pub record Sleeps {S : Type 0} (table : Table) (time : Option Duration) (place : ℕ) (session : SessionView)
    (sockets : SessionSockets S) : Type 0 where
  pub reported : (side : Side) → is_reported_at table (key_of place side) ≡ false
  pub read : (side : Side) → 0 < room_of session side →
      ((socket_at sockets side).readiness.may_read ≡ false) × ((socket_at sockets side).stream.read_buffer ≡ [])
  pub written : (side : Side) → no_frame (queued session side) ≡ false →
      (socket_at sockets side).readiness.may_write ≡ false
  pub flushed : (side : Side) → IsWriting (socket_at sockets side).stream →
      (socket_at sockets side).readiness.may_write ≡ false
  pub in_time : (now due : Instant) → table.reading ≡ Some now → session_due sockets ≡ Some due →
      IsAtMost time (instant_nanos due - instant_nanos now)

-- The network is polled once, for the time of a poll that watches others beside the places. Each session sleeps.
pub record PollsAsleep {P S N C : Type 0} (transition : N → NetworkCall C → N → Type 0) (view : P → SessionSockets S)
    (places : List (SlabPlace (SlotView P))) (woken : List ℕ) (old new : N × Table) : Type 0 where
  pub others : List (Bool × Option Instant)
  pub polls : PollsForPlaces transition others true woken old.0 old.1 new.0 new.1
  pub asleep : (place : ℕ) → IfHeldAt places place (λ item. Sleeps old.1 polls.time place item.session (view item.ports))

-- Each poll of a run over sockets that may block polls asleep. A table has a deadline for each place. `view` is the content
-- of ports.
abbrev pub NoWakeupIsLost : {P S N C : Type 0} → (P → PortCall → P → Type 0) → (P → SessionSockets S) →
    (S → Option (List StreamCall)) → (N → NetworkCall C → N → Type 0) → Type 0
NoWakeupIsLost {P} {S} {N} port_transition view calls transition = (settings : Settings) (n : ℕ)
    (before others : List (SystemCall P)) (woken : List ℕ) (orders : Orders) (run next : ServiceView P)
    (first old new : N × Table) → Rounds port_transition n (initial_service settings) before run →
    Round port_transition run (Polls true woken orders ∷ others) next → length first.1.deadlines ≡ settings.max_sessions →
    TransitsBy (Wakes transition calls view) first before old → Wakes transition calls view old (Polls true woken orders) new →
    PollsAsleep transition view run.slab.places woken old new

-- Take a poll of a run over sockets that may block, after one round or more, while one more bot may be accepted and a place is
-- free. The poll takes no time while an accept is due; `timers` is the content of ports.
abbrev pub NoBotWaits : {P S N C : Type 0} → (P → PortCall → P → Type 0) → (P → SessionTimers S) →
    (N → NetworkCall C → N → Type 0) → Type 0
NoBotWaits {P} {S} {N} port_transition timers transition = (settings : Settings) (n : ℕ)
    (before others : List (SystemCall P)) (woken : List ℕ) (orders : Orders) (run next : ServiceView P) (place : ℕ)
    (first old new : RunState N S) → Rounds port_transition (suc n) (initial_service settings) before run →
    have_all_come run.counters ≡ false → IsAt run.slab place Free →
    Round port_transition run (Polls true woken orders ∷ others) next →
    TransitsBy (Schedules transition timers) first before old →
    Schedules transition timers old (Polls true woken orders) new → AwaitsBots transition true woken old new
