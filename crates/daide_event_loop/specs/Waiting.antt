-- What a run knows of the places that are not in its queue. The last turn of a session made no progress, the system found
-- nothing that may be done at once for its ports, no call was made on them since, and no poll woke the place since. A
-- connect had no result. (own)
use Rattle.std.specs.Prelude.{◌≡◌, ℕ, suc, ◌<◌, ◌⊎◌, ◌++◌, min, true, false, List, [], ◌∷◌, length, Contains, All, IfSome, Some, None, slice_get}
use Rattle.daide_frame.specs.declared.side.Side.{Side}
use Rattle.daide_protocol.specs.Wires.{SessionView, queued, front_of, room_of, no_frame}
use Rattle.daide_io.specs.declared.ports.ClockEvent.TheVariants.{NoEvent}
use Rattle.daide_io.specs.declared.ports.Pull.{Pull}
use Rattle.daide_io.specs.declared.ports.Pull.TheVariants.{Got, Idle}
use Rattle.daide_io.specs.declared.ports.Put.TheVariants.{Took}
use Rattle.daide_io.specs.Ports.{PortCall, TurnBegins, Clock, Pulled, Offered, EvolvesBy}
use Rattle.daide_io.specs.ReadyQueue.{is_queued}
use Rattle.daide_io.specs.declared.system.Connect.TheVariants.{Pending}
use Rattle.daide_io.specs.System.{SystemCall, Accepts, Connects, Rests, last_about}
use Rattle.daide_driver.specs.declared.place.SlabPlace.{SlabPlace}
use Rattle.daide_driver.specs.declared.place.SlabPlace.TheVariants.{Free, Kept, Held}
use Rattle.daide_driver.specs.Slab.{SlotView, IsAt}
use Rattle.daide_driver.specs.Turn.{Turn, most_pulled}
use Rattle.daide_settings.specs.declared.settings.Settings.{Settings}
use Rattle.daide_event_loop.specs.Serving.{ServiceView, Rounds, initial_service, is_queue_empty, have_all_come}

-- ---- a turn without progress

-- a call without progress: the clock reported nothing; a pull returned neither a byte nor an end; a put took no byte,
-- and did not fail
abbrev pub MakesNoProgress : PortCall → Type 0
MakesNoProgress TurnBegins = Unit {0}
MakesNoProgress (Clock event) = event ≡ NoEvent
MakesNoProgress (Pulled side buffer pull bytes) = (pull ≡ Idle) ⊎ (pull ≡ Got 0)
MakesNoProgress (Offered side bytes put) = put ≡ Took 0

-- a call that a turn makes after it began: a pull has room, and a put has some bytes
abbrev pub IsOfTurn : PortCall → Type 0
IsOfTurn TurnBegins = ⊥
IsOfTurn (Clock event) = Unit {0}
IsOfTurn (Pulled side room pull bytes) = 0 < room
IsOfTurn (Offered side bytes put) = 0 < length bytes

-- if the session has room for bytes from a side, one of these calls pulled from the side
abbrev pub PullsIfRoom : Side → SessionView → List PortCall → Type 0
PullsIfRoom side session calls = 0 < room_of session side →
    (pull : Pull) × (bytes : List ℕ) × Contains calls (Pulled side (min (room_of session side) most_pulled) pull bytes)

-- if bytes are queued for a side, one of these calls offered their front, and none were taken
abbrev pub OffersIfQueued : Side → SessionView → List PortCall → Type 0
OffersIfQueued side session calls = no_frame (queued session side) ≡ false →
    Contains calls (Offered side (front_of session side) (Took 0))

-- The last turn of a session made no progress. It began with these ports, and by its calls they came to their present
-- value. The clock reported nothing. Each side for whose bytes the session has room was pulled, and returned none. To
-- each side for which bytes are queued the front was offered, and none were taken.
pub record IsIdleSession {P : Type 0} (transition : P → PortCall → P → Type 0)
    (place : SlotView P) : Type 0 where
  pub session : SessionView
  pub ports : P
  pub begun : P
  pub turn : List PortCall
  pub runs : Turn session turn place.session
  pub begins : transition ports TurnBegins begun
  pub evolves : EvolvesBy transition begun turn place.ports
  pub made : All IsOfTurn turn
  pub still : All MakesNoProgress turn
  pub clock : Contains turn (Clock NoEvent)
  pub pulled : (side : Side) → PullsIfRoom side place.session turn
  pub offered : (side : Side) → OffersIfQueued side place.session turn

-- ---- rest

-- What is at a place rests after these calls of a run. Of a session, the last turn made no progress. Of a connect, the
-- system had no result. The last call about the place said so: no poll has woken it since, and no call was made for it.
abbrev pub IsAtRest : {P : Type 0} → (P → PortCall → P → Type 0) → List (SystemCall P) → ℕ →
    SlabPlace (SlotView P) → Type 0
IsAtRest transition calls place Free = Unit {0}
IsAtRest transition calls place Kept = last_about place None calls ≡ Some (Connects place Pending)
IsAtRest transition calls place (Held item) = IsIdleSession transition item
    × (last_about place None calls ≡ Some (Rests place item.ports true))

-- The invariant of a run: after these calls, each place that is used and not in the queue is at rest.
abbrev pub RestsUnlessQueued : {P : Type 0} → (P → PortCall → P → Type 0) → List (SystemCall P) → ServiceView P → Type 0
RestsUnlessQueued transition calls run = (place : ℕ) → is_queued run.ready place ≡ false →
    IfSome (slice_get run.slab.places place) (IsAtRest transition calls place)

-- After any rounds, each place that is used and not in the queue is at rest. A poll may block only if the queue is empty
-- (`Round`), so at such a poll each used place is at rest.
abbrev pub RestingSessionsAreIdle : {P : Type 0} → (P → PortCall → P → Type 0) → Type 0
RestingSessionsAreIdle {P} transition = (settings : Settings) (n : ℕ) (calls : List (SystemCall P)) (run : ServiceView P) →
    Rounds transition n (initial_service settings) calls run → RestsUnlessQueued transition calls run

-- ---- a poll that may block

-- After any rounds but none, a run with nothing to visit, whose next poll may block: if one more bot may be accepted, the
-- last call asked for one, and none came.
abbrev pub NoBotIsLeftOut : {P : Type 0} → (P → PortCall → P → Type 0) → Type 0
NoBotIsLeftOut {P} transition = (settings : Settings) (n : ℕ) (calls : List (SystemCall P)) (run : ServiceView P) →
    Rounds transition (suc n) (initial_service settings) calls run → is_queue_empty run ≡ true → have_all_come run.counters ≡ false →
    (place : ℕ) → IsAt run.slab place Free →
    (before : List (SystemCall P)) × (asked : ℕ) × (calls ≡ before ++ Accepts asked false ∷ [])
