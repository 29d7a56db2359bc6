-- How long a place that has something to do waits for its visit, whatever the other sessions do. (own)
use Rattle.std.specs.Prelude.{◌≡◌, ℕ, ◌+◌, ◌<◌, ◌≤◌, ◌⊎◌, List, Contains, Some, slice_get}
use Rattle.daide_io.specs.Ports.{PortCall}
use Rattle.daide_io.specs.System.{SystemCall, BeginsTurn}
use Rattle.daide_event_loop.specs.Served.{sum_over_calls}
use Rattle.daide_event_loop.specs.Serving.{ServiceView, Round, polled, round_turns}

-- 1 if the call begins a turn
abbrev pub turn_calls : {P : Type 0} → SystemCall P → ℕ
turn_calls (BeginsTurn place account before after) = 1
turn_calls _ = 0

-- the calls of a round begin at most 32 turns
abbrev pub RoundsAreShort : {P : Type 0} → (P → PortCall → P → Type 0) → Type 0
RoundsAreShort {P} transition = (old new : ServiceView P) (trace : List (SystemCall P)) →
    Round transition old trace new → sum_over_calls turn_calls trace ≤ round_turns

-- a place is in a list, and this many places are before it
abbrev pub IsBehind : List ℕ → ℕ → ℕ → Type 0
IsBehind places count place = slice_get places count ≡ Some place

-- A place that was at rest and is behind k others after the poll of a round is visited in the round, or has at least three
-- fewer before it then. One that had turns before is visited in the round, or has at least one fewer before it.
pub record Advances {P : Type 0} (transition : P → PortCall → P → Type 0) (old new : ServiceView P) (trace : List (SystemCall P))
    (round : Round transition old trace new) (place k : ℕ) : Type 0 where
  pub fresh : IsBehind (polled round.woken round.orders old).ready.fresh k place →
      Contains round.visits.visited place ⊎ ((left : ℕ) × (left + 3 ≤ k) × IsBehind new.ready.fresh left place)
  pub moving : IsBehind (polled round.woken round.orders old).ready.moving k place →
      Contains round.visits.visited place ⊎ ((left : ℕ) × (left < k) × IsBehind new.ready.moving left place)

abbrev pub ReadyPlacesAdvance : {P : Type 0} → (P → PortCall → P → Type 0) → Type 0
ReadyPlacesAdvance {P} transition = (old new : ServiceView P) (trace : List (SystemCall P)) →
    (round : Round transition old trace new) → (place k : ℕ) → Advances transition old new trace round place k
