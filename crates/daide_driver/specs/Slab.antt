-- Sessions at places that they keep, each with its ports and its meter: the state of a slab, and the effect of each call on
-- one place. (own)
use Rattle.std.specs.Prelude.{◌≡◌, ◌≤◌, ◌⊎◌, ℕ, zero, suc, Bool, true, false, List, [], ◌∷◌, length, Option, Some, None, slice_get, slice_set}
use Rattle.daide_protocol.specs.Machine.{Limits, is_over}
use Rattle.daide_protocol.specs.Wires.{SessionView, IsNew}
use Rattle.daide_io.specs.Ports.{PortCall, TurnBegins}
use Rattle.daide_driver.specs.declared.meter.Meter.{Meter}
use Rattle.daide_driver.specs.Hub.{IsTurned}
use Rattle.daide_driver.specs.Meter.{new_meter, metered, is_stopped_by, StopsIf}
use Rattle.daide_driver.specs.declared.place.SlabPlace.{SlabPlace}
use Rattle.daide_driver.specs.declared.place.SlabPlace.TheVariants.{Free, Kept, Held}

-- ---- one place

abbrev pub is_free_place : {T : Type 0} → SlabPlace T → Bool
is_free_place Free = true
is_free_place Kept = false
is_free_place (Held item) = false

abbrev pub is_kept : {T : Type 0} → SlabPlace T → Bool
is_kept Free = false
is_kept Kept = true
is_kept (Held item) = false

abbrev pub is_held : {T : Type 0} → SlabPlace T → Bool
is_held Free = false
is_held Kept = false
is_held (Held held) = true

-- the same with another value of what it has
abbrev pub held_as : {T U : Type 0} → (T → U) → SlabPlace T → SlabPlace U
held_as view Free = Free
held_as view Kept = Kept
held_as view (Held held) = Held (view held)

-- ---- places

abbrev pub all_free : {T : Type 0} → ℕ → List (SlabPlace T)
all_free zero = []
all_free (suc count) = Free ∷ all_free count

-- no place is free
abbrev pub IsNoneFree : {T : Type 0} → List (SlabPlace T) → Type 0
IsNoneFree places = (place : ℕ) → slice_get places place ≡ Some Free → ⊥

-- this place is free, or it is none, and no place is free
abbrev pub IsNextFree : {T : Type 0} → List (SlabPlace T) → ℕ → Type 0
IsNextFree places next = (slice_get places next ≡ Some Free) ⊎ ((length places ≤ next) × IsNoneFree places)

abbrev pub is_so : {T : Type 0} → (SlabPlace T → Bool) → Option (SlabPlace T) → Bool
is_so test None = false
is_so test (Some found) = test found

-- whether this is so of a place; not if there is no such place
abbrev pub is_at : {T : Type 0} → (SlabPlace T → Bool) → List (SlabPlace T) → ℕ → Bool
is_at test places place = is_so test (slice_get places place)

-- if there is something at this place, this holds of it
abbrev pub IfHeldAt : {T : Type 0} → List (SlabPlace T) → ℕ → (T → Type 0) → Type 0
IfHeldAt {T} places place Holds = (held : T) → slice_get places place ≡ Some (Held held) → Holds held

-- ---- a slot

-- a session, its ports, and its meter
pub record SlotView (P : Type 0) : Type 0 where
  pub session : SessionView
  pub ports : P
  pub meter : Meter

-- a session with these ports, and a full quota of turns
abbrev pub new_slot : {P : Type 0} → SessionView → P → ℕ → SlotView P
new_slot session ports turns = record { session = session; ports = ports; meter = new_meter turns }

-- the session of a slot is over
abbrev pub is_slot_over : {P : Type 0} → SlotView P → Bool
is_slot_over slot = is_over slot.session.state.phase

-- a turn begins with the lent ports; the session and its meter are unchanged
pub record IsSlotBegun {P : Type 0} (transition : P → PortCall → P → Type 0) (old new : SlotView P) : Type 0 where
  pub session : new.session ≡ old.session
  pub ports : transition old.ports TurnBegins new.ports
  pub meter : new.meter ≡ old.meter

-- A session has one turn with its ports. By the same trace its meter goes on; and the clock stops a session that is open and
-- has no turn left.
pub record IsSlotTurned {P : Type 0} (transition : P → PortCall → P → Type 0) (old new : SlotView P) : Type 0 where
  pub turned : IsTurned transition (old.session, old.ports) (new.session, new.ports)
  pub meter : new.meter ≡ metered (is_slot_over old) turned.exchange.call old.meter
  pub stops : StopsIf (is_stopped_by (is_slot_over old) old.meter) turned.exchange.call

-- ---- a slab

-- the limits of its sessions, and its places, whose number never changes: a place that is held has a session with its ports
-- and its meter
pub record SlabView (P : Type 0) : Type 0 where
  pub limits : Limits
  pub places : List (SlabPlace (SlotView P))

-- this is at a place
abbrev pub IsAt : {P : Type 0} → SlabView P → ℕ → SlabPlace (SlotView P) → Type 0
IsAt slab place now = slice_get slab.places place ≡ Some now

-- the same with something else at one place
abbrev pub with_place : {P : Type 0} → SlabView P → ℕ → SlabPlace (SlotView P) → SlabView P
with_place slab place now = record slab { places = slice_set slab.places place now }

-- the same with other ports at one place; its session and its meter stay
abbrev pub with_ports_in : {P : Type 0} → SlabView P → ℕ → Option (SlabPlace (SlotView P)) → P → SlabView P
with_ports_in slab place None ports = slab
with_ports_in slab place (Some Free) ports = slab
with_ports_in slab place (Some Kept) ports = slab
with_ports_in slab place (Some (Held item)) ports = with_place slab place (Held (record item { ports = ports }))

abbrev pub with_ports_at_place : {P : Type 0} → SlabView P → ℕ → P → SlabView P
with_ports_at_place slab place ports = with_ports_in slab place (slice_get slab.places place) ports

-- ---- calls

-- a session in its opening state is at a place that was kept, with the given ports and a full quota of turns
abbrev pub OpensAt : {P : Type 0} → SlabView P → ℕ → P → ℕ → SlabView P → Type 0
OpensAt old place ports turns new = (opened : SessionView) × IsNew old.limits opened
    × (new ≡ with_place old place (Held (new_slot opened ports turns)))

-- The slot at this place went from one value to another, by a call of this kind; every other place is unchanged.
abbrev pub ChangesAt : {P : Type 0} → (SlotView P → SlotView P → Type 0) → SlabView P → ℕ → SlabView P → Type 0
ChangesAt {P} Kind old place new = (before : SlotView P) × (after : SlotView P) × IsAt old place (Held before)
    × (new ≡ with_place old place (Held after)) × Kind before after
