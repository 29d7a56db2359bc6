-- Many sessions in one loop: the state of a hub, and the effect of each call on one session.
use Rattle.std.specs.Prelude.{◌≡◌, ℕ, ◌+◌, ◌*◌, ◌<◌, ◌≤◌, ◌⊎◌, true, List, [], ◌∷◌, ◌++◌, length}
use Rattle.std.specs.Prelude.{Option, Some, None, Ok, Err, slice_get, slice_set, remove, All}
use Rattle.daide_words.specs.declared.word.Word.{Word}
use Rattle.daide_protocol.specs.Machine.{Limits, ending_in}
use Rattle.daide_protocol.specs.Wires.{SessionView, IsNew, is_closed}
use Rattle.daide_grammar.specs.Bounds.{entries_bound}
use Rattle.daide_protocol.specs.Weight.{queue_bound, weight_of, weight_bound}
use Rattle.daide_protocol.specs.declared.config.Config.{Config}
use Rattle.daide_protocol.specs.declared.ending.Ending.{Ending}
use Rattle.daide_protocol.specs.declared.account.Account.{Account}
use Rattle.daide_driver.specs.declared.hub.AddFault.{AddFault}
use Rattle.daide_driver.specs.declared.hub.AddFault.TheVariants as Faults
use Rattle.daide_driver.specs.declared.hub.HubError.{HubError}
use Rattle.daide_driver.specs.declared.hub.HubError.TheVariants as Errors
use Rattle.daide_protocol.specs.Bounds.{most_sessions, IsSessionCount}
use Rattle.daide_protocol.specs.Config.{config_fault}
use Rattle.daide_protocol.specs.Config.{limits_with}
use Rattle.daide_io.specs.declared.fault_field.FaultField.{FaultField}
use Rattle.daide_io.specs.FaultField.{fault_field_of}
use Rattle.daide_io.specs.Ports.{PortCall, TurnBegins}
use Rattle.daide_driver.specs.Record.{EvolveTogether}
use Rattle.daide_driver.specs.Turn.{AsksAtMost, turn_steps}
use Rattle.daide_driver.specs.Whole.{WholeTurn}

-- the state of a hub: the limits of its sessions, the maximum number of them, and at each place a session and its ports
pub record HubView (P : Type 0) : Type 0 where
  pub limits : Limits
  pub max : ℕ
  pub places : List (SessionView × P)

-- the same with other places
abbrev pub with_places : {P : Type 0} → HubView P → List (SessionView × P) → HubView P
with_places hub places = record { limits = hub.limits; max = hub.max; places = places }

-- the same with other ports at one place; its session stays
abbrev pub with_ports_at : {P : Type 0} → HubView P → ℕ → Option (SessionView × P) → P → HubView P
with_ports_at hub i None ports = hub
with_ports_at hub i (Some place) ports = with_places hub (slice_set hub.places i (place.0, ports))

abbrev pub with_ports : {P : Type 0} → HubView P → ℕ → P → HubView P
with_ports hub i ports = with_ports_at hub i (slice_get hub.places i) ports

-- the invariant of a hub between calls; `seen` returns the session at a place
pub record IsHubSession {X : Type 0} (seen : X → SessionView) (config : Config) (words : List Word) (max capacity : ℕ)
    (items : List X) : Type 0 where
  pub size : IsSessionCount max
  pub fits : length items ≤ max
  pub room : max ≤ capacity
  pub same_limits : All (λ x. (seen x).state.limits ≡ limits_with config words) items

-- ---- refusals

-- The limits are checked first, then the number of sessions. Memory is requested only if both are right; the error is
-- then that the allocator refused the places. `Refuses` is the allocator's relation of that name.
abbrev pub IsHubCause : (ℕ → Type 0) → Config → ℕ → HubError → Type 0
IsHubCause Refuses config max (Errors.Config fault) = config_fault config ≡ Err fault
IsHubCause Refuses config max Errors.Sessions = (config_fault config ≡ Ok tt) × ((max ≡ 0) ⊎ (most_sessions < max))
IsHubCause Refuses config max Errors.Memory = (config_fault config ≡ Ok tt) × IsSessionCount max × Refuses max

-- A session is refused if the hub is full. Memory is requested only if it is not; the fault is then that the allocator
-- refused a body of the longest length.
abbrev pub IsAddCause : {P : Type 0} → (ℕ → Type 0) → HubView P → AddFault → Type 0
IsAddCause Refuses hub Faults.Full = length hub.places ≡ hub.max
IsAddCause Refuses hub Faults.Memory = (length hub.places < hub.max) × Refuses hub.limits.cap

-- ---- calls

-- a session in its opening state is at the last place, with the given ports
abbrev pub AddsSession : {P : Type 0} → HubView P → P → HubView P → Type 0
AddsSession old ports new =
    (opened : SessionView) × IsNew old.limits opened × (new ≡ with_places old (old.places ++ (opened, ports) ∷ []))

-- the closed session at this place is removed, and these were its ports
abbrev pub Removes : {P : Type 0} → HubView P → ℕ → P → HubView P → Type 0
Removes old i ports new =
    (session : SessionView) × (slice_get old.places i ≡ Some (session, ports)) × (is_closed session ≡ true)
    × (new ≡ with_places old (remove old.places i))

-- the report of a removed session: its counted moves, the event that ended it, and the field that its fault is about
abbrev pub IsReportedOf : SessionView → Account → Ending → Option FaultField → Type 0
IsReportedOf session account ending field =
    (account ≡ session.account) × (ending_in session.state.phase ≡ Some ending) × (field ≡ fault_field_of session.state)

-- The session and the ports at this place went from one pair to another, by a call of this kind; every other place is
-- unchanged.
abbrev pub Changes : {P : Type 0} → (SessionView × P → SessionView × P → Type 0) → HubView P → ℕ → HubView P → Type 0
Changes {P} Kind old i new =
    (before : SessionView × P) × (after : SessionView × P) × (slice_get old.places i ≡ Some before)
    × (new ≡ with_places old (slice_set old.places i after)) × Kind before after

-- a turn of a session begins with its lent ports; the session itself is unchanged
abbrev pub IsBegun : {P : Type 0} → (P → PortCall → P → Type 0) → SessionView × P → SessionView × P → Type 0
IsBegun transition old new = (new.0 ≡ old.0) × transition old.1 TurnBegins new.1

-- the effect of a turn on a session and its ports: all that `turn` ensures
pub record IsTurned {P : Type 0} (transition : P → PortCall → P → Type 0) (old new : SessionView × P) : Type 0 where
  pub exchange : EvolveTogether transition WholeTurn old new
  pub asked : AsksAtMost turn_steps old.0 new.0
  pub weight : weight_of new.0 ≤ weight_bound new.0
  pub limits : new.0.state.limits ≡ old.0.state.limits

-- ---- the weight

abbrev pub weight_at : {P : Type 0} → SessionView × P → ℕ
weight_at place = weight_of place.0

-- the bound of the weight of one session with these limits: a whole body and a full stack for each side, and the queued
-- frames
abbrev pub session_bound : Limits → ℕ
session_bound limits = 2 * (limits.cap + entries_bound limits.max_depth) + queue_bound
