-- Whole runs of a hub: the effect of its calls, in any order, on each session.
use Rattle.std.specs.Prelude.{◌≡◌, ℕ, zero, suc, ◌<◌, true, List, [], ◌∷◌, ◌++◌, map, length, Some}
use Rattle.std.specs.Prelude.{slice_get, remove}
use Rattle.daide_protocol.specs.Machine.{Limits}
use Rattle.daide_protocol.specs.Wires.{SessionView, IsNew, is_closed}
use Rattle.daide_io.specs.Ports.{PortCall, EvolvesBy}
use Rattle.daide_driver.specs.Record.{EvolveTogether}
use Rattle.daide_driver.specs.Headline.{untouched}
use Rattle.daide_driver.specs.Totals.{RefinesRun}
use Rattle.daide_driver.specs.Whole.{HasHeadline}
use Rattle.daide_driver.specs.Hub.{HubView, AddsSession, Removes, Changes, IsBegun, IsTurned}

-- ---- the calls

-- a call that changes a hub: a session is added with its ports, its turn begins with them, its turn runs, or it is
-- removed
pub data HubCall (P : Type 0) : Type 0 where
  Added : P → HubCall P
  Begun : ℕ → HubCall P
  Turned : ℕ → HubCall P
  Removed : ℕ → P → HubCall P

-- the effect of one call, by its contract
abbrev pub HubStep : {P : Type 0} → (P → PortCall → P → Type 0) → HubView P → HubCall P → HubView P → Type 0
HubStep transition old (Added ports) new = AddsSession old ports new
HubStep transition old (Begun i) new = Changes (IsBegun transition) old i new
HubStep transition old (Turned i) new = Changes (IsTurned transition) old i new
HubStep transition old (Removed i ports) new = Removes old i ports new

-- the effect of calls, one after another
abbrev pub HubRuns : {P : Type 0} → (P → PortCall → P → Type 0) → HubView P → List (HubCall P) → HubView P → Type 0
HubRuns transition old [] new = new ≡ old
HubRuns {P} transition old (call ∷ calls) new =
    (mid : HubView P) × HubStep transition old call mid × HubRuns transition mid calls new

-- ---- the places

-- the start of a session: as it was in the hub before the calls, or opened by one of them with these ports
pub data Beginning (P : Type 0) : Type 0 where
  Stood : SessionView × P → Beginning P
  Opened : P → Beginning P

-- a call for one session: its turn begins, or runs
pub data OwnCall : Type 0 where
  TurnStarts : OwnCall
  TurnRuns : OwnCall

-- the life of a session, by the calls only: its start, and the calls for it, in order
pub record Life (P : Type 0) : Type 0 where
  pub begun : Beginning P
  pub calls : List OwnCall

-- a life without calls
abbrev pub fresh_life : {P : Type 0} → Beginning P → Life P
fresh_life begun = record { begun = begun; calls = [] }

-- a life with one call more
abbrev pub with_call : {P : Type 0} → OwnCall → Life P → Life P
with_call call life = record { begun = life.begun; calls = life.calls ++ call ∷ [] }

-- the life at this place has one call more
abbrev pub with_call_at : {P : Type 0} → ℕ → OwnCall → List (Life P) → List (Life P)
with_call_at i call [] = []
with_call_at zero call (life ∷ lives) = with_call call life ∷ lives
with_call_at (suc i) call (life ∷ lives) = life ∷ with_call_at i call lives

-- The lives at the places after a call. An added session has the last place; a call for one place extends its life;
-- after a removal the later ones move down one place.
abbrev pub lives_after : {P : Type 0} → HubCall P → List (Life P) → List (Life P)
lives_after (Added ports) lives = lives ++ fresh_life (Opened ports) ∷ []
lives_after (Begun i) lives = with_call_at i TurnStarts lives
lives_after (Turned i) lives = with_call_at i TurnRuns lives
lives_after (Removed i ports) lives = remove lives i

-- the lives at the places after calls, one after another
abbrev pub lives_after_all : {P : Type 0} → List (HubCall P) → List (Life P) → List (Life P)
lives_after_all [] lives = lives
lives_after_all (call ∷ calls) lives = lives_after_all calls (lives_after call lives)

-- the lives at the places of a hub, after these calls of it
abbrev pub lives_of : {P : Type 0} → HubView P → List (HubCall P) → List (Life P)
lives_of hub calls = lives_after_all calls (map (λ place. fresh_life (Stood place)) hub.places)

-- ---- alone

-- the effect of one call for a session, on the session and its ports
abbrev pub OwnStep : {P : Type 0} → (P → PortCall → P → Type 0) → OwnCall → SessionView × P → SessionView × P → Type 0
OwnStep transition TurnStarts old new = IsBegun transition old new
OwnStep transition TurnRuns old new = IsTurned transition old new

-- a session and its ports evolved by these calls for it, in their order, and by nothing else
abbrev pub CallsAlone : {P : Type 0} → (P → PortCall → P → Type 0) → List OwnCall → SessionView × P → SessionView × P →
    Type 0
CallsAlone transition [] old new = new ≡ old
CallsAlone {P} transition (call ∷ calls) old new =
    (mid : SessionView × P) × OwnStep transition call old mid × CallsAlone transition calls mid new

-- how many of the calls are turns
abbrev pub turns_of : List OwnCall → ℕ
turns_of [] = 0
turns_of (TurnStarts ∷ calls) = turns_of calls
turns_of (TurnRuns ∷ calls) = suc (turns_of calls)

-- a session and its ports at their start
abbrev pub BeginsAs : {P : Type 0} → Limits → Beginning P → SessionView × P → Type 0
BeginsAs limits (Stood place) first = first ≡ place
BeginsAs limits (Opened ports) first = IsNew limits first.0 × (first.1 ≡ ports)

-- from its start a session evolved by the calls for it, and by nothing else
abbrev pub WentAlone : {P : Type 0} → (P → PortCall → P → Type 0) → Limits → Life P → SessionView × P → Type 0
WentAlone {P} transition limits life now =
    (first : SessionView × P) × BeginsAs limits life.begun first × CallsAlone transition life.calls first now

-- the sessions of a hub have these lives, each at its place, and each evolved alone
pub record AreApart {P : Type 0} (transition : P → PortCall → P → Type 0) (limits : Limits) (lives : List (Life P))
    (places : List (SessionView × P)) : Type 0 where
  pub counted : length places ≡ length lives
  pub alone : (i : ℕ) (life : Life P) (now : SessionView × P) → slice_get lives i ≡ Some life →
      slice_get places i ≡ Some now → WentAlone transition limits life now

-- Whatever calls a hub gets, no session affects another. Each evolved only by the calls for its own place, whether the
-- hub had it before or it was added.
abbrev pub SessionsAreApart : {P : Type 0} → (P → PortCall → P → Type 0) → Type 0
SessionsAreApart {P} transition = (calls : List (HubCall P)) (old new : HubView P) → HubRuns transition old calls new →
    AreApart transition old.limits (lives_of old calls) new.places

-- This holds for each removed session too: the returned ports are as the calls for it left them.
abbrev pub PortsComeBackApart : {P : Type 0} → (P → PortCall → P → Type 0) → Type 0
PortsComeBackApart {P} transition = (calls : List (HubCall P)) (i : ℕ) (ports : P) (old new : HubView P) →
    HubRuns transition old (calls ++ Removed i ports ∷ []) new →
    (life : Life P) × (session : SessionView) × (slice_get (lives_of old calls) i ≡ Some life)
    × (is_closed session ≡ true) × WentAlone transition old.limits life (session, ports)

-- ---- the headline of each

-- Whatever calls a hub gets, each of its sessions with at least one turn is bounded and exact, by all its port calls
-- since its start.
abbrev pub EachHasItsHeadline : {P : Type 0} → (P → PortCall → P → Type 0) → Type 0
EachHasItsHeadline {P} transition = (calls : List (HubCall P)) (old new : HubView P) → HubRuns transition old calls new →
    (i : ℕ) (life : Life P) (now : SessionView × P) → slice_get (lives_of old calls) i ≡ Some life →
    slice_get new.places i ≡ Some now → 0 < turns_of life.calls →
    (first : SessionView × P) × BeginsAs old.limits life.begun first
    × EvolveTogether transition HasHeadline first now

-- Each session that the calls added is reachable, by all its port calls since its ports were handed over.
abbrev pub OpenedSessionsAreReachable : {P : Type 0} → (P → PortCall → P → Type 0) → Type 0
OpenedSessionsAreReachable {P} transition = (calls : List (HubCall P)) (old new : HubView P) → HubRuns transition old calls new →
    (i : ℕ) (life : Life P) (ports : P) (now : SessionView × P) → slice_get (lives_of old calls) i ≡ Some life →
    slice_get new.places i ≡ Some now → life.begun ≡ Opened ports →
    (history : List PortCall) × RefinesRun (untouched old.limits) history now.0 × EvolvesBy transition ports history now.1
