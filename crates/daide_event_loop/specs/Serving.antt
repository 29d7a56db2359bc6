-- The loop of a run: the system calls and the effect of each step of a round, a round, and a whole run, completed or
-- broken off. Each step is stated with its trace of system calls.
use Rattle.std.specs.Prelude.{◌≡◌, ℕ, zero, suc, ◌+◌, ◌<◌, ◌≤◌, nat_le, Bool, true, false, ◌&&◌, ◌==◌, ◌⊎◌}
use Rattle.std.specs.Prelude.{List, [], ◌∷◌, ◌++◌, length, count_by, Option, Some, None, slice_get}
use Rattle.std.specs.Prelude.{if◌then◌else◌}
use Rattle.std.specs.List.{list_all}
use Rattle.daide_protocol.specs.declared.ending.Ending.{Ending}
use Rattle.daide_protocol.specs.declared.account.Account.{Account}
use Rattle.daide_protocol.specs.Wires.{is_closed}
use Rattle.daide_words.specs.Words.{words_of}
use Rattle.daide_protocol.specs.Config.{limits_with}
use Rattle.daide_io.specs.Ports.{PortCall}
use Rattle.daide_io.specs.ReadyQueue.{ReadyView, queued_places, woken, woken_all, put_back, TakesNext}
use Rattle.daide_driver.specs.declared.meter.Meter.{Meter}
use Rattle.daide_driver.specs.Meter.{has_spent_turns}
use Rattle.daide_driver.specs.declared.place.SlabPlace.{SlabPlace}
use Rattle.daide_driver.specs.declared.place.SlabPlace.TheVariants.{Free, Kept, Held}
use Rattle.daide_driver.specs.Slab.{SlabView, SlotView, IsSlotBegun, IsSlotTurned, all_free, is_free_place, is_kept, is_held}
use Rattle.daide_driver.specs.Slab.{IsAt, IsNoneFree, with_place, OpensAt, ChangesAt}
use Rattle.daide_settings.specs.declared.settings.Settings.{Settings}
use Rattle.daide_event_loop.specs.declared.serving.ServeFault.{ServeFault}
use Rattle.daide_event_loop.specs.declared.serving.ServeFault.TheVariants as Faults
use Rattle.daide_event_loop.specs.declared.admission_counters.AdmissionCounters.{AdmissionCounters}
use Rattle.daide_io.specs.declared.system.Connect.{Connect}
use Rattle.daide_io.specs.declared.system.Connect.TheVariants.{Ready, Failed, Pending}
use Rattle.daide_io.specs.declared.system.Notice.TheVariants.{TurnsSpent}
use Rattle.daide_io.specs.declared.system.Cause.{Cause}
use Rattle.daide_io.specs.declared.system.Cause.TheVariants as Causes
use Rattle.daide_io.specs.declared.system.Orders.{Orders}
use Rattle.daide_io.specs.declared.system.SessionEnd.{SessionEnd}
use Rattle.daide_io.specs.declared.fault_field.FaultField.{FaultField}
use Rattle.daide_io.specs.FaultField.{fault_field_of}
use Rattle.daide_io.specs.System.{SystemCall, Polls, Shows, Accepts, Connects, BeginsTurn, Rests, Retires, Notifies, status_of}
use Rattle.daide_settings.specs.BotsInAll.{bots_in_all}
use Rattle.daide_protocol.specs.Machine.{ending_in}

-- the state of a run: its places with their sessions, the counters, and the places that are to be visited
pub record ServiceView (P : Type 0) : Type 0 where
  pub slab : SlabView P
  pub counters : AdmissionCounters
  pub ready : ReadyView

-- ---- the counters

-- all bots of the run were accepted
abbrev pub have_all_come : AdmissionCounters → Bool
have_all_come counters = counters.accepted == counters.sessions

-- no more bots are accepted: those accepted so far are all
abbrev pub closed : AdmissionCounters → AdmissionCounters
closed counters = record counters { sessions = counters.accepted }

-- one bot more was accepted
abbrev pub with_one_accepted : AdmissionCounters → AdmissionCounters
with_one_accepted counters = record counters { accepted = counters.accepted + 1 }

-- the counters after the orders of a poll: an order to stop accepting closes them for good
abbrev pub heeding : Orders → AdmissionCounters → AdmissionCounters
heeding orders counters = if orders.stops_accepting then closed counters else counters

-- ---- the places

-- how many sessions there are
abbrev pub sessions_in : {P : Type 0} → SlabView P → ℕ
sessions_in slab = count_by is_held slab.places

-- how many bots wait for their connect to the server
abbrev pub pending_in : {P : Type 0} → SlabView P → ℕ
pending_in slab = count_by is_kept slab.places

-- all bots were served: all were accepted, and each place is free
abbrev pub is_done : {P : Type 0} → ServiceView P → Bool
is_done run = have_all_come run.counters && list_all is_free_place run.slab.places

-- no place is to be visited
abbrev pub is_queue_empty : {P : Type 0} → ServiceView P → Bool
is_queue_empty run = (length run.ready.fresh == 0) && (length run.ready.moving == 0)

-- a place is free again
abbrev pub with_free_place : {P : Type 0} → ServiceView P → ℕ → ServiceView P
with_free_place run place = record run { slab = with_place run.slab place Free }

-- a place is to be visited once more, after all others that had turns
abbrev pub queued_again : {P : Type 0} → ServiceView P → ℕ → ServiceView P
queued_again run place = record run { ready = put_back run.ready place }

-- ---- a round begins

-- after a poll that woke these places and returned these orders
abbrev pub polled : {P : Type 0} → List ℕ → Orders → ServiceView P → ServiceView P
polled woken orders run = record run {
  counters = heeding orders run.counters;
  ready = woken_all woken run.ready;
}

-- the status of each session is shown, in order of place
abbrev pub shows : {P : Type 0} → List (SlabPlace (SlotView P)) → List (SystemCall P)
shows [] = []
shows (Free ∷ places) = shows places
shows (Kept ∷ places) = shows places
shows (Held item ∷ places) = Shows item.ports (status_of item.session item.meter.moved.bytes) ∷ shows places

abbrev pub shows_where : {P : Type 0} → Bool → List (SlabPlace (SlotView P)) → List (SystemCall P)
shows_where true places = shows places
shows_where false places = []

-- a poll, which may block only if no place is to be visited; then the status of each session, if the orders require it
abbrev pub opening : {P : Type 0} → List ℕ → Orders → ServiceView P → List (SystemCall P)
opening woken orders run = Polls (is_queue_empty run) woken orders ∷ shows_where orders.shows_sessions run.slab.places

-- ---- the turns of a session

-- the system begins a turn of a session with its own account and ports
abbrev pub OpensTurn : {P : Type 0} → (P → PortCall → P → Type 0) → ℕ → List (SystemCall P) →
    SlotView P → SlotView P → Type 0
OpensTurn transition place trace old new =
    IsSlotBegun transition old new × (trace ≡ BeginsTurn place old.session.account old.ports new.ports ∷ [])

-- the session at this place has one turn: it begins and runs
pub record TakesTurn {P : Type 0} (transition : P → PortCall → P → Type 0) (old : SlabView P) (place : ℕ)
    (trace : List (SystemCall P)) (new : SlabView P) : Type 0 where
  pub begun : SlabView P
  pub begins : ChangesAt (OpensTurn transition place trace) old place begun
  pub runs : ChangesAt (IsSlotTurned transition) begun place new

-- whether the last turn of the session at a place made progress; not if there is none at this place
abbrev pub has_moved_in : {P : Type 0} → Option (SlabPlace (SlotView P)) → Bool
has_moved_in None = false
has_moved_in (Some Free) = false
has_moved_in (Some Kept) = false
has_moved_in (Some (Held item)) = item.meter.moved.made_progress

-- n turns of the session at this place, each but the first after one that made progress
abbrev pub TurnsInRow : {P : Type 0} → (P → PortCall → P → Type 0) → ℕ → SlabView P → ℕ →
    List (SystemCall P) → SlabView P → Type 0
TurnsInRow transition zero old place trace new = (trace ≡ []) × (new ≡ old)
TurnsInRow {P} transition (suc n) old place trace new =
    (mid : SlabView P) × (first : List (SystemCall P)) × (second : List (SystemCall P))
    × (trace ≡ first ++ second) × TurnsInRow transition n old place first mid
    × (0 < n → has_moved_in (slice_get mid.places place) ≡ true) × TakesTurn transition mid place second new

-- The quantum: the most turns of a session in one visit. (own)
abbrev pub quantum : ℕ
quantum = 8

-- A session has one turn at least and a quantum at most, one after another while they make progress.
pub record TakesTurns {P : Type 0} (transition : P → PortCall → P → Type 0) (old : SlabView P) (place turns : ℕ)
    (trace : List (SystemCall P)) (new : SlabView P) : Type 0 where
  pub made : TurnsInRow transition turns old place trace new
  pub some : 0 < turns
  pub few : turns ≤ quantum
  pub all : turns < quantum → has_moved_in (slice_get new.places place) ≡ false

-- ---- the end of a session

abbrev pub spent_notice : {P : Type 0} → Bool → List (SystemCall P)
spent_notice true = Notifies TurnsSpent ∷ []
spent_notice false = []

-- the event that ended a session while it had turns left; none if its turns were spent, for then its clock stopped it
abbrev pub ending_within : Meter → Option Ending → Option Ending
ending_within meter ending = if has_spent_turns meter then None else ending

-- the event that ended a session, if there was one; otherwise its turns were spent while it was open
abbrev pub cause_of : Option Ending → Cause
cause_of (Some ending) = Causes.Session ending
cause_of None = Causes.TurnsSpent

abbrev pub end_by : Meter → Option Ending → Account → Option FaultField → SessionEnd
end_by meter ending account field = record {
  cause = cause_of (ending_within meter ending);
  account = account;
  fault_field = field;
}

-- the end of a session, with its account and the field that its fault is about
abbrev pub end_of : {P : Type 0} → SlotView P → SessionEnd
end_of now = end_by now.meter (ending_in now.session.state.phase) now.session.account (fault_field_of now.session.state)

-- spent turns are reported, if so, and then the ports are retired with the end of their session
abbrev pub retirement : {P : Type 0} → ℕ → P → Meter → SessionEnd → List (SystemCall P)
retirement place ports meter end = spent_notice (has_spent_turns meter) ++ Retires place ports end ∷ []

-- ---- a visit

-- whether a session rests: not after a turn that made progress, without a call; else the system says so
abbrev pub RestsBy : {P : Type 0} → Bool → ℕ → P → List (SystemCall P) → Bool → Type 0
RestsBy true place ports trace rests = (trace ≡ []) × (rests ≡ false)
RestsBy false place ports trace rests = trace ≡ Rests place ports rests ∷ []

-- After its turns a closed session is retired, and its place is free. An open one rests if its last turn made no progress
-- and the system has it rest; otherwise its place joins the end of the queue.
abbrev pub LeavesVisit : {P : Type 0} → Bool → SlotView P → ServiceView P → ℕ → List (SystemCall P) →
    ServiceView P → Type 0
LeavesVisit true now old place trace new =
    (trace ≡ retirement place now.ports now.meter (end_of now)) × (new ≡ with_free_place old place)
LeavesVisit false now old place trace new =
    (rests : Bool) × RestsBy now.meter.moved.made_progress place now.ports trace rests
    × (new ≡ (if rests then old else queued_again old place))

-- the session at this place has this many turns, and leaves the visit as they left it
pub record TurnsAndLeaves {P : Type 0} (transition : P → PortCall → P → Type 0) (old : ServiceView P) (place turns : ℕ)
    (trace : List (SystemCall P)) (new : ServiceView P) : Type 0 where
  pub now : SlotView P
  pub turned : SlabView P
  pub turning : List (SystemCall P)
  pub leaving : List (SystemCall P)
  pub takes : TakesTurns transition old.slab place turns turning turned
  pub there : IsAt turned place (Held now)
  pub leaves : LeavesVisit (is_closed now.session) now (record old { slab = turned }) place leaving new
  pub asked : trace ≡ turning ++ leaving

-- a completed connect turns into a session in its opening state, which has turns; after a failed one its place is
-- free; a pending one goes on
abbrev pub JoinsBy : {P : Type 0} → (P → PortCall → P → Type 0) → Connect P → ServiceView P → ℕ → ℕ → List (SystemCall P) →
    ServiceView P → Type 0
JoinsBy {P} transition (Ready ports) old place turns joining new =
    (opened : SlabView P) × OpensAt old.slab place ports old.counters.turns opened
    × TurnsAndLeaves transition (record old { slab = opened }) place turns joining new
JoinsBy transition Failed old place turns joining new =
    (turns ≡ 1) × (joining ≡ []) × (new ≡ with_free_place old place)
JoinsBy transition Pending old place turns joining new = (turns ≡ 1) × (joining ≡ []) × (new ≡ old)

-- A visit of a place, by what is there. A visit without a turn counts as one, so that a round ends.
abbrev pub VisitsBy : {P : Type 0} → (P → PortCall → P → Type 0) → Option (SlabPlace (SlotView P)) → ServiceView P → ℕ →
    ℕ → List (SystemCall P) → ServiceView P → Type 0
VisitsBy transition None old place turns trace new = (turns ≡ 1) × (trace ≡ []) × (new ≡ old)
VisitsBy transition (Some Free) old place turns trace new = (turns ≡ 1) × (trace ≡ []) × (new ≡ old)
VisitsBy {P} transition (Some Kept) old place turns trace new =
    (connect : Connect P) × (joining : List (SystemCall P)) × (trace ≡ Connects place connect ∷ joining)
    × JoinsBy transition connect old place turns joining new
VisitsBy transition (Some (Held item)) old place turns trace new =
    TurnsAndLeaves transition old place turns trace new

abbrev pub VisitsPlace : {P : Type 0} → (P → PortCall → P → Type 0) → ServiceView P → ℕ → ℕ → List (SystemCall P) →
    ServiceView P → Type 0
VisitsPlace transition old place = VisitsBy transition (slice_get old.slab.places place) old place

-- ---- the visits of a round

-- The most turns of a round. (own)
abbrev pub round_turns : ℕ
round_turns = 32

-- after this many turns there is room for one visit more
abbrev pub has_room : ℕ → Bool
has_room turns = nat_le (turns + quantum) round_turns

-- The place to visit after this many turns is the first of those that were at rest. The last quantum of a round is for
-- those that had turns before, if there are any.
abbrev pub Chooses : ℕ → ReadyView → ℕ → ReadyView → Type 0
Chooses turns = TakesNext (has_room (turns + quantum))

-- the next place of the queue leaves it and is visited
pub record VisitsNext {P : Type 0} (transition : P → PortCall → P → Type 0) (before : ℕ) (old : ServiceView P) (place turns : ℕ)
    (trace : List (SystemCall P)) (new : ServiceView P) : Type 0 where
  pub ready : ReadyView
  pub room : has_room before ≡ true
  pub chooses : Chooses before old.ready place ready
  pub visits : VisitsPlace transition (record old { ready = ready }) place turns trace new

-- these places were visited one after another, the last one first in the list, with this many turns in all
abbrev pub Visits : {P : Type 0} → (P → PortCall → P → Type 0) → List ℕ → ℕ → ServiceView P → List (SystemCall P) →
    ServiceView P → Type 0
Visits transition [] turns old trace new = (turns ≡ 0) × (trace ≡ []) × (new ≡ old)
Visits {P} transition (place ∷ earlier) turns old trace new =
    (mid : ServiceView P) × (before : ℕ) × (more : ℕ) × (first : List (SystemCall P)) × (second : List (SystemCall P))
    × (turns ≡ before + more) × (trace ≡ first ++ second) × Visits transition earlier before old first mid
    × VisitsNext transition before mid place more second new

-- places of the queue are visited, until none is left or the round had its turns
pub record VisitsReady {P : Type 0} (transition : P → PortCall → P → Type 0) (old : ServiceView P) (trace : List (SystemCall P))
    (new : ServiceView P) : Type 0 where
  pub visited : List ℕ
  pub turns : ℕ
  pub takes : Visits transition visited turns old trace new
  pub ends : has_room turns ≡ true → queued_places new.ready ≡ []

-- ---- a bot is accepted

-- a place is kept for a bot that came, and is to be visited, since its connect may have failed already
abbrev pub accepted_at : {P : Type 0} → ServiceView P → ℕ → ServiceView P
accepted_at run place = record {
  slab = with_place run.slab place Kept;
  counters = with_one_accepted run.counters;
  ready = woken run.ready place;
}

-- the system is asked once for a bot at a free place
pub record AsksForBot {P : Type 0} (old : ServiceView P) (trace : List (SystemCall P)) (new : ServiceView P) : Type 0 where
  pub place : ℕ
  pub came : Bool
  pub due : have_all_come old.counters ≡ false
  pub free : IsAt old.slab place Free
  pub asked : trace ≡ Accepts place came ∷ []
  pub then_kept : new ≡ (if came then accepted_at old place else old)

-- the system is not asked: all bots came, or no place is free
abbrev pub AsksForNone : {P : Type 0} → ServiceView P → List (SystemCall P) → ServiceView P → Type 0
AsksForNone old trace new =
    ((have_all_come old.counters ≡ true) ⊎ IsNoneFree old.slab.places) × (trace ≡ []) × (new ≡ old)

abbrev pub Admits : {P : Type 0} → ServiceView P → List (SystemCall P) → ServiceView P → Type 0
Admits old trace new = AsksForBot old trace new ⊎ AsksForNone old trace new

-- ---- a round

-- A poll wakes places and returns orders, by which the status of each session may be shown, and no bot may be accepted any
-- more. Then places of the queue are visited, and at most one bot is accepted.
pub record Round {P : Type 0} (transition : P → PortCall → P → Type 0) (old : ServiceView P)
    (trace : List (SystemCall P)) (new : ServiceView P) : Type 0 where
  pub woken : List ℕ
  pub orders : Orders
  pub visiting : List (SystemCall P)
  pub admission : List (SystemCall P)
  pub mid : ServiceView P
  pub visits : VisitsReady transition (polled woken orders old) visiting mid
  pub admits : Admits mid admission new
  pub asked : trace ≡ opening woken orders old ++ visiting ++ admission

-- ---- a run

-- n rounds, each of a run that is not done
abbrev pub Rounds : {P : Type 0} → (P → PortCall → P → Type 0) → ℕ → ServiceView P → List (SystemCall P) →
    ServiceView P → Type 0
Rounds transition zero old trace new = (trace ≡ []) × (new ≡ old)
Rounds {P} transition (suc n) old trace new =
    (mid : ServiceView P) × (first : List (SystemCall P)) × (second : List (SystemCall P))
    × (trace ≡ first ++ second) × Rounds transition n old first mid × (is_done mid ≡ false)
    × Round transition mid second new

-- a run with no bot yet
abbrev pub initial_service : {P : Type 0} → Settings → ServiceView P
initial_service settings = record {
  slab = record {
    limits = limits_with settings.config (words_of settings.words);
    places = all_free settings.max_sessions;
  };
  counters = record { sessions = bots_in_all settings; turns = settings.turns; accepted = 0 };
  ready = record { fresh = []; moving = []; places = settings.max_sessions };
}

-- rounds from the opening, until all bots were served
abbrev pub Serves : {P : Type 0} → (P → PortCall → P → Type 0) → Settings → List (SystemCall P) → Type 0
Serves {P} transition settings trace =
    (n : ℕ) × (end : ServiceView P) × Rounds transition n (initial_service settings) trace end × (is_done end ≡ true)

-- ---- a run that is broken off

-- The connect of the bot at a place completed, but its session was refused its memory. The ports are dropped, and the
-- place stays kept. `Refuses` is the allocator's relation of that name.
pub record IsRefusedAt {P : Type 0} (Refuses : ℕ → Type 0) (old : ServiceView P) (place : ℕ) (trace : List (SystemCall P))
    (new : ServiceView P) : Type 0 where
  pub ports : P
  pub pending : IsAt old.slab place Kept
  pub asked : trace ≡ Connects place (Ready ports) ∷ []
  -- the memory of a body of the longest length
  pub refused : Refuses old.slab.limits.cap
  pub same : new ≡ old

-- places of the queue are visited, until a new session is refused its memory
pub record VisitsUntilRefused {P : Type 0} (Refuses : ℕ → Type 0) (transition : P → PortCall → P → Type 0) (old : ServiceView P)
    (trace : List (SystemCall P)) (new : ServiceView P) : Type 0 where
  pub visited : List ℕ
  pub turns : ℕ
  pub before : List (SystemCall P)
  pub last : List (SystemCall P)
  pub mid : ServiceView P
  pub ready : ReadyView
  pub place : ℕ
  pub takes : Visits transition visited turns old before mid
  pub room : has_room turns ≡ true
  pub chooses : Chooses turns mid.ready place ready
  pub refuses : IsRefusedAt Refuses (record mid { ready = ready }) place last new
  pub asked : trace ≡ before ++ last

-- a round that ends with the visit whose session was refused its memory; it began as any round
pub record BreaksOff {P : Type 0} (Refuses : ℕ → Type 0) (transition : P → PortCall → P → Type 0) (old : ServiceView P)
    (trace : List (SystemCall P)) (new : ServiceView P) : Type 0 where
  pub woken : List ℕ
  pub orders : Orders
  pub visiting : List (SystemCall P)
  pub visits : VisitsUntilRefused Refuses transition (polled woken orders old) visiting new
  pub asked : trace ≡ opening woken orders old ++ visiting

-- rounds from the opening, and a broken-off round of a run that is not done
pub record RunsOut {P : Type 0} (Refuses : ℕ → Type 0) (transition : P → PortCall → P → Type 0) (settings : Settings)
    (trace : List (SystemCall P)) : Type 0 where
  pub n : ℕ
  pub before : List (SystemCall P)
  pub last : List (SystemCall P)
  pub mid : ServiceView P
  pub end : ServiceView P
  pub rounds : Rounds transition n (initial_service settings) before mid
  pub going_on : is_done mid ≡ false
  pub breaks : BreaksOff Refuses transition mid last end
  pub asked : trace ≡ before ++ last

-- all rounds from the opening that a run may make
pub record RunsLong {P : Type 0} (transition : P → PortCall → P → Type 0) (settings : Settings)
    (trace : List (SystemCall P)) : Type 0 where
  pub n : ℕ
  pub end : ServiceView P
  pub all : n + 1 ≡ 18446744073709551616
  pub rounds : Rounds transition n (initial_service settings) trace end

-- The trace of a run that ends with this fault, before all its bots were served. `Memory` has two causes, each a
-- refusal of the allocator, by its relation `Refuses`. Either the places were refused, without a system call; or a body
-- was refused, in a round that is broken off. `RoundsSpent` needs all rounds to be made.
abbrev pub GivesUp : {P : Type 0} → (ℕ → Type 0) → (P → PortCall → P → Type 0) → Settings → ServeFault →
    List (SystemCall P) → Type 0
GivesUp Refuses transition settings Faults.Memory trace =
    ((trace ≡ []) × Refuses settings.max_sessions) ⊎ RunsOut Refuses transition settings trace
GivesUp Refuses transition settings Faults.RoundsSpent trace = RunsLong transition settings trace

-- ---- refusals

-- why a run gave up: the allocator refused the places, or later a body; or all rounds were made
abbrev pub IsServeCause : (ℕ → Type 0) → Settings → ServeFault → Type 0
IsServeCause Refuses settings Faults.Memory = Refuses settings.max_sessions ⊎ Refuses settings.config.max_body
IsServeCause Refuses settings Faults.RoundsSpent = Unit {0}
