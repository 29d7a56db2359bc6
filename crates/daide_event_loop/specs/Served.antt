-- The effect of a run on each of its sessions: those that it has, and those that it retired.
use Rattle.std.specs.Prelude.{◌≡◌, ℕ, zero, suc, ◌+◌, ◌<◌, ◌≤◌, nat_lt, Bool, true, ◌&&◌, not, List, [], ◌∷◌}
use Rattle.std.specs.Prelude.{Some, Contains, All, if◌then◌else◌}
use Rattle.std.specs.List.{list_all}
use Rattle.daide_protocol.specs.declared.ending.Ending.TheVariants.{Stopped}
use Rattle.daide_protocol.specs.Machine.{Limits, SessionState, Effect, Runs, ending_in, is_over}
use Rattle.daide_protocol.specs.Wires.{SessionView, is_closed}
use Rattle.daide_words.specs.Words.{words_of}
use Rattle.daide_protocol.specs.Config.{limits_with}
use Rattle.daide_io.specs.ByteCounts.{bytes_of}
use Rattle.daide_io.specs.FaultField.{fault_field_of}
use Rattle.daide_io.specs.Ports.{PortCall, TurnBegins, Clock, Pulled, Offered, EvolvesBy, events_of}
use Rattle.daide_driver.specs.Headline.{untouched, IsBoundedAndExact}
use Rattle.daide_driver.specs.Totals.{HasTotals}
use Rattle.daide_driver.specs.Meter.{has_spent_turns}
use Rattle.daide_settings.specs.declared.settings.Settings.{Settings}
use Rattle.daide_io.specs.declared.system.Connect.TheVariants.{Ready, Failed}
use Rattle.daide_io.specs.declared.system.Orders.{Orders}
use Rattle.daide_io.specs.declared.system.SessionEnd.{SessionEnd}
use Rattle.daide_io.specs.System.{SystemCall, Polls, Shows, Accepts, Connects, BeginsTurn, Rests, Retires, Notifies}
use Rattle.daide_driver.specs.Slab.{SlotView, IfHeldAt, is_free_place}
use Rattle.daide_event_loop.specs.Serving.{ServiceView, cause_of, initial_service, is_done, sessions_in, pending_in, Rounds, Serves}
use Rattle.daide_settings.specs.BotsInAll.{bots_in_all}

-- the limits of a run's sessions
abbrev pub run_limits : Settings → Limits
run_limits settings = limits_with settings.config (words_of settings.words)

-- how many turns began in a history
abbrev pub turns_in : List PortCall → ℕ
turns_in [] = 0
turns_in (TurnBegins ∷ trace) = suc (turns_in trace)
turns_in (Clock event ∷ trace) = turns_in trace
turns_in (Pulled side buffer pull bytes ∷ trace) = turns_in trace
turns_in (Offered side bytes put ∷ trace) = turns_in trace

-- the port calls within the quota: those before the first turn beyond it
abbrev pub while_left : ℕ → List PortCall → List PortCall
while_left turns [] = []
while_left zero (TurnBegins ∷ trace) = []
while_left (suc turns) (TurnBegins ∷ trace) = TurnBegins ∷ while_left turns trace
while_left turns (Clock event ∷ trace) = Clock event ∷ while_left turns trace
while_left turns (Pulled side buffer pull bytes ∷ trace) = Pulled side buffer pull bytes ∷ while_left turns trace
while_left turns (Offered side bytes put ∷ trace) = Offered side bytes put ∷ while_left turns trace

-- What the meter of a session says, by all its port calls, for a quota of turns.
pub record IsMetered {P : Type 0} (limits : Limits) (turns : ℕ) (history : List PortCall) (now : SlotView P) : Type 0 where
  -- it has the bytes of all calls: those that pulls delivered from each side, and those that puts took for each
  pub bytes : now.meter.moved.bytes ≡ bytes_of history
  -- its turns are spent if and only if the session was open after all turns of the quota, and one more began
  pub effects : List Effect
  pub state : SessionState
  pub run : Runs (untouched limits).state (events_of (while_left turns history)) effects state
  pub spent : has_spent_turns now.meter ≡ (nat_lt turns (turns_in history) && not (is_over state.phase))
  -- then its clock stopped it, as an operator does
  pub stopped : has_spent_turns now.meter ≡ true → ending_in now.session.state.phase ≡ Some Stopped
  -- a session of which more turns began is over
  pub ends : turns < turns_in history → is_over now.session.state.phase ≡ true

-- A session of a run: the connect of the bot at a place delivered its ports; by all its port calls since, it has this
-- property, and its meter, which began with a full quota, is right.
pub record IsSessionOfRun {P : Type 0} (transition : P → PortCall → P → Type 0)
    (Kind : Limits → List PortCall → SessionView → Type 0) (settings : Settings) (trace : List (SystemCall P))
    (now : SlotView P) : Type 0 where
  pub place : ℕ
  pub ports : P
  pub came : Contains trace (Connects place (Ready ports))
  pub history : List PortCall
  pub answered : EvolvesBy transition ports history now.ports
  pub stands : Kind (run_limits settings) history now.session
  pub metered : IsMetered (run_limits settings) settings.turns history now

-- it is bounded and exact, and has its totals
abbrev pub IsServedSession : Limits → List PortCall → SessionView → Type 0
IsServedSession limits history g = IsBoundedAndExact limits history g × HasTotals limits history g

-- by all its port calls it is so
abbrev pub IsServed : {P : Type 0} → (P → PortCall → P → Type 0) → Settings → List (SystemCall P) →
    SlotView P → Type 0
IsServed transition = IsSessionOfRun transition IsServedSession

-- The end of a session, by all its port calls: its cause is the event that ended it within its quota, and its moves are
-- counted by side. The field that its fault is about is that of the bytes received until then.
abbrev pub IsEndOf : Limits → ℕ → List PortCall → SessionView → SessionEnd → Type 0
IsEndOf limits turns history session end =
    (effects : List Effect) × (state : SessionState)
    × Runs (untouched limits).state (events_of (while_left turns history)) effects state × (end.cause ≡ cause_of (ending_in state.phase))
    × (end.account ≡ session.account) × (end.fault_field ≡ fault_field_of state)

-- retired ports are those of a closed session of this place that was served, and the reported end is that of this session
abbrev pub RetiresClosed : {P : Type 0} → (P → PortCall → P → Type 0) → Settings → List (SystemCall P) →
    SystemCall P → Type 0
RetiresClosed {P} transition settings trace (Retires place ports end) =
    (now : SlotView P) × (now.ports ≡ ports) × (is_closed now.session ≡ true)
    × ((served : IsServed transition settings trace now) × (served.place ≡ place)
    × IsEndOf (run_limits settings) settings.turns served.history now.session end)
RetiresClosed transition settings trace (Polls may_block woken orders) = Unit {0}
RetiresClosed transition settings trace (Shows ports status) = Unit {0}
RetiresClosed transition settings trace (Accepts place came) = Unit {0}
RetiresClosed transition settings trace (Connects place connect) = Unit {0}
RetiresClosed transition settings trace (BeginsTurn place account before after) = Unit {0}
RetiresClosed transition settings trace (Rests place ports rests) = Unit {0}
RetiresClosed transition settings trace (Notifies notice) = Unit {0}

-- the number of ports that a call delivered, and the number that it retired
abbrev pub connects : {P : Type 0} → SystemCall P → ℕ
connects (Connects place (Ready ports)) = 1
connects _ = 0

abbrev pub retires : {P : Type 0} → SystemCall P → ℕ
retires (Retires place ports end) = 1
retires _ = 0

-- the number of bots that a call accepted, and the number whose server could not be reached
abbrev pub comes : {P : Type 0} → SystemCall P → ℕ
comes (Accepts place true) = 1
comes _ = 0

abbrev pub unreached : {P : Type 0} → SystemCall P → ℕ
unreached (Connects place Failed) = 1
unreached _ = 0

abbrev pub sum_over_calls : {P : Type 0} → (SystemCall P → ℕ) → List (SystemCall P) → ℕ
sum_over_calls count [] = 0
sum_over_calls count (call ∷ trace) = count call + sum_over_calls count trace

-- ---- the operator's orders

-- 1 if the call accepts a bot or finds none; 1 if it shows the status of a session
abbrev pub accept_calls : {P : Type 0} → SystemCall P → ℕ
accept_calls (Accepts place came) = 1
accept_calls _ = 0

abbrev pub show_calls : {P : Type 0} → SystemCall P → ℕ
show_calls (Shows ports status) = 1
show_calls _ = 0

-- 1 if the call returns orders with this property
abbrev pub orders_with : {P : Type 0} → (Orders → Bool) → SystemCall P → ℕ
orders_with Has (Polls may_block woken orders) = if Has orders then 1 else 0
orders_with Has _ = 0

-- how many orders to stop accepting, and to show the sessions, there were in a trace
abbrev pub stop_orders : {P : Type 0} → List (SystemCall P) → ℕ
stop_orders trace = sum_over_calls (orders_with (λ orders. orders.stops_accepting)) trace

abbrev pub show_orders : {P : Type 0} → List (SystemCall P) → ℕ
show_orders trace = sum_over_calls (orders_with (λ orders. orders.shows_sessions)) trace

-- after each order to stop accepting, accept is not called any more
abbrev pub HeedsStops : {P : Type 0} → List (SystemCall P) → Type 0
HeedsStops [] = Unit {0}
HeedsStops (call ∷ trace) =
    (0 < orders_with (λ orders. orders.stops_accepting) call → sum_over_calls accept_calls trace ≡ 0) × HeedsStops trace

-- After any rounds of a run. After an order to stop accepting, accept is not called any more, and the run is done as soon
-- as each place is free. Without such an order, the run is done when all bots of its settings
-- came and were served. Without an order to show the sessions, none is shown.
pub record HeedsOrders {P : Type 0} (settings : Settings) (trace : List (SystemCall P)) (run : ServiceView P) : Type 0 where
  pub stops : HeedsStops trace
  pub ends : 0 < stop_orders trace → is_done run ≡ list_all is_free_place run.slab.places
  pub goes_on : stop_orders trace ≡ 0 → run.counters.sessions ≡ bots_in_all settings
  pub shows : show_orders trace ≡ 0 → sum_over_calls show_calls trace ≡ 0

abbrev pub OrdersAreHeeded : {P : Type 0} → (P → PortCall → P → Type 0) → Type 0
OrdersAreHeeded {P} transition = (settings : Settings) (n : ℕ) (trace : List (SystemCall P)) (run : ServiceView P) →
    Rounds transition n (initial_service settings) trace run → HeedsOrders settings trace run

-- ---- a whole run

-- each session that a run has is served, at its place
abbrev pub AreServed : {P : Type 0} → (P → PortCall → P → Type 0) → Settings → List (SystemCall P) → ServiceView P → Type 0
AreServed transition settings trace run = (place : ℕ) →
    IfHeldAt run.slab.places place (λ now. (served : IsServed transition settings trace now) × (served.place ≡ place))

-- After any rounds of a run: each session that it has is served, at the place that its bot got, and so is each that it
-- retired. Of the ports delivered it has all that it did not retire. It counts each bot that it accepted. For each of these
-- bots the connect is pending, it got a session, or it could not reach the server.
abbrev pub SessionsAreServed : {P : Type 0} → (P → PortCall → P → Type 0) → Type 0
SessionsAreServed {P} transition = (settings : Settings) (n : ℕ) (trace : List (SystemCall P)) (run : ServiceView P) →
    Rounds transition n (initial_service settings) trace run →
    AreServed transition settings trace run × All (RetiresClosed transition settings trace) trace
    × (sum_over_calls connects trace ≡ sessions_in run.slab + sum_over_calls retires trace)
    × (run.counters.accepted ≡ sum_over_calls comes trace)
    × (sum_over_calls comes trace ≡ pending_in run.slab + sum_over_calls connects trace + sum_over_calls unreached trace)

-- A whole run of settings: rounds until all bots were served. So each completed connect was a
-- session, which was served, and retired as a closed one. By all its port calls it is bounded and exact, and none is
-- lost. As many bots were accepted as the settings say (`bots_in_all`), or at most so many if there was an order to stop
-- accepting, after which none was accepted. For each, ports were retired or the server was unreachable.
pub record IsWholeRun {P : Type 0} (transition : P → PortCall → P → Type 0) (settings : Settings)
    (trace : List (SystemCall P)) : Type 0 where
  pub serves : Serves transition settings trace
  pub each : All (RetiresClosed transition settings trace) trace
  pub none_lost : sum_over_calls connects trace ≡ sum_over_calls retires trace
  pub all_came : stop_orders trace ≡ 0 → sum_over_calls comes trace ≡ bots_in_all settings
  pub at_most : sum_over_calls comes trace ≤ bots_in_all settings
  pub stops : HeedsStops trace
  pub all_served : sum_over_calls comes trace ≡ sum_over_calls retires trace + sum_over_calls unreached trace
