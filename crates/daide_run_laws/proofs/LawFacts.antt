-- The laws of `laws`, used at single values. A fact takes only the law, so that a weaker law does not check.
use Rattle.std.proofs.Common.{◌≡◌, ℕ, ◌<◌, ◌+◌, ◌-◌, ◌≤◌, Bool, true, false, List, [], ◌∷◌, ◌++◌, length, refl, ap, subst, arith}
use Rattle.std.specs.Prelude.{Option, Some, slice_get}
use Rattle.std.specs.Duration.{as_nanos}
use Rattle.std.specs.Time.{instant_nanos}
use Rattle.std.specs.declared.net.socket_addr.SocketAddr.{SocketAddr}
use Rattle.std.specs.declared.time.Duration.{Duration}
use Rattle.std.specs.declared.time.Instant.{Instant}
use Rattle.daide_frame.specs.declared.side.Side.TheVariants.{Bot, Server}
use Rattle.daide_protocol.specs.Wires.{room_of, queued, no_frame}
use Rattle.daide_io.specs.Network.{NetworkCall}
use Rattle.daide_io.specs.Ports.{PortCall}
use Rattle.daide_io.specs.ReadyQueue.{is_among, is_queued}
use Rattle.daide_io.specs.Streams.{StreamCall}
use Rattle.daide_io.specs.System.{SystemCall, Polls, Accepts, TransitsBy}
use Rattle.daide_io.specs.declared.system.Orders.{Orders}
use Rattle.daide_settings.specs.BotsInAll.{bots_in_all}
use Rattle.daide_settings.specs.declared.settings.Settings.{Settings}
use Rattle.daide_driver.specs.declared.place.SlabPlace.TheVariants.{Free, Held}
use Rattle.daide_driver.specs.Slab.{IsAt, SlotView}
use Rattle.daide_event_loop.specs.Serving.{ServiceView, Round, Rounds, initial_service, have_all_come}
use Rattle.daide_event_loop.specs.Served.{IsServed}
use Rattle.daide_sockets.specs.Accepting.{is_bot_due, AcceptsThenConnects}
use Rattle.daide_sockets.specs.declared.ports.SocketPorts.{SocketPorts}
use Rattle.daide_sockets.specs.Clock.{IsAtMost, IsNoTime, is_past}
use Rattle.daide_sockets.specs.Pairing.{is_vacant}
use Rattle.daide_sockets.specs.Table.{Table}
use Rattle.daide_sockets.specs.Scheduling.{RunState, Schedules, AwaitsBots, RunEvolves, HasRoomForBot, HoldsRows}
use Rattle.daide_sockets.specs.Timers.{SessionTimers}
use Rattle.daide_sockets.specs.Wakeups.{SessionSockets, Wakes, session_due}
use Rattle.daide_run_laws.specs.FreedPlaces.{AreTimesOf, ClockGoesOn, IsTimed, PollsByDeadlines, deliveries}
use Rattle.daide_run_laws.specs.FreedPlaces.{overdue_turns, CameFrom, IsQuietFor, NoSessionWaitsForEver, TimeoutsStay, DeadlinesPassSeldom}
use Rattle.daide_run_laws.specs.NoLostWakeups.{Sleeps, PollsAsleep, NoWakeupIsLost, NoBotWaits}
use Rattle.daide_run_laws.specs.Room.{EachBotHasRoom}

module _ {P S N C : Type 0} (port_transition : P → PortCall → P → Type 0) (view : P → SessionSockets S)
    (calls : S → Option (List StreamCall)) (transition : N → NetworkCall C → N → Type 0)
    (law : NoWakeupIsLost port_transition view calls transition) (settings : Settings) (before others : List (SystemCall P))
    (woken : List ℕ) (orders : Orders) (run next : ServiceView P) (first old new : N × Table)
    (rounds : Rounds port_transition 2 (initial_service settings) before run)
    (round : Round port_transition run (Polls true woken orders ∷ others) next)
    (places : length first.1.deadlines ≡ settings.max_sessions)
    (trace : TransitsBy (Wakes transition calls view) first before old)
    (poll : Wakes transition calls view old (Polls true woken orders) new)
    (held : SlotView P) (at : slice_get run.slab.places 3 ≡ Some (Held held)) where
  -- the third round of a run, whose poll may block
  asleep : PollsAsleep transition view run.slab.places woken old new
  asleep = law settings 2 before others woken orders run next first old new rounds round places trace poll

  one : Sleeps old.1 asleep.polls.time 3 held.session (view held.ports)
  one = asleep.asleep 3 held at

  -- the bot's socket of a session with room is not readable
  unreadable : 0 < room_of held.session Bot → (view held.ports).sides.bot.readiness.may_read ≡ false
  unreadable room = (one.read Bot room).0

  -- while a frame is queued for the server, its socket is not writable
  unwritable : no_frame (queued held.session Server) ≡ false → (view held.ports).sides.server.readiness.may_write ≡ false
  unwritable some = one.written Server some

  -- beside a deadline seven nanoseconds after the reading, the poll lasts at most as long
  within_seven : (now due : Instant) (time : Duration) → old.1.reading ≡ Some now →
      session_due (view held.ports) ≡ Some due → instant_nanos due ≡ instant_nanos now + 7 →
      asleep.polls.time ≡ Some time → as_nanos time ≤ 7
  within_seven now due time reading deadline seven is =
      let most : as_nanos time ≤ instant_nanos due - instant_nanos now =
      subst (λ (t : Option Duration). IsAtMost t (instant_nanos due - instant_nanos now)) is (one.in_time now due reading deadline) in
      omega (arith, most, seven)

module _ {P S N C : Type 0} (port_transition : P → PortCall → P → Type 0) (transition : N → NetworkCall C → N → Type 0)
    (timers : P → SessionTimers S) (law : DeadlinesPassSeldom port_transition timers transition) (settings : Settings)
    (trace : List (SystemCall P)) (place : SlotView P)
    (session : IsServed port_transition settings trace place) (idle stall : Duration) (begun last : RunState N S)
    (sessions : TransitsBy (Schedules transition timers) begun trace last)
    (clock : ClockGoesOn port_transition timers idle stall session.history session.ports place.ports session.answered)
  where
    -- without a byte from a peer a session has at most five turns that begin at or past its deadline
    five_at_most : deliveries session.history ≡ 0 →
        overdue_turns port_transition timers session.history session.ports place.ports session.answered ≤ 5
    five_at_most none =
        let all = law settings trace session.ports session.history place idle stall begun last
        (record { session = session; early = []; history = refl; before = refl; since = session.answered }) sessions clock in
        let least = all.0 in
        let most = all.1 in
        omega (arith, least, most, none)

module _ {P S : Type 0} (port_transition : P → PortCall → P → Type 0) (timers : P → SessionTimers S)
    (law : TimeoutsStay port_transition timers) (settings : Settings) (trace : List (SystemCall P))
    (mid : P) (late : List PortCall) (place : SlotView P)
    (from : CameFrom port_transition timers settings trace mid late place) where
  -- while a bot sends nothing, its silence is over at the same moment as before
  silence_stays : IsQuietFor port_transition timers Bot late mid place.ports from.since →
      (timers place.ports).sockets.sides.bot.silent_from ≡ (timers mid).sockets.sides.bot.silent_from
  silence_stays quiet = (law settings trace mid late place Bot from quiet).silence

module _ {P S N C : Type 0} (port_transition : P → PortCall → P → Type 0) (timers : P → SessionTimers S)
    (calls : S → Option (List StreamCall)) (transition : N → NetworkCall C → N → Type 0)
    (law : NoSessionWaitsForEver port_transition timers calls transition) (settings : Settings) (before others : List (SystemCall P))
    (woken : List ℕ) (orders : Orders) (run next : ServiceView P) (first old new : N × Table) (begun last : RunState N S)
    (sevens : settings.idle_seconds ≡ 7) (stalls : settings.stall_seconds ≡ 7) (times : AreTimesOf settings begun.times)
    (rounds : Rounds port_transition 2 (initial_service settings) before run)
    (places : length first.1.deadlines ≡ settings.max_sessions) (sessions : TransitsBy (Schedules transition timers) begun before last)
    (trace : TransitsBy (Wakes transition calls (λ (p : P). (timers p).sockets)) first before old)
    (held : SlotView P) (at : slice_get run.slab.places 3 ≡ Some (Held held)) where
  module _ (may_block : Bool) (round : Round port_transition run (Polls may_block woken orders ∷ others) next)
      (poll : Wakes transition calls (λ (p : P). (timers p).sockets) old (Polls may_block woken orders) new) where
    by_deadlines : PollsByDeadlines port_transition timers transition settings before run may_block woken old new
    by_deadlines = law settings 2 before others may_block woken orders run next first old new begun last
        (λ e. absurd (omega (arith, e, sevens))) (λ e. absurd (omega (arith, e, stalls))) times rounds round places sessions
        trace poll

    -- a session that rests is woken when its deadline is past, by a poll of either kind
    late_is_woken : is_queued run.ready 3 ≡ false → is_past new.1.reading (session_due (timers held.ports).sockets) ≡ true →
        is_among 3 woken ≡ true
    late_is_woken rests past = by_deadlines.late 3 rests held at past

  -- with both timeouts of seven seconds, and a reading as of its last turn, a poll that may block lasts at most as long
  ends_within_seven : (round : Round port_transition run (Polls true woken orders ∷ others) next)
      (poll : Wakes transition calls (λ (p : P). (timers p).sockets) old (Polls true woken orders) new) (time : Duration)
      (read : Instant) → IsTimed port_transition timers settings before (by_deadlines true round poll).idle
      (by_deadlines true round poll).stall held → old.1.reading ≡ Some read → (timers held.ports).sockets.reading ≡ Some read →
      (by_deadlines true round poll).polls.time ≡ Some time → as_nanos time ≤ 7000000000
  ends_within_seven round poll time read timed read_now begun_at is =
      let polled = by_deadlines true round poll in
      let own = polled.deadlines refl 3 held at timed in
      let same : own.now ≡ read = one_instant own.now read (timers held.ports).sockets.reading own.reading begun_at in
      let nanos = ap instant_nanos same in
      let within = own.within in
      let idle = polled.idle_lasts in
      let stall = polled.stall_lasts in
      let most : as_nanos time ≤ instant_nanos own.due - instant_nanos read =
      subst (λ (t : Option Duration). IsAtMost t (instant_nanos own.due - instant_nanos read)) is (own.ends read read_now) in
      omega (arith, most, within, nanos, idle, stall, sevens, stalls)
    where
      one_instant : (a b : Instant) (reading : Option Instant) → reading ≡ Some a → reading ≡ Some b → a ≡ b
      one_instant a b reading e f = cc

module _ {P S N C : Type 0} (port_transition : P → PortCall → P → Type 0) (timers : P → SessionTimers S)
    (transition : N → NetworkCall C → N → Type 0) (law : NoBotWaits port_transition timers transition) (settings : Settings)
    (before others : List (SystemCall P)) (woken : List ℕ) (orders : Orders) (run next : ServiceView P)
    (first old new : RunState N S) (rounds : Rounds port_transition 1 (initial_service settings) before run)
    (may : have_all_come run.counters ≡ false) (free : IsAt run.slab 3 Free)
    (round : Round port_transition run (Polls true woken orders ∷ others) next)
    (trace : TransitsBy (Schedules transition timers) first before old)
    (poll : Schedules transition timers old (Polls true woken orders) new) where
  awaited : AwaitsBots transition true woken old new
  awaited = law settings 0 before others woken orders run next 3 first old new rounds may free round trace poll

  -- while an accept is due, the poll takes no time
  ready_listener : is_bot_due old.table old.acceptor ≡ true → IsNoTime awaited.polls.time
  ready_listener due = awaited.awaits due

module _ {P S N : Type 0} (port_transition : P → PortCall → P → Type 0) (transition : N → NetworkCall S → N → Type 0)
    (to_give taken : S → Option (List ℕ)) (calls : S → Option (List StreamCall)) (ports_in : P → SocketPorts S)
    (law : EachBotHasRoom port_transition transition to_give taken calls ports_in) (settings : Settings)
    (before early : List (SystemCall P)) (run next : ServiceView P) (first old new : RunState N S) (came : Bool)
    (bots : bots_in_all settings ≡ 40) (none : first.acceptor.came ≡ 0) (holds : HoldsRows first)
    (places : length first.table.deadlines ≡ settings.max_sessions)
    (no_arrivals : (other : ℕ) → other < settings.max_sessions → is_vacant first.arrivals other ≡ true)
    (rounds : Rounds port_transition 9 (initial_service settings) before run)
    (round : Round port_transition run (early ++ Accepts 2 came ∷ []) next)
    (trace : TransitsBy (RunEvolves transition to_give taken calls ports_in) first (before ++ early) old)
    (accept : RunEvolves transition to_give taken calls ports_in old (Accepts 2 came) new) where
  has_room : HasRoomForBot old 2 × (is_bot_due old.table old.acceptor ≡ true →
      (servers : List SocketAddr) × AcceptsThenConnects transition old.acceptor.descriptors servers 5 old.network new.network)
  has_room = law settings 9 before early run next first old new 2 came (omega (arith, bots)) none holds places no_arrivals rounds
      round trace accept

  -- no connect is pending at the place of the bot
  free_place : is_vacant old.arrivals 2 ≡ true
  free_place = has_room.0.1

  -- while an accept is due, exactly one is made
  ready_accept : is_bot_due old.table old.acceptor ≡ true →
      (servers : List SocketAddr) × AcceptsThenConnects transition old.acceptor.descriptors servers 5 old.network new.network
  ready_accept due = has_room.1 due
