-- What the sockets of a run schedule: the timeouts with which sessions begin, accepts, and what a poll watches. (own)
use Rattle.std.specs.Prelude.{◌≡◌, ◌≢◌, ℕ, ◌<◌, ◌&&◌, nat_le, Bool, true, false, List, length, Option, Some, None}
use Rattle.std.specs.declared.net.socket_addr.SocketAddr.{SocketAddr}
use Rattle.std.specs.declared.time.Duration.{Duration}
use Rattle.std.specs.declared.time.Instant.{Instant}
use Rattle.daide_frame.specs.declared.side.Side.TheVariants.{Server}
use Rattle.daide_io.specs.Network.{NetworkCall, ReadsClock, Listens, ListensForControl}
use Rattle.daide_io.specs.Streams.{StreamCall}
use Rattle.daide_io.specs.System.{SystemCall, Polls, Shows, Accepts, Connects, BeginsTurn, Rests, Retires, Notifies}
use Rattle.daide_io.specs.declared.system.Connect.TheVariants.{Ready, Failed, Pending}
use Rattle.daide_io.specs.declared.system.Orders.{Orders}
use Rattle.daide_buffered_io.specs.Buffers.{Buffer}
use Rattle.daide_status.specs.declared.counts.RunCounts.{RunCounts}
use Rattle.daide_status.specs.declared.snapshot.RunStatus.{RunStatus}
use Rattle.daide_status.specs.declared.snapshot.ServerStatus.{ServerStatus}
use Rattle.daide_status.specs.declared.snapshot.SessionRow.{SessionRow}
use Rattle.daide_sockets.specs.declared.admission.Acceptor.{Acceptor}
use Rattle.daide_sockets.specs.declared.control.Control.{Control}
use Rattle.daide_sockets.specs.declared.ports.SocketPorts.{SocketPorts}
use Rattle.daide_sockets.specs.declared.present.Bot.{Bot}
use Rattle.daide_sockets.specs.Accepting.{is_bot_due, may_connect, round_begun, shut_if, AcceptsThenConnects, ClosesOrNot}
use Rattle.daide_sockets.specs.ControlSlots.{BeginsRound, Each, PlaceShows}
use Rattle.daide_sockets.specs.PollTimes.{listener_armed, others_armed}
use Rattle.daide_sockets.specs.Lingering.{ClosingList, LooksAround, in_pass}
use Rattle.daide_sockets.specs.Pairing.{Arriving, Paired, RunSockets, is_vacant, arrival_at, pending_connects, ClosesAt, ClosesBothAt, Transits}
use Rattle.daide_sockets.specs.KeptRows.{IsFixedRow, KeepsBeside, KeepsReportsOf}
use Rattle.daide_sockets.specs.Rows.{AreRowsOf, closing_keys}
use Rattle.daide_sockets.specs.Snapshot.{seconds_between, or_zero, IsRunStatus, IsSessionRow}
use Rattle.daide_sockets.specs.Table.{Table, PollsOnce, control_key, deadline_at, key_of, listener_key}
use Rattle.daide_sockets.specs.Clock.{IsNoTime, earlier, is_past}
use Rattle.daide_sockets.specs.Timers.{SessionTimers, BeginsAt, timers_of}
use Rattle.daide_sockets.specs.Wakeups.{Wakes, PollsForPlaces}

-- The sockets of a run: its network and its table; the timeouts of each peer, of its silence and of a stall, none for
-- never; the listener; at each place the bot whose connect is pending, if there is one; the closing streams; and the control
-- socket.
pub record RunState (N S : Type 0) : Type 0 where
  pub network : N
  pub table : Table
  pub times : Option Duration × Option Duration
  pub acceptor : Acceptor
  pub arrivals : List (Option (Arriving S))
  pub closing : ClosingList S
  pub control : Control S

abbrev pub run_state : {N S : Type 0} → N × Table → Option Duration × Option Duration → Acceptor →
    List (Option (Arriving S)) → ClosingList S → Control S → RunState N S
run_state polled times acceptor arrivals closing control = record {
  network = polled.0;
  table = polled.1;
  times = times;
  acceptor = acceptor;
  arrivals = arrivals;
  closing = closing;
  control = control;
}

-- The network of a run begins: its clock is read, then its listener for bots is followed, and then that for control
-- connections, if it has one.
pub record BeginsListening {N C : Type 0} (transition : N → NetworkCall C → N → Type 0) (table : Table) (old new : N) :
    Type 0 where
  pub reading : Option Instant
  pub read : N
  pub listening : N
  pub is_followed : Option Bool
  pub clock : transition old (ReadsClock reading) read
  pub listens : transition read (Listens (listener_key table) true) listening
  pub control : transition listening (ListensForControl (control_key table) is_followed) new
  pub followed : is_followed ≢ Some false

-- the number of bots that came, those whose connects are pending, and the closing streams
abbrev pub sockets_in : {N S : Type 0} → RunState N S → RunSockets S
sockets_in state = record { came = state.acceptor.came; arrivals = state.arrivals; closing = state.closing }

-- the content of ports: the bot of their session, and its streams
abbrev pub pair_of : {S : Type 0} → SocketPorts S → Paired S
pair_of ports = record { identity = ports.identity; bot = ports.sides.bot.stream; server = ports.sides.server.stream }

-- ---- accepts

-- A bot may have this place, which has rows, and a number is left for it.
abbrev pub HasRoomForBot : {N S : Type 0} → RunState N S → ℕ → Type 0
HasRoomForBot state place = (place < length state.table.deadlines) × (is_vacant state.arrivals place ≡ true)
    × (state.acceptor.came < 4294967295)

-- The listener is asked for a bot at a place: with room for it exactly one accept is made if it is due, and then only
-- connects for its bot. Otherwise no call is made. From then on a poll watches for bots too.
pub record AsksListener {N C S : Type 0} (transition : N → NetworkCall C → N → Type 0) (old : RunState N S) (place : ℕ)
    (new : RunState N S) : Type 0 where
  pub made : HasRoomForBot old place → is_bot_due old.table old.acceptor ≡ true →
      (servers : List SocketAddr) × AcceptsThenConnects transition old.acceptor.descriptors servers (key_of place Server) old.network new.network
  pub not_made : (HasRoomForBot old place → is_bot_due old.table old.acceptor ≡ false) → new.network ≡ old.network
  pub awaited : new.acceptor.awaits_bots ≡ true

-- ---- connects

-- The place of a bot whose connect is pending rests until the deadline of the connect, or until its next address is tried,
-- neither of which is past. Until a poll reports something of it, the connect has no result.
abbrev pub RestsForConnect : {S : Type 0} → Option (Arriving S) → Table → ℕ → Table → Type 0
RestsForConnect None old place new = new ≡ old
RestsForConnect (Some arrival) old place new = place < length old.deadlines →
    (deadline_at new place ≡ earlier arrival.moves_on arrival.gives_up)
    × (is_past old.reading (earlier arrival.moves_on arrival.gives_up) ≡ false)
    × (may_connect new (key_of place Server) arrival.known ≡ false)

-- ---- calls

-- the timeouts of the run do not change
abbrev pub SameTimes : {N S : Type 0} → RunState N S → RunState N S → Type 0
SameTimes old new = (new.times.0 ≡ old.times.0) × (new.times.1 ≡ old.times.1)

-- neither these nor the listener change
abbrev pub SameSchedule : {N S : Type 0} → RunState N S → RunState N S → Type 0
SameSchedule old new = SameTimes old new × (new.acceptor ≡ old.acceptor)

-- a poll that watches the listener and each closing stream, beside the places and what the table had watched
abbrev pub PollsForRun : {N C S : Type 0} → (N → NetworkCall C → N → Type 0) → Bool → List ℕ → RunState N S →
    RunState N S → Type 0
PollsForRun transition may_block woken old new = PollsForPlaces transition
    (others_armed old.table (listener_armed old.table old.acceptor) old.closing.streams) may_block woken
    old.network old.table new.network new.table

-- What a system call schedules. The timeouts of the run never change, and each session begins with them. A poll watches the
-- listener and each closing stream; by its reading of the clock a pause of the listener may be over, and the listener is closed or
-- not. The listener is asked for a bot whenever one may be accepted. A pending connect has its place rest.
abbrev pub Schedules : {N C P S : Type 0} → (N → NetworkCall C → N → Type 0) → (P → SessionTimers S) → RunState N S →
    SystemCall P → RunState N S → Type 0
Schedules transition timers old (Polls may_block woken orders) new =
    SameTimes old new × PollsForRun transition may_block woken old new
    × (closes : Bool) × (new.acceptor ≡ shut_if closes (round_begun new.table.reading old.acceptor))
Schedules transition timers old (Accepts place came) new = SameTimes old new × AsksListener transition old place new
Schedules transition timers old (Connects place (Ready ports)) new =
    SameSchedule old new × BeginsAt old.table.reading old.times (timers ports)
Schedules transition timers old (Connects place Failed) new = SameSchedule old new
Schedules transition timers old (Connects place Pending) new =
    SameSchedule old new × RestsForConnect (arrival_at new.arrivals place) old.table place new.table
Schedules transition timers old (Shows ports status) new = SameSchedule old new
Schedules transition timers old (BeginsTurn place account before after) new = SameSchedule old new
Schedules transition timers old (Rests place ports rests) new = SameSchedule old new
Schedules transition timers old (Retires place ports end) new = SameSchedule old new
Schedules transition timers old (Notifies notice) new = SameSchedule old new

-- ---- closing streams

-- What a system call does to the closing streams, by the clock. A poll advances them at the reading that the table has
-- after it. The bot of a failed connect, and both sockets of a session that is retired, begin to close at the table's
-- reading. No other call changes them. `pair` is the content of ports.
abbrev pub ClosesByClock : {N P S : Type 0} → (S → Option (List ℕ)) → (S → Option (List ℕ)) → (S → Option (List StreamCall)) →
    (P → Paired S) → RunState N S → SystemCall P → RunState N S → Type 0
ClosesByClock to_give taken calls pair old (Polls may_block woken orders) new =
    LooksAround to_give taken calls new.table.reading (in_pass old.closing) new.closing
ClosesByClock {S = S} to_give taken calls pair old (Connects place Failed) new =
    (bot : Buffer S) × ClosesAt to_give taken calls old.table.reading old.closing bot new.closing
ClosesByClock to_give taken calls pair old (Retires place ports end) new =
    ClosesBothAt to_give taken calls old.table.reading old.closing (pair ports) new.closing
ClosesByClock to_give taken calls pair old (Connects place (Ready ports)) new = new.closing ≡ old.closing
ClosesByClock to_give taken calls pair old (Connects place Pending) new = new.closing ≡ old.closing
ClosesByClock to_give taken calls pair old (Accepts place came) new = new.closing ≡ old.closing
ClosesByClock to_give taken calls pair old (Shows ports status) new = new.closing ≡ old.closing
ClosesByClock to_give taken calls pair old (BeginsTurn place account before after) new = new.closing ≡ old.closing
ClosesByClock to_give taken calls pair old (Rests place ports rests) new = new.closing ≡ old.closing
ClosesByClock to_give taken calls pair old (Notifies notice) new = new.closing ≡ old.closing

-- ---- a poll for bots

-- a poll that takes no time while an accept of a bot is due
pub record AwaitsBots {N C S : Type 0} (transition : N → NetworkCall C → N → Type 0) (may_block : Bool) (woken : List ℕ)
    (old new : RunState N S) : Type 0 where
  pub polls : PollsForRun transition may_block woken old new
  pub awaits : is_bot_due old.table old.acceptor ≡ true → IsNoTime polls.time

-- ---- orders

-- the status of a run, this many of whose bots are there, and some of which had no server, with what it knows of the server and counted
abbrev pub IsStatusOf : {N S : Type 0} → RunState N S → ℕ → RunStatus → Type 0
IsStatusOf state present run = (unreached most : ℕ) × (server : ServerStatus) × (counts : RunCounts) × IsRunStatus state.acceptor.came present (pending_connects state.arrivals)
    unreached (nat_le most present && is_bot_due state.table state.acceptor) state.control.stops_accepting
    (or_zero (seconds_between state.control.started_at state.table.reading)) server counts run

-- The orders of a poll. It polled the network once, and read the clock. By what was reported of the control socket then, and by
-- that reading, with the bots that are there, the control socket began its round: each order is what a connection requested. At last the network closed the
-- listener for bots, or made no call.
pub record BringsOrders {N S : Type 0} (transition : N → NetworkCall S → N → Type 0) (to_give taken : S → Option (List ℕ))
    (calls : S → Option (List StreamCall)) (old : RunState N S) (orders : Orders) (new : RunState N S) : Type 0 where
  pub time : Option Duration
  pub polled : N
  pub reported : Table
  pub polls : PollsOnce transition time old.network old.table polled reported
  pub table : Table
  pub reading : table.reading ≡ reported.reading
  pub places : length table.deadlines ≡ length old.table.deadlines
  pub reports : KeepsReportsOf (IsFixedRow old.table) reported table
  pub bots : List Bot
  pub run : RunStatus
  pub status : IsStatusOf (record old { table = table; acceptor = round_begun reported.reading old.acceptor }) (length bots) run
  pub heard : N
  pub round : BeginsRound transition to_give taken calls run bots table polled old.control orders heard new.control
  pub closes : ClosesOrNot transition heard new.network

-- What a system call does to the control socket. A poll brings the orders of its connections. The row of a session is shown to
-- each connection that gathers a status. No other call changes it. `ports_in` is the content of ports.
abbrev pub Controls : {N P S : Type 0} → (N → NetworkCall S → N → Type 0) → (S → Option (List ℕ)) → (S → Option (List ℕ)) →
    (S → Option (List StreamCall)) → (P → SocketPorts S) → RunState N S → SystemCall P → RunState N S → Type 0
Controls transition to_give taken calls ports_in old (Polls may_block woken orders) new =
    BringsOrders transition to_give taken calls old orders new
Controls transition to_give taken calls ports_in old (Shows ports status) new = (row : SessionRow)
    × IsSessionRow old.table.reading (ports_in ports).identity (ports_in ports).sides status row
    × Each (PlaceShows row) old.control.slots new.control.slots
    × (new.control ≡ record old.control { slots = new.control.slots })
Controls transition to_give taken calls ports_in old (Accepts place came) new = new.control ≡ old.control
Controls transition to_give taken calls ports_in old (Connects place connect) new = new.control ≡ old.control
Controls transition to_give taken calls ports_in old (BeginsTurn place account before after) new = new.control ≡ old.control
Controls transition to_give taken calls ports_in old (Rests place ports rests) new = new.control ≡ old.control
Controls transition to_give taken calls ports_in old (Retires place ports end) new = new.control ≡ old.control
Controls transition to_give taken calls ports_in old (Notifies notice) new = new.control ≡ old.control

-- ---- all of it

-- each taken row is that of one closing stream, and each closing stream has a row of its own
abbrev pub HoldsRows : {N S : Type 0} → RunState N S → Type 0
HoldsRows state = AreRowsOf state.table (closing_keys state.closing.streams)

-- All that a system call does to the sockets of a run whose closing streams hold their rows, as they do after it: to its
-- bots and its closing streams (`Transits`), as far as a session's rest needs it (`Wakes`), what it schedules (`Schedules`),
-- to its closing streams by the clock (`ClosesByClock`), what it keeps of the rows beside those of the places (`KeepsBeside`),
-- and to the control socket (`Controls`). `ports_in` is the content of ports.
abbrev pub RunEvolves : {N P S : Type 0} → (N → NetworkCall S → N → Type 0) → (S → Option (List ℕ)) →
    (S → Option (List ℕ)) → (S → Option (List StreamCall)) → (P → SocketPorts S) → RunState N S → SystemCall P →
    RunState N S → Type 0
RunEvolves transition to_give taken calls ports_in old call new = HoldsRows old → HoldsRows new
    × Transits to_give taken calls (λ ports. pair_of (ports_in ports)) (sockets_in old) call (sockets_in new)
    × Wakes transition calls (λ ports. (timers_of (ports_in ports)).sockets) (old.network, old.table) call
    (new.network, new.table)
    × Schedules transition (λ ports. timers_of (ports_in ports)) old call new
    × ClosesByClock to_give taken calls (λ ports. pair_of (ports_in ports)) old call new
    × KeepsBeside old.table call new.table
    × Controls transition to_give taken calls ports_in old call new
