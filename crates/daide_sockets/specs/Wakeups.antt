-- What a session's sockets know without a call of the network, and how the calls of its ports change that. What each call
-- of a system keeps of the places. (own)
use Rattle.std.specs.Prelude.{◌≡◌, ◌⊎◌, ℕ, ◌<◌, ◌≤◌, ◌==◌, ◌||◌, ◌&&◌, Bool, true, false, List, [], ◌∷◌, length, Option, All}
use Rattle.std.specs.declared.time.Duration.{Duration}
use Rattle.std.specs.declared.time.Instant.{Instant}
use Rattle.daide_frame.specs.declared.side.Side.{Side}
use Rattle.daide_frame.specs.declared.side.Side.TheVariants.{Bot, Server}
use Rattle.daide_frame.specs.PerSide.{PerSide, at}
use Rattle.daide_frame.specs.Side.{other}
use Rattle.daide_io.specs.declared.ports.Pull.{Pull}
use Rattle.daide_io.specs.declared.ports.Pull.TheVariants.{Got, Idle}
use Rattle.daide_io.specs.declared.ports.Put.{Put}
use Rattle.daide_io.specs.declared.ports.Put.TheVariants.{Took}
use Rattle.daide_io.specs.declared.system.Connect.{Connect}
use Rattle.daide_io.specs.declared.system.Connect.TheVariants.{Ready, Failed, Pending}
use Rattle.daide_sockets.specs.Clock.{earlier, has_stalled, next_deadline, is_past}
use Rattle.daide_io.specs.Network.{NetworkCall, ChecksDescriptors, StopsListening, AcceptsControl, BeginsConnect, Follows, AsksConnect}
use Rattle.daide_io.specs.Ports.{PortCall, TurnBegins, Clock, Pulled, Offered}
use Rattle.daide_io.specs.ReadyQueue.{is_among}
use Rattle.daide_io.specs.Streams.{StreamCall}
use Rattle.daide_io.specs.System.{SystemCall, Polls, Shows, Accepts, Connects, BeginsTurn, Rests, Retires, Notifies}
use Rattle.daide_buffered_io.specs.declared.readiness.Readiness.{Readiness}
use Rattle.daide_buffered_io.specs.Buffers.{IsFlushed}
use Rattle.daide_buffered_io.specs.Calls.{OnlyPuts}
use Rattle.daide_sockets.specs.declared.socket.Socket.{Socket}
use Rattle.daide_sockets.specs.Lingering.{IsWriting, TriesLast}
use Rattle.daide_sockets.specs.Sockets.{has_socket_work, write_if}
use Rattle.daide_sockets.specs.Table.{arming_all}
use Rattle.daide_sockets.specs.Table.{Table, AreDeadlinesBounded, PollsOnce, IsPollTime, merged, report_at, is_reported_at}
use Rattle.daide_sockets.specs.Table.{key_of, listener_key, deadline_at, resting, without_reports}

-- Nothing was read from a socket. What is known of reads is unchanged. A socket that is not writable stays so, one that is
-- writable stays so but for a write that its stream did not take whole, and what must be tried again stays so until the
-- next turn.
pub record StaysUnread {S : Type 0} (calls : S → Option (List StreamCall)) (old new : Socket S) : Type 0 where
  pub key : new.key ≡ old.key
  pub may_read : new.readiness.may_read ≡ old.readiness.may_read
  pub ahead : new.stream.read_buffer ≡ old.stream.read_buffer
  pub full : old.readiness.may_write ≡ false → new.readiness.may_write ≡ false
  pub writes : OnlyPuts calls old.readiness old.stream.stream new.readiness new.stream.stream
  pub tries_again : old.tries_again ≡ true → new.tries_again ≡ true

-- What is held for a socket was written once, unless it gathers the parts of an answer to bytes that it just returned.
abbrev pub IsFlushedUnlessGathered : {S : Type 0} → (S → Option (List StreamCall)) → Socket S → Socket S → Type 0
IsFlushedUnlessGathered calls old new = (old.is_gathering && old.has_pulled) ≡ false → IsWriting old.stream →
    IsFlushed calls old.readiness old.stream new.readiness new.stream

-- a pull that returned neither a byte nor the end
abbrev pub IsNothing : Pull → Type 0
IsNothing pull = (pull ≡ Idle) ⊎ (pull ≡ Got 0)

-- A socket was pulled, with this much room. If it returned nothing though there was room, it is not readable and nothing
-- was read ahead, or a read must be tried again. What is known of writes is unchanged.
pub record IsPulled {S : Type 0} (room : ℕ) (pull : Pull) (old new : Socket S) : Type 0 where
  pub key : new.key ≡ old.key
  pub none_left : IsNothing pull → 0 < room → new.tries_again ≡ false →
      (new.readiness.may_read ≡ false) × (new.stream.read_buffer ≡ [])
  pub writes : new.readiness.may_write ≡ old.readiness.may_write
  pub tries_again : old.tries_again ≡ true → new.tries_again ≡ true

-- A socket was offered these bytes. If it took none of some, it is not writable, or a write must be tried again.
pub record IsOffered {S : Type 0} (calls : S → Option (List StreamCall)) (bytes : List ℕ) (put : Put) (old new : Socket S) : Type 0 where
  pub none_taken : put ≡ Took 0 → 0 < length bytes → new.tries_again ≡ false → new.readiness.may_write ≡ false
  pub unread : StaysUnread calls old new

-- A turn begins for a socket at this reading of the clock, by what is known of it. It is put to, if at all. If the stall
-- timeout of its peer is over, what is held is written in any case, and the peer is given up if it takes none of it.
abbrev pub BeginsWriting : {S : Type 0} → (S → Option (List StreamCall)) → Option Instant → Readiness → Socket S → Socket S →
    Type 0
BeginsWriting calls reading known old new =
    OnlyPuts calls (write_if (has_stalled old.stall_time reading old.stalls_at) known) old.stream.stream
    new.readiness new.stream.stream
    × (has_stalled old.stall_time reading old.stalls_at ≡ true → TriesLast calls known old.stream new.readiness new.stream)

-- A turn began for a socket: it keeps its row, reports of polls were added to what is known of it, and then it was put to,
-- if at all (`BeginsWriting`).
abbrev pub BeginsToSettle : {S : Type 0} → (S → Option (List StreamCall)) → Socket S → Socket S → Type 0
BeginsToSettle calls old new = (new.key ≡ old.key) × (reading : Option Instant) × (report : Readiness)
    × BeginsWriting calls reading (merged old.readiness report) old new

-- What the sockets of a session know after a call of its ports. From the socket of the side that the call does not name
-- nothing is read.
abbrev pub Settles : {S : Type 0} → (S → Option (List StreamCall)) → PortCall → PerSide (Socket S) → PerSide (Socket S) →
    Type 0
Settles calls TurnBegins old new = (side : Side) → BeginsToSettle calls (at old side) (at new side)
Settles calls (Clock event) old new = new ≡ old
Settles calls (Pulled side room pull bytes) old new =
    IsPulled room pull (at old side) (at new side) × StaysUnread calls (at old (other side)) (at new (other side))
Settles calls (Offered side bytes put) old new =
    IsOffered calls bytes put (at old side) (at new side) × StaysUnread calls (at old (other side)) (at new (other side))

-- ---- rest

-- The sockets of a session, the reading of the clock at which its last turn began, and the deadline of its initial
-- message.
pub record SessionSockets (S : Type 0) : Type 0 where
  pub sides : PerSide (Socket S)
  pub reading : Option Instant
  pub im_due : Option Instant

-- the socket of a side
abbrev pub socket_at : {S : Type 0} → SessionSockets S → Side → Socket S
socket_at session side = at session.sides side

-- Something may be done at once for the socket of a row: a poll reported something that was not taken yet, or there is work.
abbrev pub may_go_on : {S : Type 0} → Table → ℕ → Socket S → Bool
may_go_on table key socket = is_reported_at table key || has_socket_work socket.stream socket.readiness socket.tries_again

-- the same for either socket of the session at a place
abbrev pub may_session_go_on : {S : Type 0} → Table → ℕ → SessionSockets S → Bool
may_session_go_on table place session =
    may_go_on table (key_of place Bot) session.sides.bot || may_go_on table (key_of place Server) session.sides.server

-- the nearest deadline of a session: of its peers' timeouts, and of the initial message
abbrev pub session_due : {S : Type 0} → SessionSockets S → Option Instant
session_due session =
    earlier (earlier (next_deadline session.reading session.sides.bot.stalls_at session.sides.bot.silent_from)
    (next_deadline session.reading session.sides.server.stalls_at session.sides.server.silent_from)) session.im_due

-- A session is to rest: it does exactly if nothing may be done at once for it, and then until its nearest deadline.
abbrev pub RestsFor : {S : Type 0} → Bool → Table → ℕ → SessionSockets S → Table → Type 0
RestsFor true old place session new =
    (may_session_go_on old place session ≡ false) × (new ≡ resting old place (session_due session))
RestsFor false old place session new = (may_session_go_on old place session ≡ true) × (new ≡ old)

-- ---- what a call keeps

-- a place keeps the reports of its two rows, and its deadline
pub record KeepsPlace (old : Table) (place : ℕ) (new : Table) : Type 0 where
  pub reports : (side : Side) → report_at new (key_of place side) ≡ report_at old (key_of place side)
  pub deadline : deadline_at new place ≡ deadline_at old place

-- So does each place but one.
abbrev pub KeepsOtherPlaces : Table → ℕ → Table → Type 0
KeepsOtherPlaces old place new =
    (other : ℕ) → other < length old.deadlines → (place == other) ≡ false → KeepsPlace old other new

-- A connect that did not fail leaves what was reported of its bot in the row, for the first turn of the session. What was
-- reported of the server is known of its socket then. `view` is the content of ports.
abbrev pub KeepsReports : {P S : Type 0} → (P → SessionSockets S) → Connect P → Table → ℕ → Table → Type 0
KeepsReports view (Ready ports) old place new = (report_at new (key_of place Bot) ≡ report_at old (key_of place Bot))
    × (merged (view ports).sides.server.readiness (report_at old (key_of place Server)) ≡ (view ports).sides.server.readiness)
KeepsReports view Failed old place new = Unit {0}
KeepsReports view Pending old place new = report_at new (key_of place Bot) ≡ report_at old (key_of place Bot)

-- a call that follows a connection
abbrev pub is_follow : {C : Type 0} → NetworkCall C → Bool
is_follow (Follows before key is_followed after) = true
is_follow _ = false

-- a call of a connect: it begins, is asked for its state, or is followed
abbrev pub is_of_connect : {C : Type 0} → NetworkCall C → Bool
is_of_connect (BeginsConnect address begun) = true
is_of_connect (Follows before key is_followed after) = true
is_of_connect (AsksConnect connection report) = true
is_of_connect _ = false

-- a call that a poll may make after it: descriptors are checked, a control connection is accepted or followed, or the listener for
-- bots is closed
abbrev pub is_after_poll : {C : Type 0} → NetworkCall C → Bool
is_after_poll StopsListening = true
is_after_poll (ChecksDescriptors count checked) = true
is_after_poll (AcceptsControl accepted) = true
is_after_poll (Follows before key is_followed after) = true
is_after_poll _ = false

-- the network went from one value to another by these calls
abbrev pub CallsNetworkBy : {N C : Type 0} → (N → NetworkCall C → N → Type 0) → N → List (NetworkCall C) → N → Type 0
CallsNetworkBy transition old [] new = new ≡ old
CallsNetworkBy {N} transition old (call ∷ calls) new = (mid : N) × transition old call mid × CallsNetworkBy transition mid calls new

-- the same, by calls of this kind alone
abbrev pub GoesBy : {N C : Type 0} → (NetworkCall C → Bool) → (N → NetworkCall C → N → Type 0) → N → N → Type 0
GoesBy {N} {C} kind transition old new =
    (calls : List (NetworkCall C)) × CallsNetworkBy transition old calls new × All (λ call. kind call ≡ true) calls

-- ---- a turn

-- The turn of the session at a place begins: what polls reported of each socket is added to what is known of it, and no
-- more is in the rows.
pub record TakesReports {S : Type 0} (calls : S → Option (List StreamCall)) (old : Table) (place : ℕ)
    (before after : SessionSockets S) (new : Table) : Type 0 where
  pub writes : (side : Side) → BeginsWriting calls after.reading
      (merged (socket_at before side).readiness (report_at old (key_of place side))) (socket_at before side) (socket_at after side)
  pub table : new ≡ without_reports old place

-- ---- a poll

-- The network is polled once, for this time, and the places are woken of which something was reported, or whose deadline is
-- past. Any other place keeps its reports and its deadline, which is not past.
pub record PollsPlaces {N C : Type 0} (transition : N → NetworkCall C → N → Type 0) (time : Option Duration)
    (woken : List ℕ) (old : N) (before : Table) (new : N) (after : Table) : Type 0 where
  pub reported : Table
  pub polls : PollsOnce transition time old before new reported
  pub asleep : (place : ℕ) → place < length before.deadlines → is_among place woken ≡ false →
      KeepsPlace before place after × (is_past after.reading (deadline_at after place) ≡ false)
  pub places : length after.deadlines ≡ length before.deadlines
  pub bounded : AreDeadlinesBounded after
  pub same : after ≡ record reported { deadlines = after.deadlines; due = after.due }

-- The network is polled once, for the time of a poll that watches these beside the places, each with work or without it,
-- and with its nearest deadline. All that was reported of the sockets of places, and of the listener, is in their rows. A
-- place that is not woken keeps its reports and its deadline, and its deadline is not past.
pub record PollsForPlaces {N C : Type 0} (transition : N → NetworkCall C → N → Type 0) (others : List (Bool × Option Instant))
    (may_block : Bool) (woken : List ℕ) (old : N) (before : Table) (new : N) (after : Table) : Type 0 where
  pub time : Option Duration
  pub polled : N
  pub reported : Table
  pub lasts : IsPollTime may_block (arming_all before others) time
  pub polls : PollsOnce transition time old before polled reported
  pub goes_on : GoesBy is_after_poll transition polled new
  pub reading : after.reading ≡ reported.reading
  pub reports : (key : ℕ) → key ≤ listener_key before → report_at after key ≡ report_at reported key
  pub asleep : (place : ℕ) → place < length before.deadlines → is_among place woken ≡ false →
      KeepsPlace before place after × (is_past after.reading (deadline_at after place) ≡ false)

-- ---- calls

-- Each call keeps the number of places, and no place has a deadline before `due` after it.
pub record KeepsPlaces (old new : Table) : Type 0 where
  pub places : length new.deadlines ≡ length old.deadlines
  pub bounded : AreDeadlinesBounded new

-- What a call does to the network and the table, as far as the places need it; `view` is the content of ports. Only a poll
-- polls the network. What an accept does to it is in `AsksListener`. A connect makes only calls of connects, and the end of a
-- session follows only its sockets: neither accepts a bot or closes a listener. A call about a place keeps what is known of
-- the others, and one that is about none changes nothing.
abbrev pub WakesBy : {P S N C : Type 0} → (N → NetworkCall C → N → Type 0) → (S → Option (List StreamCall)) →
    (P → SessionSockets S) → N × Table → SystemCall P → N × Table → Type 0
WakesBy transition calls view old (Polls may_block woken orders) new = (others : List (Bool × Option Instant))
    × PollsForPlaces transition others may_block woken old.0 old.1 new.0 new.1
WakesBy transition calls view old (Shows ports status) new = new ≡ old
WakesBy transition calls view old (Accepts place came) new = KeepsOtherPlaces old.1 place new.1
WakesBy transition calls view old (Connects place connect) new =
    GoesBy is_of_connect transition old.0 new.0 × KeepsOtherPlaces old.1 place new.1
    × KeepsReports view connect old.1 place new.1
WakesBy transition calls view old (BeginsTurn place account before after) new =
    (new.0 ≡ old.0) × TakesReports calls old.1 place (view before) (view after) new.1
WakesBy transition calls view old (Rests place ports rests) new =
    (new.0 ≡ old.0) × RestsFor rests old.1 place (view ports) new.1
WakesBy transition calls view old (Retires place ports end) new =
    GoesBy is_follow transition old.0 new.0 × KeepsOtherPlaces old.1 place new.1
WakesBy transition calls view old (Notifies notice) new = new ≡ old

abbrev pub Wakes : {P S N C : Type 0} → (N → NetworkCall C → N → Type 0) → (S → Option (List StreamCall)) →
    (P → SessionSockets S) → N × Table → SystemCall P → N × Table → Type 0
Wakes transition calls view old call new = KeepsPlaces old.1 new.1 × WakesBy transition calls view old call new
