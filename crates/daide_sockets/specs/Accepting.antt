-- The condition for an accept, and the calls on the network of which it is one. (own)
use Rattle.std.specs.Prelude.{◌≡◌, ◌≤◌, ◌⊎◌, ℕ, zero, suc, ◌+◌, ◌/◌, min, ◌&&◌, ◌||◌, not, Bool, true, false, List, length}
use Rattle.std.specs.Prelude.{Option, Some, None, Result, Ok, Err, slice_get, if◌then◌else◌}
use Rattle.std.specs.declared.io.Error.{Error}
use Rattle.std.specs.declared.io.ErrorKind.{ErrorKind}
use Rattle.std.specs.declared.net.socket_addr.SocketAddr.{SocketAddr}
use Rattle.std.specs.declared.io.ErrorKind.TheVariants as Kinds
use Rattle.std.specs.declared.time.Instant.{Instant}
use Rattle.daide_io.specs.Network.{NetworkCall, ChecksDescriptors, AcceptsConnection, BeginsConnect, AsksConnect, Follows, StopsListening, connect_status}
use Rattle.daide_io.specs.declared.network.ConnectReport.{ConnectReport}
use Rattle.daide_io.specs.declared.network.ConnectStatus.TheVariants.{Connected}
use Rattle.daide_buffered_io.specs.declared.readiness.Readiness.{Readiness}
use Rattle.daide_sockets.specs.declared.admission.Acceptor.{Acceptor}
use Rattle.daide_sockets.specs.declared.admission.NoBot.{NoBot}
use Rattle.daide_sockets.specs.declared.admission.NoBot.TheVariants as NoBots
use Rattle.daide_sockets.specs.declared.listener.Listener.{Listener}
use Rattle.daide_sockets.specs.Table.{Table, listener_key, merged, report_at}
use Rattle.daide_sockets.specs.Clock.{IsAfter, is_past}

-- no bot is accepted for this many nanoseconds after a failed accept
abbrev pub accept_pause : ℕ
accept_pause = 100000000

-- Whether an accept is made. During the pause none is, and after it one is. Without a pause one is made if the listener
-- is ready.
abbrev pub is_accept_made : Option Instant → Bool → Option Instant → Bool
is_accept_made now may_accept None = may_accept
is_accept_made now may_accept (Some resumes_at) = is_past now (Some resumes_at)

-- the end of the pause after an accept that failed for this reason; one that would have blocked begins no pause
abbrev pub Pauses : Option Instant → ErrorKind → Option Instant → Type 0
Pauses now Kinds.WouldBlock resumes_at = resumes_at ≡ None
Pauses now kind resumes_at = IsAfter now accept_pause resumes_at

-- whether an accept is made, by a listener, the report of its row, and the table's reading of the clock
abbrev pub is_accept_due : Table → ℕ → Listener → Bool
is_accept_due table key listener =
    is_accept_made table.reading (listener.may_accept || (report_at table key).may_read) listener.resumes_at

-- whether an accept of a bot is due: the listener is not closed, it is ready, and no pause is under way
abbrev pub is_bot_due : Table → Acceptor → Bool
is_bot_due table acceptor =
    not acceptor.is_closed && is_accept_due table (listener_key table) acceptor.listener

-- a listener once the end of its pause is past at this reading of the clock: then an accept may give a connection
abbrev pub resumed : Option Instant → Listener → Listener
resumed now listener =
    if is_past now listener.resumes_at then record { may_accept = true; resumes_at = None } else listener

-- the acceptor as a round begins: it was not asked for a bot yet, and a pause whose end is past is over
abbrev pub round_begun : Option Instant → Acceptor → Acceptor
round_begun now acceptor = record acceptor { awaits_bots = false; listener = resumed now acceptor.listener }

-- the acceptor once its listener is closed
abbrev pub shut : Acceptor → Acceptor
shut acceptor = record acceptor {
  awaits_bots = false;
  is_closed = true;
  listener = record acceptor.listener { resumes_at = None };
}

-- the acceptor after its listener was closed, or was not
abbrev pub shut_if : Bool → Acceptor → Acceptor
shut_if closes acceptor = if closes then shut acceptor else acceptor

-- the connection that an accept gave, with its peer's address, if it gave one
abbrev pub connection_given : {C : Type 0} → Result (C × SocketAddr) Error → Option (C × SocketAddr)
connection_given (Ok came) = Some came
connection_given (Err error) = None

-- the listener for bots was closed, or no call was made
abbrev pub ClosesOrNot : {N C : Type 0} → (N → NetworkCall C → N → Type 0) → N → N → Type 0
ClosesOrNot transition old new = (new ≡ old) ⊎ transition old StopsListening new

-- the descriptors that an accept of a bot needs: for its connection, for that to its server, for its record, if it has one, and
-- one that it leaves to a control connection
abbrev pub descriptors_for : Bool → ℕ
descriptors_for false = 3
descriptors_for true = 4

-- An accept while so many further descriptors are free. Without them it fails with the system's error, and none is made.
pub data AcceptsBeside {N C : Type 0} (transition : N → NetworkCall C → N → Type 0) (count : ℕ) (old new : N)
    (accepted : Result (C × SocketAddr) Error) : Type 0 where
  LacksDescriptors : (error : Error) → transition old (ChecksDescriptors count (Err error)) new → accepted ≡ Err error →
      AcceptsBeside transition count old new accepted
  HasDescriptors : (mid : N) → transition old (ChecksDescriptors count (Ok tt)) mid →
      transition mid (AcceptsConnection accepted) new → AcceptsBeside transition count old new accepted

-- exactly one accept was tried, and what it gave is returned
pub record AcceptsOnce {N C : Type 0} (transition : N → NetworkCall C → N → Type 0) (count : ℕ) (old new : N)
    (result : Option (C × SocketAddr)) : Type 0 where
  pub accepted : Result (C × SocketAddr) Error
  pub call : AcceptsBeside transition count old new accepted
  pub given : result ≡ connection_given accepted

-- no call was made, or one by which this connection is followed
abbrev pub FollowsAtMostOnce : {N C : Type 0} → (N → NetworkCall C → N → Type 0) → C → N → N → Type 0
FollowsAtMostOnce {C = C} transition connection old new =
    (new ≡ old) ⊎ (key : ℕ) × (is_followed : Bool) × (after : C)
    × transition old (Follows connection key is_followed after) new

-- no call was made but one by which the accepted connection is followed
abbrev pub FollowsAccepted : {N C : Type 0} → (N → NetworkCall C → N → Type 0) → Result (C × SocketAddr) Error → N → N → Type 0
FollowsAccepted transition (Ok came) old new = FollowsAtMostOnce transition came.0 old new
FollowsAccepted transition (Err error) old new = new ≡ old

-- One accept was tried, and then no call but one by which its connection is followed. So no other bot was accepted.
pub record AcceptsOneBot {N C : Type 0} (transition : N → NetworkCall C → N → Type 0) (count : ℕ) (old new : N) : Type 0 where
  pub accepted : Result (C × SocketAddr) Error
  pub mid : N
  pub call : AcceptsBeside transition count old mid accepted
  pub rest : FollowsAccepted transition accepted mid new

-- the connection that a connect began is followed under this key, or the system refused; without one no call was made
abbrev pub FollowsBegun : {N C : Type 0} → (N → NetworkCall C → N → Type 0) → ℕ → Result C Error → N → N → Type 0
FollowsBegun {C = C} transition key (Ok connection) old new =
    (is_followed : Bool) × (after : C) × transition old (Follows connection key is_followed after) new
FollowsBegun transition key (Err error) old new = new ≡ old

-- one connect was made to this address, and then one call by which its connection is followed under this key
pub record ConnectsOnce {N C : Type 0} (transition : N → NetworkCall C → N → Type 0) (key : ℕ) (address : SocketAddr)
    (old new : N) : Type 0 where
  pub begun : Result C Error
  pub mid : N
  pub call : transition old (BeginsConnect address begun) mid
  pub rest : FollowsBegun transition key begun mid new

-- One connect was made to each of the first `count` addresses from this place on, in their order, each followed under this
-- key, and nothing else.
abbrev pub ConnectsFrom : {N C : Type 0} → (N → NetworkCall C → N → Type 0) → List SocketAddr → ℕ → ℕ → ℕ → N → N → Type 0
ConnectsFrom transition addresses key place zero old new = new ≡ old
ConnectsFrom {N = N} transition addresses key place (suc count) old new = (mid : N) × (address : SocketAddr)
    × ConnectsFrom transition addresses key place count old mid
    × (slice_get addresses (place + count) ≡ Some address) × ConnectsOnce transition key address mid new

-- A connect may have a result if its socket is writable by what is known of it, or by the report of its row. One that did
-- not begin has failed.
abbrev pub may_connect : Table → ℕ → Option Readiness → Bool
may_connect table key None = true
may_connect table key (Some known) = (merged known (report_at table key)).may_write

-- no call was made, or one that asks what is reported of a connect
abbrev pub AsksAtMostOnce : {N C : Type 0} → (N → NetworkCall C → N → Type 0) → N → N → Type 0
AsksAtMostOnce {C = C} transition old new =
    (new ≡ old) ⊎ (connection : C) × (report : ConnectReport) × transition old (AsksConnect connection report) new

-- the network was asked for the state of the connect of this connection, and reported that it succeeded
abbrev pub HasConnected : {N C : Type 0} → (N → NetworkCall C → N → Type 0) → C → N → N → Type 0
HasConnected transition connection old new = (report : ConnectReport) × transition old (AsksConnect connection report) new
    × (connect_status report.failure report.has_peer ≡ Connected)

-- A look at a connect, of whose addresses the first `before` were tried: its state is asked at most once, and then connects are
-- made to the next addresses, up to the first `after`.
pub record TriesOn {N C : Type 0} (transition : N → NetworkCall C → N → Type 0) (addresses : List SocketAddr)
    (key before after : ℕ) (old new : N) : Type 0 where
  pub mid : N
  pub asks : AsksAtMostOnce transition old mid
  pub count : ℕ
  pub counted : after ≡ before + count
  pub connects : ConnectsFrom transition addresses key before count mid new

-- the part of a time, in nanoseconds, that each of this number of addresses has
abbrev pub time_part : ℕ → ℕ → ℕ
time_part time zero = time
time_part time (suc others) = time / min (suc others) 4294967295

-- the moment at which the next address is tried: after this part of the time, if an address is left
abbrev pub IsNextTry : Option Instant → Bool → ℕ → Option Instant → Type 0
IsNextTry reading true (suc rest) moment = IsAfter reading (suc rest) moment
IsNextTry reading true zero moment = moment ≡ None
IsNextTry reading false part moment = moment ≡ None

-- The deadline of a connect is past at this reading, or each of the addresses was tried: the first `before` of them
-- earlier, and the others now.
pub data IsUnreached {N C : Type 0} (transition : N → NetworkCall C → N → Type 0) (addresses : List SocketAddr) (key : ℕ)
    (reading due : Option Instant) (before : ℕ) (old new : N) : Type 0 where
  IsLate : is_past reading due ≡ true → IsUnreached transition addresses key reading due before old new
  TriedAll : (after : ℕ) → length addresses ≤ after → TriesOn transition addresses key before after old new →
      IsUnreached transition addresses key reading due before old new

-- One accept was tried, its connection was followed, and then connects were made to some of these addresses, from the first
-- on, each followed under this key. So no other bot was accepted, by whichever call.
pub record AcceptsThenConnects {N C : Type 0} (transition : N → NetworkCall C → N → Type 0) (count : ℕ)
    (addresses : List SocketAddr) (key : ℕ) (old new : N) : Type 0 where
  pub mid : N
  pub accepts : AcceptsOneBot transition count old mid
  pub tried : ℕ
  pub connects : ConnectsFrom transition addresses key 0 tried mid new

-- One accept was made, which gave a connection with this address, and then one call by which that connection is followed under
-- this key, as this one. So the bot of this connection has the address that the network returned.
pub record BringsBot {N C : Type 0} (transition : N → NetworkCall C → N → Type 0) (count : ℕ) (address : SocketAddr) (key : ℕ)
    (connection : C) (old new : N) : Type 0 where
  pub given : C
  pub mid : N
  pub accepts : AcceptsBeside transition count old mid (Ok (given, address))
  pub follows : transition mid (Follows given key true connection) new

-- Why a due accept brings no bot: it failed, or a descriptor was missing; or its bot may not come, by its address; or the system
-- refused to follow its connection. The address is the one that the network returned with the connection.
pub data BringsNoBot {N C : Type 0} (transition : N → NetworkCall C → N → Type 0) (count : ℕ) (may_come : SocketAddr → Bool)
    (old new : N) (why : NoBot) : Type 0 where
  Fails : (error : Error) → AcceptsBeside transition count old new (Err error) → why ≡ NoBots.NoneCame →
      BringsNoBot transition count may_come old new why
  MayNotCome : (came : C × SocketAddr) → AcceptsBeside transition count old new (Ok came) → may_come came.1 ≡ false →
      why ≡ NoBots.MayNotCome came.1 → BringsNoBot transition count may_come old new why
  IsRefused : (came : C × SocketAddr) (mid : N) (key : ℕ) (after : C) → AcceptsBeside transition count old mid (Ok came) →
      transition mid (Follows came.0 key false after) new → why ≡ NoBots.NotFollowed came.1 →
      BringsNoBot transition count may_come old new why

-- whether a bot may not come
abbrev pub is_declined : NoBot → Bool
is_declined NoBots.NoneCame = false
is_declined (NoBots.MayNotCome address) = true
is_declined (NoBots.NotFollowed address) = false

-- an accept was made, and gave a connection
pub record GivesConnection {N C : Type 0} (transition : N → NetworkCall C → N → Type 0) (count : ℕ) (old : N) : Type 0 where
  pub came : C × SocketAddr
  pub mid : N
  pub call : AcceptsBeside transition count old mid (Ok came)
