-- The sockets of a run beside those of its sessions, and the effect of each system call on them. (own)
use Rattle.std.specs.Prelude.{◌≡◌, ◌⊎◌, ℕ, ◌+◌, ◌-◌, ◌≤◌, nat_lt, Bool, true, false, List, [], ◌∷◌, ◌++◌, length, remove}
use Rattle.std.specs.Prelude.{Option, Some, None, Ok, slice_get, slice_set, if◌then◌else◌}
use Rattle.std.specs.declared.net.socket_addr.SocketAddr.{SocketAddr}
use Rattle.daide_io.specs.Network.{NetworkCall, BeginsConnect, Follows}
use Rattle.daide_io.specs.System.{SystemCall, Polls, Shows, Accepts, Connects, BeginsTurn, Rests, Retires, Notifies}
use Rattle.daide_io.specs.declared.system.Connect.TheVariants.{Ready, Failed, Pending}
use Rattle.daide_buffered_io.specs.Buffers.{Buffer, with_stream}
use Rattle.daide_buffered_io.specs.declared.readiness.Readiness.{Readiness}
use Rattle.daide_io.specs.Streams.{StreamCall, IsSameStream}
use Rattle.std.specs.declared.time.Duration.{Duration}
use Rattle.std.specs.declared.time.Instant.{Instant}
use Rattle.daide_sockets.specs.declared.present.Bot.{Bot}
use Rattle.daide_sockets.specs.Clock.{IsAfter}
use Rattle.daide_sockets.specs.Lingering.{ClosingStream, ClosingList, IsClosingBound, begins_closing, WritesOut, ClosingsGoOn}

-- ---- values

-- a bot whose connect to the server is pending: who it is, and its stream; the stream of the connect, if there is one, and
-- what is known of it without a call; how many of the server's addresses were tried; the deadline of the connect, and that
-- of its initial message
pub record Arriving (S : Type 0) : Type 0 where
  pub identity : Bot
  pub bot : Buffer S
  pub server : Option (Buffer S)
  pub known : Option Readiness
  pub tried : ℕ
  pub gives_up : Option Instant
  pub im_due : Option Instant
  pub part : Duration
  pub moves_on : Option Instant

-- the bot of a session, its stream, and that of the server
pub record Paired (S : Type 0) : Type 0 where
  pub identity : Bot
  pub bot : Buffer S
  pub server : Buffer S

-- the number of bots accepted; at each place the bot whose connect is pending, if there is one; and the closing streams
pub record RunSockets (S : Type 0) : Type 0 where
  pub came : ℕ
  pub arrivals : List (Option (Arriving S))
  pub closing : ClosingList S

-- ---- places

abbrev pub arrival_in : {S : Type 0} → Option (Option (Arriving S)) → Option (Arriving S)
arrival_in None = None
arrival_in (Some arrival) = arrival

-- the bot at a place whose connect is pending, if there is one
abbrev pub arrival_at : {S : Type 0} → List (Option (Arriving S)) → ℕ → Option (Arriving S)
arrival_at arrivals place = arrival_in (slice_get arrivals place)

abbrev pub one_if_arrives : {S : Type 0} → Option (Arriving S) → ℕ
one_if_arrives None = 0
one_if_arrives (Some arrival) = 1

-- the sum of a number of each place
abbrev pub sum_over : {S : Type 0} → (Option (Arriving S) → ℕ) → List (Option (Arriving S)) → ℕ
sum_over number [] = 0
sum_over number (arrival ∷ arrivals) = number arrival + sum_over number arrivals

-- how many connects are pending
abbrev pub pending_connects : {S : Type 0} → List (Option (Arriving S)) → ℕ
pending_connects arrivals = sum_over one_if_arrives arrivals

abbrev pub is_vacant_in : {S : Type 0} → Option (Option (Arriving S)) → Bool
is_vacant_in None = false
is_vacant_in (Some None) = true
is_vacant_in (Some (Some arrival)) = false

-- this is a place, and no bot there has a pending connect
abbrev pub is_vacant : {S : Type 0} → List (Option (Arriving S)) → ℕ → Bool
is_vacant arrivals place = is_vacant_in (slice_get arrivals place)

-- ---- bots and their connects

-- a stream with empty buffers, of which no write failed
abbrev pub IsFresh : {S : Type 0} → Buffer S → Type 0
IsFresh stream = (stream.read_buffer ≡ []) × (stream.write_buffer ≡ []) × (stream.has_failed ≡ false)

-- a connect that just began, or none
abbrev pub IsFreshConnect : {S : Type 0} → Option (Buffer S) → Type 0
IsFreshConnect None = Unit {0}
IsFreshConnect (Some stream) = IsFresh stream

-- the ports are this bot's, and hold its stream and that of its own connect
pub record IsJoined {S : Type 0} (arrival : Arriving S) (pair : Paired S) : Type 0 where
  pub identity : pair.identity ≡ arrival.identity
  pub bot : pair.bot ≡ arrival.bot
  pub server : arrival.server ≡ Some pair.server

-- the same bot, whose connect is unchanged or began again, and of whose addresses none is tried a second time
pub record StaysPending {S : Type 0} (old new : Arriving S) : Type 0 where
  pub identity : new.identity ≡ old.identity
  pub bot : new.bot ≡ old.bot
  pub server : (new.server ≡ old.server) ⊎ IsFreshConnect new.server
  pub tried : old.tried ≤ new.tried
  pub gives_up : new.gives_up ≡ old.gives_up
  pub im_due : new.im_due ≡ old.im_due
  pub part : new.part ≡ old.part

-- The bot at a place, if there is one, stays pending. No other place changes.
abbrev pub StaysPendingIf : {S : Type 0} → Option (Arriving S) → List (Option (Arriving S)) → ℕ → List (Option (Arriving S)) →
    Type 0
StaysPendingIf None old place new = new ≡ old
StaysPendingIf {S} (Some arrival) old place new =
    (later : Arriving S) × StaysPending arrival later × (new ≡ slice_set old place (Some later))

-- the bot at a place is taken out, unchanged
pub record TakesOut {S : Type 0} (old : List (Option (Arriving S))) (place : ℕ) (arrival : Arriving S)
    (new : List (Option (Arriving S))) : Type 0 where
  pub there : slice_get old place ≡ Some (Some arrival)
  pub free : new ≡ slice_set old place None

-- The last two calls on the network were a connect to one of these addresses, which began, and one by which its
-- connection is followed under this key.
pub record ConnectsTo {N C : Type 0} (transition : N → NetworkCall C → N → Type 0) (addresses : List SocketAddr)
    (connection : C) (key : ℕ) (new : N) : Type 0 where
  pub place : ℕ
  pub address : SocketAddr
  pub listed : slice_get addresses place ≡ Some address
  pub begun : C
  pub before : N
  pub mid : N
  pub begins : transition before (BeginsConnect address (Ok begun)) mid
  pub follows : transition mid (Follows begun key true connection) new

-- ---- streams that close

-- at most 256 close at once: a further one closes the oldest
abbrev pub with_room : {S : Type 0} → ClosingList S → ClosingList S
with_room closing = if nat_lt (length closing.streams) 256 then closing
    else record closing { streams = remove closing.streams 0; next = closing.next - 1; pass_end = closing.pass_end - 1 }

-- One more stream closes, as the last, after the pass, at this reading of the clock, from which its bound is counted. It is
-- followed under another key, which leaves its bytes and its trace as they are. Its buffered bytes stay buffered, except for
-- those that it took.
pub record ClosesAt {S : Type 0} (to_give taken : S → Option (List ℕ)) (calls : S → Option (List StreamCall))
    (reading : Option Instant) (old : ClosingList S) (stream : Buffer S) (new : ClosingList S) : Type 0 where
  pub key : ℕ
  pub known : Readiness
  pub moved : S
  pub is_same : IsSameStream to_give taken calls stream.stream moved
  pub bound : Option Instant
  pub bounded : IsClosingBound reading old.stall_time bound
  pub last : ClosingStream S
  pub writes : WritesOut to_give taken calls reading
      (begins_closing old.stall_time bound key known (with_stream stream moved)) last
  pub now : new ≡ record (with_room old) { streams = (with_room old).streams ++ last ∷ [] }

-- the same at some reading
abbrev pub Closes : {S : Type 0} → (S → Option (List ℕ)) → (S → Option (List ℕ)) → (S → Option (List StreamCall)) →
    ClosingList S → Buffer S → ClosingList S → Type 0
Closes to_give taken calls old stream new =
    (reading : Option Instant) × ClosesAt to_give taken calls reading old stream new

-- the bot's stream closes, and then the server's, both at this reading of the clock
abbrev pub ClosesBothAt : {S : Type 0} → (S → Option (List ℕ)) → (S → Option (List ℕ)) →
    (S → Option (List StreamCall)) → Option Instant → ClosingList S → Paired S → ClosingList S → Type 0
ClosesBothAt {S} to_give taken calls reading old pair new = (mid : ClosingList S)
    × ClosesAt to_give taken calls reading old pair.bot mid × ClosesAt to_give taken calls reading mid pair.server new

-- the bot's stream closes, and then the server's
abbrev pub ClosesBoth : {S : Type 0} → (S → Option (List ℕ)) → (S → Option (List ℕ)) → (S → Option (List StreamCall)) →
    ClosingList S → Paired S → ClosingList S → Type 0
ClosesBoth {S} to_give taken calls old pair new = (mid : ClosingList S)
    × Closes to_give taken calls old pair.bot mid × Closes to_give taken calls mid pair.server new

-- ---- system calls

-- One more bot was accepted: it has the next number and this place, which was free, and its connect begins.
pub record Comes {S : Type 0} (old : RunSockets S) (place : ℕ) (new : RunSockets S) : Type 0 where
  pub arrival : Arriving S
  pub came : new.came ≡ old.came + 1
  pub free : is_vacant old.arrivals place ≡ true
  pub arrivals : new.arrivals ≡ slice_set old.arrivals place (Some arrival)
  pub number : arrival.identity.number ≡ new.came
  pub bot : IsFresh arrival.bot
  pub server : IsFreshConnect arrival.server
  pub closing : new.closing ≡ old.closing

-- the bot at a place, whose IM timer and whose connect run for these times from this reading of the clock on
abbrev pub ComesWith : {S : Type 0} → List (Option (Arriving S)) → ℕ → Option Instant → ℕ → ℕ → List (Option (Arriving S)) →
    Type 0
ComesWith {S} old place reading im_time connect_time new = (arrival : Arriving S)
    × (new ≡ slice_set old place (Some arrival)) × IsAfter reading im_time arrival.im_due
    × IsAfter reading connect_time arrival.gives_up

-- The effect of a system call on the sockets; `pair` is the content of ports. At a poll closing streams advance. A status
-- that is shown, or a session that rests, changes nothing. A turn begins with the streams of one session, and leaves these
-- here unchanged.
abbrev pub Transits : {P S : Type 0} → (S → Option (List ℕ)) → (S → Option (List ℕ)) →
    (S → Option (List StreamCall)) → (P → Paired S) → RunSockets S → SystemCall P → RunSockets S → Type 0
Transits to_give taken calls pair old (Polls may_block woken orders) new = (new.came ≡ old.came)
    × (new.arrivals ≡ old.arrivals) × ClosingsGoOn to_give taken calls old.closing new.closing
Transits to_give taken calls pair old (Shows ports status) new = new ≡ old
Transits to_give taken calls pair old (Accepts place true) new = Comes old place new
Transits to_give taken calls pair old (Accepts place false) new = new ≡ old
Transits {S = S} to_give taken calls pair old (Connects place (Ready ports)) new = (arrival : Arriving S)
    × TakesOut old.arrivals place arrival new.arrivals × IsJoined arrival (pair ports) × (new.came ≡ old.came)
    × (new.closing ≡ old.closing)
Transits {S = S} to_give taken calls pair old (Connects place Failed) new = (arrival : Arriving S)
    × TakesOut old.arrivals place arrival new.arrivals × Closes to_give taken calls old.closing arrival.bot new.closing
    × (new.came ≡ old.came)
Transits to_give taken calls pair old (Connects place Pending) new =
    StaysPendingIf (arrival_at old.arrivals place) old.arrivals place new.arrivals × (new.came ≡ old.came)
    × (new.closing ≡ old.closing)
Transits to_give taken calls pair old (BeginsTurn place account before after) new = new ≡ old
Transits to_give taken calls pair old (Rests place ports rests) new = new ≡ old
Transits to_give taken calls pair old (Retires place ports end) new =
    ClosesBoth to_give taken calls old.closing (pair ports) new.closing × (new.came ≡ old.came)
    × (new.arrivals ≡ old.arrivals)
Transits to_give taken calls pair old (Notifies notice) new = new ≡ old
