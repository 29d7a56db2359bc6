-- The result of a connect: its place rests, or its ports begin, or its bot is given up.
use Rattle.std.proofs.Common.{◌≡◌, ℕ, zero, suc, ◌+◌, ◌*◌, ◌<◌, ◌≤◌, Bool, true, false, List, Option, Some, None, length, refl, sym, ap, ◌∙◌, subst, arith}
use Rattle.std.proofs.Math.Nat.{min-eq_left}
use Rattle.std.specs.Prelude.{◌||◌, IfSome, IsSome, if◌then◌else◌, min, nat_le, option_map}
use Rattle.std.specs.Time.{instant_nanos}
use Rattle.daide_sockets.specs.declared.socket.Socket.{Socket}
use Rattle.std.specs.declared.net.socket_addr.SocketAddr.{SocketAddr}
use Rattle.std.specs.declared.time.Instant.{Instant}
use Rattle.daide_frame.specs.declared.side.Side.{Side}
use Rattle.daide_frame.specs.declared.side.Side.TheVariants.{Bot, Server}
use Rattle.daide_buffered_io.specs.declared.readiness.Readiness.{Readiness}
use Rattle.daide_io.specs.Network.{NetworkCall}
use Rattle.daide_io.specs.declared.system.Connect.TheVariants.{Ready}
use Rattle.daide_sockets.specs.Accepting.{may_connect, AsksAtMostOnce, ConnectsFrom, HasConnected, IsNextTry, TriesOn}
use Rattle.daide_sockets.specs.KeptRows.{ChangesRows}
use Rattle.daide_sockets.specs.Pairing.{Arriving, Paired, IsFresh, IsJoined, StaysPending, arrival_at}
use Rattle.daide_sockets.specs.Scheduling.{RestsForConnect}
use Rattle.daide_sockets.specs.Table.{Table, deadline_at, key_of, merged, report_at, resting}
use Rattle.daide_sockets.specs.Clock.{IsAfter, earlier, is_past}
use Rattle.daide_sockets.proofs.KeptRowLemmas.{rests_until, same_deadlines}

-- the earlier of two moments that are not past is not past
not_past_earlier : (now one other : Option Instant) → is_past now one ≡ false → is_past now other ≡ false →
    is_past now (earlier one other) ≡ false
not_past_earlier now None other first second = second
not_past_earlier now (Some moment) None first second = first
not_past_earlier now (Some moment) (Some later) first second = by (nat_le (instant_nanos moment) (instant_nanos later))
  where
    by : (is_first : Bool) → is_past now (if is_first then Some moment else Some later) ≡ false
    by true = first
    by false = second

none_not_past : (reading moment : Option Instant) → moment ≡ None → is_past reading moment ≡ false
none_not_past reading moment none = rw none (by reading)
  where
    by : (now : Option Instant) → is_past now None ≡ false
    by None = refl
    by (Some now) = refl

-- the moment at which the next address is tried is not past when it is set
pub next_not_past : (reading : Option Instant) (is_left : Bool) (part : ℕ) (moment : Option Instant) →
    IsNextTry reading is_left part moment → is_past reading moment ≡ false
next_not_past reading true (suc rest) moment h = after_not_past reading moment h
  where
    after_not_past : (reading moment : Option Instant) → IsAfter reading (suc rest) moment → is_past reading moment ≡ false
    after_not_past None moment h = refl
    after_not_past (Some now) None h = refl
    after_not_past (Some now) (Some due) h = grind (arith, h)
next_not_past reading true zero moment h = none_not_past reading moment h
next_not_past reading false part moment h = none_not_past reading moment h

-- the key of a row of a place that has both
pub key_fits : (place most key : ℕ) (side : Side) → key ≡ min (key_of place side) most → key_of place Server ≤ most →
    key ≡ key_of place side
key_fits place most key Bot is le = is ∙ min-eq_left {n = 2 * place} {m = most} (omega (arith, le))
key_fits place most key Server is le = is ∙ min-eq_left {n = 2 * place + 1} {m = most} le

module _ {S : Type 0} where
  -- nothing happens to a place without a pending connect
  pub rests_unchanged : (arrivals : List (Option (Arriving S))) (table : Table) (place : ℕ) →
      (place < length table.deadlines → arrival_at arrivals place ≡ None) →
      RestsForConnect (arrival_at arrivals place) table place table
  rests_unchanged arrivals table place nothing = by (arrival_at arrivals place) nothing
    where
      by : (found : Option (Arriving S)) → (place < length table.deadlines → found ≡ None) →
          RestsForConnect found table place table
      by None h = refl
      by (Some arrival) h = λ lt. absurd (let no = h lt in cc)

  -- the place of a pending connect rests
  pub rests_for : (old mid new : Table) (place key : ℕ) (arrival later : Arriving S) (due : Option Instant)
      (found : Option (Arriving S)) → found ≡ Some later → key ≡ key_of place Server → ChangesRows (λ row. row ≡ key) old mid →
      new ≡ resting mid place due → due ≡ earlier later.moves_on later.gives_up → StaysPending arrival later →
      is_past old.reading arrival.gives_up ≡ false → is_past old.reading later.moves_on ≡ false →
      may_connect mid key later.known ≡ false → RestsForConnect found old place new
  rests_for old mid new place key arrival later due found there is connects rests until stays early moves still =
      subst (λ (f : Option (Arriving S)). RestsForConnect f old place new) (sym there) (λ lt. (
        ap (λ (t : Table). deadline_at t place) rests
            ∙ rests_until mid.deadlines place due
            (subst (λ (n : ℕ). place < n) (sym (ap length (same_deadlines (λ row. row ≡ key) old mid connects))) lt) ∙ until,
        not_past_earlier old.reading later.moves_on later.gives_up moves
            (ap (λ (d : Option Instant). is_past old.reading d) stays.gives_up ∙ early),
        ap (λ (t : Table). may_connect t (key_of place Server) later.known) rests
            ∙ ap (λ (k : ℕ). may_connect mid k later.known) (sym is) ∙ still,
      ))

  -- the ports of a connect that is done are those of its bot
  pub connected_joins : (arrival later : Arriving S) (pair : Paired S) → (IsSome later.server → later ≡ record arrival { known = later.known }) →
      IsJoined later pair → IsJoined arrival pair
  connected_joins arrival later pair reached joined =
      let there : IsSome later.server = rw joined.server refl in
      let same = reached there in
      record {
        identity = joined.identity ∙ ap (λ (a : Arriving S). a.identity) same;
        bot = joined.bot ∙ ap (λ (a : Arriving S). a.bot) same;
        server = sym (ap (λ (a : Arriving S). a.server) same) ∙ joined.server;
      }

  -- the server of ports is the one whose connect succeeded
  pub connected_to : {N : Type 0} (transition : N → NetworkCall S → N → Type 0) (old new : N) (later : Arriving S) (pair : Paired S) →
      IfSome later.server (λ server. HasConnected transition server.stream old new) → IsJoined later pair →
      HasConnected transition pair.server.stream old new
  connected_to transition old new later pair h joined = rw joined.server at h

pub ready_is : {P : Type 0} (one other : P) → Ready one ≡ Ready other → one ≡ other
ready_is one other e = cc

-- a look at a connect asks for its state, and then makes these connects
pub tries_over : {N C : Type 0} (transition : N → NetworkCall C → N → Type 0) (addresses : List SocketAddr)
    (key before after : ℕ) (old mid new : N) → AsksAtMostOnce transition old mid →
    (count : ℕ) × (after ≡ before + count) × ConnectsFrom transition addresses key before count mid new →
    TriesOn transition addresses key before after old new
tries_over transition addresses key before after old mid new asks connects = record {
  mid = mid;
  asks = asks;
  count = connects.0;
  counted = connects.1;
  connects = connects.2;
}

-- what was reported of a server is known of its socket
pub connected_reports : (known : Option Readiness) (own report : Readiness) →
    IfSome known (λ (k : Readiness). merged k report ≡ k) → known ≡ Some own → merged own report ≡ own
connected_reports known own report h e = rw e at h

-- a connect that just began has no result until something is reported of it
pub fresh_waits : {S : Type 0} (table : Table) (key : ℕ) (begun : Option S) (made : Option (Socket S)) →
    IfSome begun (λ (connection : S). (report_at table key).may_write ≡ false) → (begun ≡ None → made ≡ None) →
    IfSome made (λ (socket : Socket S). IsFresh socket.stream × (socket.readiness.may_write ≡ false)) →
    IsSome (option_map (λ (socket : Socket S). socket.stream) made) →
    may_connect table key (option_map (λ (socket : Socket S). socket.readiness) made) ≡ false
fresh_waits table key begun None unknown none fresh some = absurd (cc)
fresh_waits table key None (Some socket) unknown none fresh some = absurd (let no = none refl in cc)
fresh_waits table key (Some connection) (Some socket) unknown none fresh some =
    ap (λ (b : Bool). b || (report_at table key).may_write) fresh.1 ∙ unknown
