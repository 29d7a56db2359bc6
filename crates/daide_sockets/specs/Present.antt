-- The bots of a run that are there: those with a connect under way, and those of sessions. (own)
use Rattle.std.specs.Prelude.{◌≡◌, ℕ, ◌+◌, ◌<◌, ◌==◌, nat_lt, Bool, true, List, [], ◌∷◌, ◌++◌, length, remove, slice_set, Option, Some, if◌then◌else◌, vec_capacity}
use Rattle.std.specs.Net.Socket.{socket_ip}
use Rattle.std.specs.declared.net.socket_addr.SocketAddr.{SocketAddr}
use Rattle.std.specs.declared.time.Instant.{Instant}
use Rattle.daide_frame.specs.declared.side.Side.TheVariants as Sides
use Rattle.daide_io.specs.Network.{NetworkCall}
use Rattle.daide_settings.specs.Ranges.{host_of, may_come}
use Rattle.daide_settings.specs.declared.settings.ranges.AddressRange.{AddressRange}
use Rattle.daide_settings.specs.declared.settings.ranges.Host.{Host}
use Rattle.daide_sockets.specs.declared.present.Bot.{Bot}
use Rattle.daide_sockets.specs.declared.present.Present.{Present}
use Rattle.daide_sockets.specs.Accepting.{BringsBot, ConnectsFrom}
use Rattle.daide_sockets.specs.Pairing.{Arriving}
use Rattle.daide_sockets.specs.Table.{key_of}

-- the position of the bot with a number; the length of the list if it is not there
abbrev pub position_of : ℕ → List Bot → ℕ
position_of number [] = 0
position_of number (first ∷ others) = if first.number == number then 0 else 1 + position_of number others

-- a list without its element at a position, if there is one
abbrev pub without_at : {X : Type 0} → ℕ → List X → List X
without_at at list = if nat_lt at (length list) then remove list at else list

-- the bots without the one with a number
abbrev pub without_bot : ℕ → List Bot → List Bot
without_bot number bots = without_at (position_of number bots) bots

-- the session with this number is there: its bot is present
abbrev pub is_there : ℕ → List Bot → Bool
is_there number bots = nat_lt (position_of number bots) (length bots)

-- the hosts of the bots
abbrev pub hosts_of : List Bot → List Host
hosts_of [] = []
hosts_of (bot ∷ bots) = bot.host ∷ hosts_of bots

-- a bot with this number, at this address, that came at this reading of the clock
abbrev pub bot_from : ℕ → SocketAddr → Option Instant → Bot
bot_from number address since = record {
  number = number;
  host = host_of (socket_ip address);
  address = address;
  since = since;
}

-- The list has room for one more bot.
abbrev pub HasRoomForOne : Present → Type 0
HasRoomForOne present = length present.bots.items < vec_capacity present.bots

-- A bot was admitted at a place. An accept gave its connection, with this address. The connection is followed under the key
-- of the bot of the place, and is that of the bot whose connect is pending there. By this address it may come beside those present
-- before, by the ranges and the limit of `rules`. It is the last of those present. It has this number, this address, and this
-- reading of the clock as the time at which it came.
pub record AdmitsBot {N C : Type 0} (transition : N → NetworkCall C → N → Type 0) (count : ℕ) (servers : List SocketAddr)
    (rules : List AddressRange × ℕ) (reading : Option Instant) (place number : ℕ) (address : SocketAddr)
    (old new : N × List (Option (Arriving C)) × Present) : Type 0 where
  pub arrival : Arriving C
  pub mid : N
  pub brings : BringsBot transition count address (key_of place Sides.Bot) arrival.bot.stream old.0 mid
  pub connects : ConnectsFrom transition servers (key_of place Sides.Server) 0 arrival.tried mid new.0
  pub arrivals : new.1 ≡ slice_set old.1 place (Some arrival)
  pub identity : arrival.identity ≡ bot_from number address reading
  pub may : may_come rules.0 rules.1 (hosts_of old.2.bots.items) (host_of (socket_ip address)) ≡ true
  pub present : new.2.bots.items ≡ old.2.bots.items ++ bot_from number address reading ∷ []
