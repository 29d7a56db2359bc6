-- Room for each bot that a run may accept: the loop's places and counts, against the sockets'. (own)
use Rattle.std.specs.Prelude.{◌≡◌, ◌≤◌, ◌<◌, ℕ, ◌++◌, Bool, true, List, [], ◌∷◌, length, Option}
use Rattle.std.specs.declared.net.socket_addr.SocketAddr.{SocketAddr}
use Rattle.daide_frame.specs.declared.side.Side.TheVariants.{Server}
use Rattle.daide_io.specs.Network.{NetworkCall}
use Rattle.daide_io.specs.Ports.{PortCall}
use Rattle.daide_io.specs.Streams.{StreamCall}
use Rattle.daide_io.specs.System.{SystemCall, Accepts, TransitsBy}
use Rattle.daide_settings.specs.BotsInAll.{bots_in_all}
use Rattle.daide_settings.specs.declared.settings.Settings.{Settings}
use Rattle.daide_event_loop.specs.Serving.{ServiceView, Round, Rounds, initial_service}
use Rattle.daide_sockets.specs.Accepting.{is_bot_due, AcceptsThenConnects}
use Rattle.daide_sockets.specs.Pairing.{is_vacant}
use Rattle.daide_sockets.specs.Table.{key_of}
use Rattle.daide_sockets.specs.Scheduling.{RunState, RunEvolves, HasRoomForBot, HoldsRows}
use Rattle.daide_sockets.specs.declared.ports.SocketPorts.{SocketPorts}

-- Take sockets of a run with no bot yet, whose table has a deadline for each place, any rounds, and one more round that accepts. The sockets have room for the bot
-- at its place: no connect is pending there, and a number is left. So exactly one accept is made if it is due and its descriptors
-- are free. `ports_in` is the content of ports.
abbrev pub EachBotHasRoom : {P S N : Type 0} → (P → PortCall → P → Type 0) → (N → NetworkCall S → N → Type 0) →
    (S → Option (List ℕ)) → (S → Option (List ℕ)) → (S → Option (List StreamCall)) → (P → SocketPorts S) → Type 0
EachBotHasRoom {P} {S} {N} port_transition transition to_give taken calls ports_in = (settings : Settings) (n : ℕ)
    (before early : List (SystemCall P)) (run next : ServiceView P) (first old new : RunState N S) (place : ℕ) (came : Bool) →
    bots_in_all settings ≤ 4294967295 → first.acceptor.came ≡ 0 → HoldsRows first →
    length first.table.deadlines ≡ settings.max_sessions →
    ((other : ℕ) → other < settings.max_sessions → is_vacant first.arrivals other ≡ true) →
    Rounds port_transition n (initial_service settings) before run →
    Round port_transition run (early ++ Accepts place came ∷ []) next →
    TransitsBy (RunEvolves transition to_give taken calls ports_in) first (before ++ early) old →
    RunEvolves transition to_give taken calls ports_in old (Accepts place came) new →
    HasRoomForBot old place × (is_bot_due old.table old.acceptor ≡ true →
    (servers : List SocketAddr) × AcceptsThenConnects transition old.acceptor.descriptors servers (key_of place Server) old.network new.network)
