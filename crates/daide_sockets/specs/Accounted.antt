-- Where the sockets of a run are: each bot that came waits for its connect, was joined, or was given up; and each socket
-- that is no session's any more closes, or is closed. (own)
use Rattle.std.specs.Prelude.{◌≡◌, ◌≤◌, ℕ, ◌+◌, ◌*◌, List, [], ◌∷◌, length, Option}
use Rattle.daide_io.specs.System.{SystemCall, Connects, Retires, TransitsBy}
use Rattle.daide_io.specs.declared.system.Connect.TheVariants.{Ready, Failed}
use Rattle.daide_io.specs.Streams.{StreamCall}
use Rattle.daide_sockets.specs.Pairing.{Paired, RunSockets, Transits, pending_connects}

-- how many bots were joined to their connects, and delivered as ports
abbrev pub bots_joined : {P : Type 0} → List (SystemCall P) → ℕ
bots_joined [] = 0
bots_joined (Connects place (Ready ports) ∷ trace) = 1 + bots_joined trace
bots_joined (_ ∷ trace) = bots_joined trace

-- how many bots were given up
abbrev pub bots_given_up : {P : Type 0} → List (SystemCall P) → ℕ
bots_given_up [] = 0
bots_given_up (Connects place Failed ∷ trace) = 1 + bots_given_up trace
bots_given_up (_ ∷ trace) = bots_given_up trace

-- how many ports were retired
abbrev pub sessions_retired : {P : Type 0} → List (SystemCall P) → ℕ
sessions_retired [] = 0
sessions_retired (Retires place ports end ∷ trace) = 1 + sessions_retired trace
sessions_retired (_ ∷ trace) = sessions_retired trace

-- Each bot that came waits, was joined, or was given up. The streams that close are at most the bots that were given up,
-- and the two of each session that was retired; and at most 256.
pub record IsAccounted {P S : Type 0} (trace : List (SystemCall P)) (new : RunSockets S) : Type 0 where
  pub bots : new.came ≡ pending_connects new.arrivals + (bots_joined trace + bots_given_up trace)
  pub closing : length new.closing.streams ≤ bots_given_up trace + 2 * sessions_retired trace
  pub few : length new.closing.streams ≤ 256

-- sockets of a run with no bot yet, after any trace of system calls
abbrev pub SocketsAreAccounted : (P : Type 0) → {S : Type 0} → (S → Option (List ℕ)) → (S → Option (List ℕ)) →
    (S → Option (List StreamCall)) → Type 0
SocketsAreAccounted P {S} to_give taken calls = (pair : P → Paired S) (old new : RunSockets S)
    (trace : List (SystemCall P)) → old.came ≡ 0 → pending_connects old.arrivals ≡ 0 → old.closing.streams ≡ [] →
    TransitsBy (Transits to_give taken calls pair) old trace new → IsAccounted trace new
