-- The number of bots accepted, by the sockets of a run and by its trace of system calls. (own)
use Rattle.std.specs.Prelude.{◌≡◌, ℕ, ◌+◌, List, Option}
use Rattle.daide_io.specs.System.{SystemCall, TransitsBy}
use Rattle.daide_event_loop.specs.Served.{sum_over_calls, comes}
use Rattle.daide_io.specs.Streams.{StreamCall}
use Rattle.daide_sockets.specs.Pairing.{Paired, RunSockets, Transits}

-- By any trace, the sockets of a run count each bot that the trace accepts. So after a whole run they have counted as
-- many bots as the settings say.
abbrev pub BotsAreCounted : (P : Type 0) → {S : Type 0} → (S → Option (List ℕ)) → (S → Option (List ℕ)) →
    (S → Option (List StreamCall)) → Type 0
BotsAreCounted P {S} to_give taken calls = (pair : P → Paired S) (old new : RunSockets S) (trace : List (SystemCall P)) →
    TransitsBy (Transits to_give taken calls pair) old trace new → new.came ≡ old.came + sum_over_calls comes trace
