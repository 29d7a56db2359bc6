-- Each session gets its ports once. (own)
use Rattle.std.specs.Prelude.{◌≡◌, ◌≤◌, ℕ, ◌+◌, nat_eq, List, [], ◌∷◌, Option, if◌then◌else◌}
use Rattle.daide_io.specs.System.{SystemCall, Polls, Shows, Accepts, Connects, BeginsTurn, Rests, Retires, Notifies, TransitsBy}
use Rattle.daide_io.specs.declared.system.Connect.TheVariants.{Ready, Failed, Pending}
use Rattle.daide_io.specs.Streams.{StreamCall}
use Rattle.daide_sockets.specs.Pairing.{Paired, RunSockets, Transits, pending_connects}

-- 1 if two numbers are the same, else 0
abbrev pub one_if_same : ℕ → ℕ → ℕ
one_if_same one other = if nat_eq one other then 1 else 0

-- how often ports of the session with this number were delivered
abbrev pub handed : {P S : Type 0} → (P → Paired S) → ℕ → List (SystemCall P) → ℕ
handed pair n [] = 0
handed pair n (Connects place (Ready ports) ∷ trace) = one_if_same (pair ports).identity.number n + handed pair n trace
handed pair n (Connects place Failed ∷ trace) = handed pair n trace
handed pair n (Connects place Pending ∷ trace) = handed pair n trace
handed pair n (Polls may_block woken orders ∷ trace) = handed pair n trace
handed pair n (Shows ports status ∷ trace) = handed pair n trace
handed pair n (Accepts place came ∷ trace) = handed pair n trace
handed pair n (BeginsTurn place account before after ∷ trace) = handed pair n trace
handed pair n (Rests place ports rests ∷ trace) = handed pair n trace
handed pair n (Retires place ports end ∷ trace) = handed pair n trace
handed pair n (Notifies notice ∷ trace) = handed pair n trace

-- Sockets of a run with no bot yet: by any trace of system calls, no session gets its ports twice.
abbrev pub SessionsComeOnce : (P : Type 0) → {S : Type 0} → (S → Option (List ℕ)) → (S → Option (List ℕ)) →
    (S → Option (List StreamCall)) → Type 0
SessionsComeOnce P {S} to_give taken calls = (pair : P → Paired S) (old new : RunSockets S) (trace : List (SystemCall P))
    (n : ℕ) → old.came ≡ 0 → pending_connects old.arrivals ≡ 0 → TransitsBy (Transits to_give taken calls pair) old trace new →
    handed pair n trace ≤ 1
