-- How long a stream closes at the end of a run: by the readings of the clock of the run, and of the rounds at its end. (own)
use Rattle.std.specs.Prelude.{◌≡◌, ℕ, zero, suc, List, [], ◌∷◌, ◌++◌, Option, Some, All}
use Rattle.std.specs.declared.time.Duration.{Duration}
use Rattle.std.specs.declared.time.Instant.{Instant}
use Rattle.daide_io.specs.Network.{NetworkCall}
use Rattle.daide_io.specs.Streams.{StreamCall}
use Rattle.daide_io.specs.System.{SystemCall, TransitsBy}
use Rattle.daide_sockets.specs.ClosingTime.{IsClosingInTime, readings_of}
use Rattle.daide_sockets.specs.Finishing.{Finish, FinishesFor}
use Rattle.daide_sockets.specs.Pairing.{Paired}
use Rattle.daide_sockets.specs.Scheduling.{RunState, ClosesByClock}

module _ {N C S : Type 0} (transition : N → NetworkCall C → N → Type 0) (to_give taken : S → Option (List ℕ))
    (calls : S → Option (List StreamCall)) where
  -- the readings of the clock at which these rounds advanced the closing streams, the last one first
  abbrev pub readings_of_rounds : (rounds : ℕ) (first last : Finish N S) →
      FinishesFor transition to_give taken calls rounds first last → List (Option Instant)
  readings_of_rounds zero first last by = []
  readings_of_rounds (suc rounds) first last by = by.0.table.reading ∷ readings_of_rounds rounds first by.0 by.1

  -- Sockets of a run of which none closed, after any trace of system calls and then any number of the rounds at its end: each
  -- stream that still closes is in time, by the readings of both. `pair` is the content of ports.
  abbrev pub FinishingSocketsLeave : Type 0 → Type 0
  FinishingSocketsLeave P = (pair : P → Paired S) (old mid : RunState N S) (trace : List (SystemCall P)) (stall : Duration)
      (rounds : ℕ) (first last : Finish N S) → old.closing.streams ≡ [] → old.closing.stall_time ≡ Some stall →
      first.closing ≡ mid.closing → (by : TransitsBy (ClosesByClock to_give taken calls pair) old trace mid) →
      (made : FinishesFor transition to_give taken calls rounds first last) →
      All (IsClosingInTime to_give taken calls stall (readings_of_rounds rounds first last made
      ++ readings_of (ClosesByClock to_give taken calls pair) trace old mid by)) last.closing.streams
