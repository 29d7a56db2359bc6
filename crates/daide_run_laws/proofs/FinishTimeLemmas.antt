-- How long a stream closes, by the rounds at the end of a run.
use Rattle.std.proofs.Common.{ℕ, zero, suc, List, [], ◌++◌, Option, refl, ap, arith}
use Rattle.std.specs.Prelude.{Contains}
use Rattle.std.proofs.lemmas.List.Elements.{All-nil, All-same, All-weaker, Contains-append_left, Contains-append_right}
use Rattle.std.specs.declared.time.Duration.{Duration}
use Rattle.std.specs.declared.time.Instant.{Instant}
use Rattle.daide_io.specs.Network.{NetworkCall}
use Rattle.daide_io.specs.Streams.{StreamCall}
use Rattle.daide_sockets.specs.ClosingTime.{IsClosingInTime, readings_of}
use Rattle.daide_run_laws.specs.FinishTime.{FinishingSocketsLeave, readings_of_rounds}
use Rattle.daide_sockets.specs.Finishing.{Finish, FinishesFor}
use Rattle.daide_sockets.specs.Scheduling.{ClosesByClock}
use Rattle.daide_sockets.proofs.ClosingTimeLemmas.{AllSince, Since, calls_since, in_time, later_contains, round_since, same_since}

module _ {N C S : Type 0} (transition : N → NetworkCall C → N → Type 0) (to_give taken : S → Option (List ℕ))
    (calls : S → Option (List StreamCall)) (stall : Duration) where
  rounds_since : (clock : List (Option Instant)) (rounds : ℕ) (first last : Finish N S)
      (by : FinishesFor transition to_give taken calls rounds first last) → ((reading : Option Instant) →
      Contains (readings_of_rounds transition to_give taken calls rounds first last by) reading → Contains clock reading) →
      AllSince to_give taken calls stall clock first.closing → AllSince to_give taken calls stall clock last.closing
  rounds_since clock zero first last by within all =
      same_since to_give taken calls stall clock first.closing last.closing (ap (λ (f : Finish N S). f.closing) by) all
  rounds_since clock (suc rounds) first last by within all =
      let readings = readings_of_rounds transition to_give taken calls rounds first by.0 by.1 in
      round_since to_give taken calls stall clock by.0.table.reading by.0.closing last.closing
      (within by.0.table.reading (0, omega arith, refl)) by.2.advances
      (rounds_since clock rounds first by.0 by.1 (λ reading c. within reading (later_contains by.0.table.reading readings reading c)) all)

pub finishing_sockets_leave : {N C P S : Type 0} (transition : N → NetworkCall C → N → Type 0) (to_give taken : S → Option (List ℕ))
    (calls : S → Option (List StreamCall)) → FinishingSocketsLeave transition to_give taken calls P
finishing_sockets_leave transition to_give taken calls = λ pair old mid trace stall rounds first last none set begins goes made.
    let later = readings_of_rounds transition to_give taken calls rounds first last made in
    let run = readings_of (ClosesByClock to_give taken calls pair) trace old mid goes in
    let clock = later ++ run in
    let Own = Since to_give taken calls stall clock in
    let at_mid = calls_since to_give taken calls stall clock pair trace old mid goes
    (λ reading c. Contains-append_right later run reading c)
    (All-same Own old.closing.streams [] none (All-nil Own), set) in
    let at_last = rounds_since transition to_give taken calls stall clock rounds first last made
    (λ reading c. Contains-append_left later run reading c)
    (same_since to_give taken calls stall clock mid.closing first.closing begins at_mid) in
    All-weaker Own (IsClosingInTime to_give taken calls stall clock) (in_time to_give taken calls stall clock)
    last.closing.streams at_last.0
