-- The rounds at the end of a run.
use Rattle.std.proofs.Common.{◌≡◌, ℕ, suc, ◌+◌, Bool, true, List, length, Option, refl, ap, ◌∙◌, subst, arith}
use Rattle.std.specs.declared.time.Duration.{Duration}
use Rattle.std.specs.declared.time.Instant.{Instant}
use Rattle.daide_io.specs.Network.{NetworkCall}
use Rattle.daide_io.specs.Streams.{StreamCall}
use Rattle.daide_sockets.specs.declared.table.Row.{Row}
use Rattle.daide_sockets.specs.PollTimes.{closings_armed}
use Rattle.daide_sockets.specs.Finishing.{Finish, FinishRound, FinishesFor, WaitsOnce}
use Rattle.daide_sockets.specs.Table.{arming_all}
use Rattle.daide_sockets.specs.Lingering.{ClosingStream}
use Rattle.daide_sockets.specs.Rows.{AreRowsOf, taken_at}
use Rattle.daide_sockets.specs.Table.{Table, IsPollTime, PollsOnce, disarmed}
use Rattle.daide_sockets.proofs.BesideLemmas.{closings_by_rows}
use Rattle.daide_sockets.proofs.InTimeLemmas.{same_due, same_places, same_rows}
use Rattle.daide_sockets.proofs.RowLemmas.{held_alike, polls_hold}

pub one_wait_more : {N C S : Type 0} (transition : N → NetworkCall C → N → Type 0) (to_give taken : S → Option (List ℕ))
    (calls : S → Option (List StreamCall)) (rounds : ℕ) (old mid new : Finish N S) →
    FinishesFor transition to_give taken calls rounds old mid → FinishRound transition to_give taken calls mid new →
    FinishesFor transition to_give taken calls (rounds + 1) old new
one_wait_more transition to_give taken calls rounds old mid new h k =
    let more : suc rounds ≡ rounds + 1 = omega (arith) in
    subst (λ (n : ℕ). FinishesFor transition to_give taken calls n old new) more (mid, h, k)

module _ {N C : Type 0} (transition : N → NetworkCall C → N → Type 0) (others : List (Bool × Option Instant)) (old : N)
    (before : Table) (new : N) (after : Table) (waits : WaitsOnce transition others old before new after) where
  abbrev armed : Table
  armed = arming_all (disarmed before) others

  -- a wait changes no deadline of a place
  pub waits_due : after.due ≡ before.due
  waits_due = ap (λ (t : Table). t.due) waits.polls.table ∙ same_due (disarmed before) others

  -- nor who holds the rows
  pub waits_hold : (keys : List ℕ) → AreRowsOf before keys → AreRowsOf after keys
  waits_hold keys held =
      polls_hold transition waits.time old armed new after keys waits.polls
      (held_alike before armed keys
      (λ key. ap (λ (rows : List Row). taken_at (record before { rows = rows }) key) (same_rows (disarmed before) others))
      (ap length (same_rows (disarmed before) others)) (same_places (disarmed before) others) held)

-- a wait that watches closing streams alone
pub waited : {N C S : Type 0} (transition : N → NetworkCall C → N → Type 0) (streams : List (ClosingStream S)) (time : Option Duration)
    (old : N) (before disarming arming : Table) (new : N) (after : Table) → disarming ≡ disarmed before →
    arming ≡ arming_all disarming (closings_armed disarming streams) → IsPollTime true arming time →
    PollsOnce transition time old arming new after → WaitsOnce transition (closings_armed before streams) old before new after
waited transition streams time old before disarming arming new after first then lasts polls = record {
  time = time;
  lasts = subst (λ (t : Table). IsPollTime true t time) all lasts;
  polls = subst (λ (t : Table). PollsOnce transition time old t new after) all polls;
}
  where
    all : arming ≡ arming_all (disarmed before) (closings_armed before streams)
    all = then ∙ ap (λ (t : Table). arming_all t (closings_armed t streams)) first
        ∙ ap (λ (w : List (Bool × Option Instant)). arming_all (disarmed before) w)
        (closings_by_rows before (disarmed before) streams refl)
