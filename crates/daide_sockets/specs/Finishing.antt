-- The end of a run: rounds that advance the closing streams, with a wait after each. (own)
use Rattle.std.specs.Prelude.{◌≡◌, ◌⊎◌, ℕ, zero, suc, Bool, true, List, [], Option, None}
use Rattle.std.specs.declared.time.Duration.{Duration}
use Rattle.std.specs.declared.time.Instant.{Instant}
use Rattle.daide_io.specs.Network.{NetworkCall}
use Rattle.daide_io.specs.Streams.{StreamCall}
use Rattle.daide_sockets.specs.PollTimes.{closings_armed}
use Rattle.daide_sockets.specs.Lingering.{ClosingList, LooksAround, in_pass}
use Rattle.daide_sockets.specs.Table.{arming_all}
use Rattle.daide_sockets.specs.Table.{Table, IsPollTime, PollsOnce, disarmed}

-- The network is polled once, for the time of a poll that may block and watches these alone, each with work or without it, and
-- with its nearest deadline; and no place.
pub record WaitsOnce {N C : Type 0} (transition : N → NetworkCall C → N → Type 0) (others : List (Bool × Option Instant))
    (old : N) (before : Table) (new : N) (after : Table) : Type 0 where
  pub time : Option Duration
  pub lasts : IsPollTime true (arming_all (disarmed before) others) time
  pub polls : PollsOnce transition time old (arming_all (disarmed before) others) new after

-- the network, its table, and the closing streams
pub record Finish (N S : Type 0) : Type 0 where
  pub network : N
  pub table : Table
  pub closing : ClosingList S

module _ {N C S : Type 0} (transition : N → NetworkCall C → N → Type 0) (to_give taken : S → Option (List ℕ))
    (calls : S → Option (List StreamCall)) where
  -- A round at the end of a run, in which no place has a deadline. The closing streams are advanced at the last reading of
  -- the clock. Then a wait watches each of them, and the clock is read for the next round.
  pub record FinishRound (old new : Finish N S) : Type 0 where
    pub table : Table
    pub clock : table.reading ≡ old.table.reading
    pub none : table.due ≡ None
    pub advances : LooksAround to_give taken calls old.table.reading (in_pass old.closing) new.closing
    pub waits : WaitsOnce transition (closings_armed table new.closing.streams) old.network table new.network new.table

  -- this number of rounds
  abbrev pub FinishesFor : ℕ → Finish N S → Finish N S → Type 0
  FinishesFor zero old new = new ≡ old
  FinishesFor (suc rounds) old new = (mid : Finish N S) × FinishesFor rounds old mid × FinishRound mid new

  -- Rounds from this network and this reading of the clock on, until the closing streams are advanced and none is left, with
  -- no wait after it; or until the most rounds were made.
  pub record FinishesAll (most : ℕ) (network : N) (reading : Option Instant) (old new : ClosingList S) : Type 0 where
    pub rounds : ℕ
    pub first : Finish N S
    pub last : Finish N S
    pub begins : (first.network ≡ network) × (first.table.reading ≡ reading) × (first.closing ≡ old)
    pub made : FinishesFor rounds first last
    pub ends : (LooksAround to_give taken calls last.table.reading (in_pass last.closing) new × (new.streams ≡ []))
        ⊎ ((rounds ≡ most) × (new ≡ last.closing))
