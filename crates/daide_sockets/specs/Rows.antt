-- Who holds the rows of closing sockets: each closing socket has a row of its own, and a row without one is free. (own)
use Rattle.std.specs.Prelude.{◌≡◌, ◌<◌, ℕ, ◌+◌, List, [], ◌∷◌, length}
use Rattle.daide_io.specs.ReadyQueue.{one_if, occurrences_of}
use Rattle.daide_sockets.specs.Lingering.{ClosingStream}
use Rattle.daide_sockets.specs.Table.{Table, first_closing, row_at}

-- 1 if the row with this key is taken, else 0
abbrev pub taken_at : Table → ℕ → ℕ
taken_at table key = one_if (row_at table.rows key).is_taken

-- the keys of closing streams
abbrev pub closing_keys : {S : Type 0} → List (ClosingStream S) → List ℕ
closing_keys [] = []
closing_keys (stream ∷ streams) = stream.key ∷ closing_keys streams

-- The rows that are taken are exactly those with these keys, no two of which are the same. Each is a row of closing sockets,
-- of which there are 256.
pub record AreRowsOf (table : Table) (keys : List ℕ) : Type 0 where
  pub taken : (key : ℕ) → taken_at table key ≡ occurrences_of key keys
  pub beyond : (key : ℕ) → key < first_closing table → occurrences_of key keys ≡ 0
  pub count : length table.rows ≡ first_closing table + 256

-- What a call of closing sockets, which have these keys before it and those after it, does to the table. If exactly their
-- rows were taken, they are, and no row of another socket changed. Nothing else of the table changed.
pub record KeepsClosingRows (old : Table) (given : List ℕ) (new : Table) (left : List ℕ) : Type 0 where
  pub count : length new.rows ≡ length old.rows
  pub same : new ≡ record old { rows = new.rows }
  pub taken : AreRowsOf old given → AreRowsOf new left
  pub others : AreRowsOf old given → (key : ℕ) → key < first_closing old → row_at new.rows key ≡ row_at old.rows key
