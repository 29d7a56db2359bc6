-- What a system call keeps of the rows of the table: of those beside the places, which listeners, control connections and
-- closing streams have. (own)
use Rattle.std.specs.Prelude.{◌≡◌, ◌⊎◌, ℕ, ◌<◌, ◌≤◌, length}
use Rattle.daide_frame.specs.declared.side.Side.TheVariants.{Bot, Server}
use Rattle.daide_io.specs.System.{SystemCall, Polls, Shows, Accepts, Connects, BeginsTurn, Rests, Retires, Notifies}
use Rattle.daide_io.specs.declared.system.Connect.TheVariants.{Ready, Failed, Pending}
use Rattle.daide_sockets.specs.Rows.{taken_at}
use Rattle.daide_sockets.specs.Table.{Table, control_key, first_closing, key_of, listener_key, report_at, row_at}

-- Rows of which this holds may have changed, and nothing else of the table. No row is taken by it.
pub record ChangesRows (own : ℕ → Type 0) (old new : Table) : Type 0 where
  pub others : (key : ℕ) → (own key → ⊥) → row_at new.rows key ≡ row_at old.rows key
  pub taken : (key : ℕ) → taken_at new key ≤ taken_at old key
  pub count : length new.rows ≡ length old.rows
  pub same : new ≡ record old { rows = new.rows }

-- a row of a socket of a place
abbrev pub IsRowOf : Table → ℕ → ℕ → Type 0
IsRowOf table place key =
    (place < length table.deadlines) × ((key ≡ key_of place Bot) ⊎ (key ≡ key_of place Server))

-- the row of the listener for bots, or one of a place, to which a bot comes
abbrev pub IsAcceptRow : Table → ℕ → ℕ → Type 0
IsAcceptRow table place key = (key ≡ listener_key table) ⊎ IsRowOf table place key

-- a row of a listener or of a control connection
abbrev pub IsFixedRow : Table → ℕ → Type 0
IsFixedRow table key = (listener_key table ≤ key) × (key < first_closing table)

-- each row of which this holds keeps what polls reported of its socket
abbrev pub KeepsReportsOf : (ℕ → Type 0) → Table → Table → Type 0
KeepsReportsOf own old new = (key : ℕ) → own key → report_at new key ≡ report_at old key

-- What a call that does not poll keeps of what was reported beside the places. An accept takes what was reported of the
-- listener for bots. A stream that begins to close has a row that was free.
abbrev pub KeepsBeside : {P : Type 0} → Table → SystemCall P → Table → Type 0
KeepsBeside old (Polls may_block woken orders) new = Unit {0}
KeepsBeside old (Accepts place came) new = KeepsReportsOf (λ key. control_key old ≤ key) old new
KeepsBeside old (Connects place Failed) new = KeepsReportsOf (IsFixedRow old) old new
KeepsBeside old (Retires place ports end) new = place < length old.deadlines → KeepsReportsOf (IsFixedRow old) old new
KeepsBeside old (Connects place (Ready ports)) new = KeepsReportsOf (λ key. listener_key old ≤ key) old new
KeepsBeside old (Connects place Pending) new = KeepsReportsOf (λ key. listener_key old ≤ key) old new
KeepsBeside old (BeginsTurn place account before after) new =
    place < length old.deadlines → KeepsReportsOf (λ key. listener_key old ≤ key) old new
KeepsBeside old (Rests place ports rests) new = new.rows ≡ old.rows
KeepsBeside old (Shows ports status) new = new ≡ old
KeepsBeside old (Notifies notice) new = new ≡ old
