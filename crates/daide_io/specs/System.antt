-- The calls of the loop over sessions on its system, and their effect on the system.
use Rattle.std.specs.Prelude.{◌≡◌, ℕ, ◌==◌, if◌then◌else◌, Bool, false, List, [], ◌∷◌, length, Option, Some}
use Rattle.daide_frame.specs.declared.side.Side.TheVariants.{Bot, Server}
use Rattle.daide_protocol.specs.declared.account.Account.{Account}
use Rattle.daide_protocol.specs.Machine.{level_in, plain_phase}
use Rattle.daide_protocol.specs.Wires.{SessionView, queued, sent_bytes}
use Rattle.daide_io.specs.ReadyQueue.{is_among}
use Rattle.daide_io.specs.declared.byte_counts.ByteCounts.{ByteCounts}
use Rattle.daide_io.specs.declared.system.Connect.{Connect}
use Rattle.daide_io.specs.declared.system.Notice.{Notice}
use Rattle.daide_io.specs.declared.system.Orders.{Orders}
use Rattle.daide_io.specs.declared.system.SessionEnd.{SessionEnd}
use Rattle.daide_io.specs.declared.system.SessionStatus.{SessionStatus}

-- no orders: the run goes on as before
abbrev pub no_orders : Orders
no_orders = record { stops_accepting = false; shows_sessions = false }

-- the status of a session: its phase, its level, its counts by side, and how many bytes are queued for each side; and the
-- bytes that its ports delivered and took
abbrev pub status_of : SessionView → ByteCounts → SessionStatus
status_of session bytes = record {
  phase = plain_phase session.state.phase;
  level = level_in session.state.phase;
  account = session.account;
  queued_to_bot = length (sent_bytes (queued session Bot));
  queued_to_server = length (sent_bytes (queued session Server));
  bytes = bytes;
}

-- One call with its result: a poll, which may block or not, with the places that it woke and the operator's orders; the
-- ports of a session whose status is shown; whether a bot arrived, which has this place from then on; the result of its
-- connect; the beginning of a turn, with the account of the session and its ports before and after; a session that is to
-- rest, and whether it does; ports that were retired, with how their session ended; and a line that was logged.
pub data SystemCall (P : Type 0) : Type 0 where
  Polls : (may_block : Bool) → (woken : List ℕ) → (orders : Orders) → SystemCall P
  Shows : (ports : P) → (status : SessionStatus) → SystemCall P
  Accepts : (place : ℕ) → (came : Bool) → SystemCall P
  Connects : (place : ℕ) → (connect : Connect P) → SystemCall P
  BeginsTurn : (place : ℕ) → (account : Account) → (before after : P) → SystemCall P
  Rests : (place : ℕ) → (ports : P) → (rests : Bool) → SystemCall P
  Retires : (place : ℕ) → (ports : P) → (end : SessionEnd) → SystemCall P
  Notifies : (notice : Notice) → SystemCall P

-- The system went from old to new by these calls; `transition` is the effect of one call with its result.
abbrev pub TransitsBy : {P S : Type 0} → (S → SystemCall P → S → Type 0) → S → List (SystemCall P) → S → Type 0
TransitsBy transition old [] new = new ≡ old
TransitsBy {S = S} transition old (answer ∷ trace) new =
    (mid : S) × transition old answer mid × TransitsBy transition mid trace new

-- ---- what a trace says of one place

-- A call is about a place if it is made for the place, or if it is a poll that wakes it.
abbrev pub is_about : {P : Type 0} → ℕ → SystemCall P → Bool
is_about place (Polls may_block woken orders) = is_among place woken
is_about place (Shows ports status) = false
is_about place (Accepts other came) = other == place
is_about place (Connects other connect) = other == place
is_about place (BeginsTurn other account before after) = other == place
is_about place (Rests other ports rests) = other == place
is_about place (Retires other ports end) = other == place
is_about place (Notifies notice) = false

-- the last call about a place: the last of these, or the one before them if none of these is
abbrev pub last_about : {P : Type 0} → ℕ → Option (SystemCall P) → List (SystemCall P) → Option (SystemCall P)
last_about place before [] = before
last_about place before (call ∷ calls) = last_about place (if is_about place call then Some call else before) calls
