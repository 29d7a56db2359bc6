-- What a session counts by a trace of port calls, beside the main theorem: its moves, and the look-ups of its tables.
use Rattle.std.specs.Prelude.{◌≡◌, ℕ, ◌*◌, List, ◌++◌, length}
use Rattle.daide_frame.specs.declared.side.Side.{Side}
use Rattle.daide_reader.specs.Reading.{IsRaised}
use Rattle.daide_protocol.specs.Heard.{bytes_from}
use Rattle.daide_protocol.specs.Machine.{Limits}
use Rattle.daide_protocol.specs.Wires.{SessionView, account_after, holding}
use Rattle.daide_session.specs.Work.{IsPaidBy}
use Rattle.daide_io.specs.Ports.{PortCall, events_of}
use Rattle.daide_driver.specs.Record.{DeliversOutput}
use Rattle.daide_driver.specs.Headline.{untouched}

-- ---- a trace

-- how many bytes were received from a side
abbrev pub came : Side → List PortCall → ℕ
came side trace = length (bytes_from side (events_of trace))

-- each side's table made at most two look-ups for each byte received from that side
abbrev pub Works : SessionView → List PortCall → SessionView → Type 0
Works old trace new = (side : Side) → IsPaidBy (came side trace) side old new

-- a part of a run of this kind, with at most that many look-ups
abbrev pub Working : (SessionView → List PortCall → SessionView → Type 0) → SessionView → List PortCall → SessionView → Type 0
Working Kind old trace new = Kind old trace new × Works old trace new

-- By this trace the session goes from old to new: it delivers the machine's output, counts the machine's moves by side,
-- and its tables make at most two look-ups for a byte received.
pub record RefinesRun (old : SessionView) (trace : List PortCall) (new : SessionView) : Type 0 where
  pub sends : DeliversOutput old trace new
  pub counts : new.account ≡ account_after old sends.effects
  pub work : Works old trace new

-- ---- all traces since a session was created

-- the totals of a session after all its port calls since it was created
pub record HasTotals (limits : Limits) (history : List PortCall) (g : SessionView) : Type 0 where
  -- it counted the machine's moves from the opening of a run, and its tables made at most two look-ups for a byte
  -- received, with what the bytes held may still cost
  pub whole : RefinesRun (untouched limits) history g
  -- so each side's table made at most two look-ups for each byte received from the side, counted modulo 2^64
  pub work : (side : Side) → IsRaised (2 * came side history) 0 (holding g side).total

-- Whatever the ports return in a call, and whatever they returned before: if the session had counted all its moves and
-- look-ups by the history, it has counted them by history and call.
abbrev pub KeepsTotals : SessionView → List PortCall → SessionView → Type 0
KeepsTotals old call new = (limits : Limits) (history : List PortCall) →
    RefinesRun (untouched limits) history old → HasTotals limits (history ++ call) new
