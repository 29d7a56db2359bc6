-- What a call does to a session, all parts by the same trace of port calls.
use Rattle.std.specs.Prelude.{List}
use Rattle.daide_protocol.specs.Wires.{SessionView}
use Rattle.daide_session.specs.Bounds.{IsWithinBounds}
use Rattle.daide_io.specs.Ports.{PortCall}
use Rattle.daide_driver.specs.Headline.{Headline}
use Rattle.daide_driver.specs.Totals.{RefinesRun, KeepsTotals}
use Rattle.daide_driver.specs.Turn.{Turn}

-- a call that has the headline, and keeps the totals
abbrev pub HasHeadline : SessionView → List PortCall → SessionView → Type 0
HasHeadline old call new = Headline old call new × KeepsTotals old call new

-- The effect of one turn. The port calls are in order; the bytes accepted and queued are the machine's output, its moves
-- are counted, and the look-ups are bounded; the session is within its bounds; it has the headline, and its totals.
pub record WholeTurn (old : SessionView) (call : List PortCall) (new : SessionView) : Type 0 where
  pub in_order : Turn old call new
  pub delivered : RefinesRun old call new
  pub bounds : IsWithinBounds new
  pub headline : Headline old call new
  pub totals : KeepsTotals old call new
