-- The effect of `relay`: turns of a session while it is not closed, at most a given number.
use Rattle.std.specs.Prelude.{◌≡◌, ℕ, zero, suc, ◌≤◌, Bool, true, false, List, [], ◌++◌}
use Rattle.daide_protocol.specs.Wires.{SessionView, is_closed}
use Rattle.daide_io.specs.Ports.{PortCall}
use Rattle.daide_driver.specs.Headline.{Headline}
use Rattle.daide_driver.specs.Totals.{RefinesRun, KeepsTotals}
use Rattle.daide_driver.specs.Whole.{WholeTurn}
use Rattle.daide_driver.specs.declared.relaying.RelayEnd.{RelayEnd}
use Rattle.daide_driver.specs.declared.relaying.RelayEnd.TheVariants.{Closed, TurnsSpent}

-- n turns, each of a session that is not closed; after each one the session is within its bounds, and the next turn
-- starts from its fronts
abbrev pub Turns : ℕ → SessionView → List PortCall → SessionView → Type 0
Turns zero old trace new = (trace ≡ []) × (new ≡ old)
Turns (suc n) old trace new =
    (mid : SessionView) × (first : List PortCall) × (second : List PortCall)
    × (trace ≡ first ++ second) × Turns n old first mid × (is_closed mid ≡ false) × WholeTurn mid second new

-- all turns were made if the relay reports them as spent; otherwise at most all
abbrev pub MakesTurns : RelayEnd → ℕ → SessionView → List PortCall → SessionView → Type 0
MakesTurns Closed turns old trace new = (n : ℕ) × (n ≤ turns) × Turns n old trace new
MakesTurns TurnsSpent turns old trace new = Turns turns old trace new

abbrev pub is_spent : RelayEnd → Bool
is_spent Closed = false
is_spent TurnsSpent = true

-- the effect of a relay that ended this way, all parts by the same trace
pub record WholeRelay (end : RelayEnd) (turns : ℕ) (old : SessionView) (call : List PortCall)
    (new : SessionView) : Type 0 where
  pub in_order : MakesTurns end turns old call new
  pub delivered : RefinesRun old call new
  pub headline : Headline old call new
  pub totals : KeepsTotals old call new
