-- Turns in a row.
use Rattle.std.proofs.Common.{◌≡◌, ℕ, zero, suc, ◌+◌, false, List, [], refl}
use Rattle.std.proofs.Common.{sym, subst, add-one}
use Rattle.daide_protocol.specs.Wires.{SessionView, is_closed}
use Rattle.daide_io.specs.Ports.{PortCall}
use Rattle.daide_driver.specs.Record.{EvolveTogether}
use Rattle.daide_driver.specs.Totals.{RefinesRun}
use Rattle.daide_driver.specs.Turn.{Then}
use Rattle.daide_driver.specs.Whole.{WholeTurn}
use Rattle.daide_session.specs.Bounds.{IsWithinBounds}
use Rattle.daide_driver.specs.Relay.{Turns, MakesTurns, WholeRelay}
use Rattle.daide_driver.specs.declared.relaying.RelayEnd.{RelayEnd}
use Rattle.daide_driver.specs.declared.relaying.RelayEnd.TheVariants.{Closed, TurnsSpent}
use Rattle.daide_driver.proofs.Stretches.{relays_append, relays_nil, carries_then, carries_weaker, carries_nothing}
use Rattle.daide_driver.proofs.Standing.{headline_of, totals_of}

-- n turns, and the session is not closed after them
abbrev pub StaysOpen : ℕ → SessionView → List PortCall → SessionView → Type 0
StaysOpen n old trace new = Turns n old trace new × (is_closed new ≡ false)

-- turns are a part of a run
turns_relay : (n : ℕ) (a : SessionView) (xs : List PortCall) (b : SessionView) → Turns n a xs b → RefinesRun a xs b
turns_relay zero a xs b h =
    subst (λ (ys : List PortCall). RefinesRun a ys b) (sym h.0)
    (subst (λ (c : SessionView). RefinesRun a [] c) (sym h.1) (relays_nil a))
turns_relay (suc n) a xs b h =
    subst (λ (ys : List PortCall). RefinesRun a ys b) (sym h.3)
    (relays_append a h.1 h.0 h.2 b (turns_relay n a h.1 h.0 h.4) h.6.delivered)

pub relayed : (end : RelayEnd) (turns : ℕ) (a : SessionView) (xs : List PortCall) (b : SessionView) → IsWithinBounds b →
    MakesTurns end turns a xs b → WholeRelay end turns a xs b
relayed Closed turns a xs b within h =
    let relays = turns_relay h.0 a xs b h.2 in
    record { in_order = h; delivered = relays; headline = headline_of a xs b within relays.sends; totals = totals_of a xs b relays }
relayed TurnsSpent turns a xs b within h =
    let relays = turns_relay turns a xs b h in
    record { in_order = h; delivered = relays; headline = headline_of a xs b within relays.sends; totals = totals_of a xs b relays }

one_more : (n : ℕ) (a : SessionView) (xs : List PortCall) (b : SessionView) → Then (StaysOpen n) WholeTurn a xs b →
    Turns (n + 1) a xs b
one_more n a xs b h = rw add-one (h.0, h.1, h.2, h.3, h.4.0, h.4.1, h.5)

module _ {P : Type 0} (transition : P → PortCall → P → Type 0) where
  pub no_turn : (a : SessionView) (p : P) → EvolveTogether transition (Turns 0) (a, p) (a, p)
  no_turn a p = carries_nothing transition (Turns 0) a a p (refl, refl)

  pub another_turn : (n : ℕ) (a b c : SessionView × P) → EvolveTogether transition (Turns n) a b → is_closed b.0 ≡ false →
      EvolveTogether transition WholeTurn b c → EvolveTogether transition (Turns (n + 1)) a c
  another_turn n a b c h e k =
      carries_weaker transition (Then (StaysOpen n) WholeTurn) (Turns (n + 1)) a c (λ xs. one_more n a.0 xs c.0)
      (carries_then transition (StaysOpen n) WholeTurn a b c
      (carries_weaker transition (Turns n) (StaysOpen n) a b (λ xs r. (r, e)) h) k)
