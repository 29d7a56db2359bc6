-- The steps of a visit, as the loop makes them, together are the visit.
use Rattle.std.proofs.Common.{◌≡◌, ℕ, ◌<◌, ◌≤◌, Bool, true, false, List, [], ◌∷◌, ◌++◌, Option, Some, None}
use Rattle.std.proofs.Common.{refl, sym, ap, ◌∙◌, subst, arith}
use Rattle.std.specs.Prelude.{slice_get, if◌then◌else◌}
use Rattle.daide_protocol.specs.declared.ending.Ending.{Ending}
use Rattle.daide_protocol.specs.declared.account.Account.{Account}
use Rattle.daide_protocol.specs.Machine.{ending_in}
use Rattle.daide_protocol.specs.Wires.{SessionView, is_closed}
use Rattle.daide_io.specs.declared.fault_field.FaultField.{FaultField}
use Rattle.daide_io.specs.Ports.{PortCall}
use Rattle.daide_io.specs.declared.system.Connect.{Connect}
use Rattle.daide_io.specs.declared.system.Connect.TheVariants.{Ready, Failed, Pending}
use Rattle.daide_io.specs.System.{SystemCall, Connects, TransitsBy}
use Rattle.daide_driver.specs.Hub.{IsReportedOf}
use Rattle.daide_driver.specs.declared.place.SlabPlace.{SlabPlace}
use Rattle.daide_driver.specs.declared.place.SlabPlace.TheVariants.{Free, Kept, Held}
use Rattle.daide_driver.specs.Slab.{SlabView, SlotView, IsAt, IfHeldAt, is_so, is_at, is_kept, is_held, with_place, OpensAt, new_slot}
use Rattle.daide_driver.specs.declared.meter.Meter.{Meter}
use Rattle.daide_event_loop.specs.Serving.{ServiceView, TakesTurns, TurnsAndLeaves, RestsBy, JoinsBy, VisitsBy, VisitsPlace, retirement, end_by, end_of, queued_again}
use Rattle.daide_event_loop.proofs.BeginningLemmas.{get_set, held_in, turns_there}
use Rattle.daide_event_loop.proofs.TransitLemmas.{transits_then}

-- what a removed session reports is its own end
parted_as : {P : Type 0} (place : ℕ) (now : SlotView P) (ports : P) (meter : Meter) (account : Account) (ending : Ending)
    (field : Option FaultField) → ports ≡ now.ports → meter ≡ now.meter → IsReportedOf now.session account ending field →
    retirement place ports meter (end_by meter (Some ending) account field) ≡ retirement place now.ports now.meter (end_of now)
parted_as {P} place now ports meter account ending field e f r =
    ap (λ (p : P). retirement place p meter (end_by meter (Some ending) account field)) e
    ∙ ap (λ (m : Meter). retirement place now.ports m (end_by m (Some ending) account field)) f
    ∙ ap (λ (a : Account). retirement place now.ports now.meter (end_by now.meter (Some ending) a field)) r.0
    ∙ ap (λ (o : Option Ending). retirement place now.ports now.meter (end_by now.meter o now.session.account field)) (sym r.1)
    ∙ ap (λ (d : Option FaultField). retirement place now.ports now.meter
    (end_by now.meter (ending_in now.session.state.phase) now.session.account d)) r.2

module _ {P S : Type 0} (port_transition : P → PortCall → P → Type 0) (transition : S → SystemCall P → S → Type 0) where
  -- turns of a visit, with their trace
  abbrev pub HadTurns : S → SlabView P → ℕ → ℕ → SlabView P → S → Type 0
  HadTurns first old place turns new system =
      (trace : List (SystemCall P)) × TransitsBy transition first trace system × TakesTurns port_transition old place turns trace new

  -- turns with what comes after them, with their trace
  abbrev pub HadVisit : S → ServiceView P → ℕ → ℕ → ServiceView P → S → Type 0
  HadVisit first old place turns new system = (trace : List (SystemCall P)) × TransitsBy transition first trace system
      × TurnsAndLeaves port_transition old place turns trace new

  -- the session is still there
  pub there_after : (s t : S) (old new : SlabView P) (place turns : ℕ) → HadTurns s old place turns new t →
      is_at is_held new.places place ≡ true
  there_after s t old new place turns h = turns_there port_transition turns old place h.0 new h.2.some h.2.made

  -- a closed session is retired
  pub retired : (s t u : S) (old : ServiceView P) (place turns : ℕ) (turned slab : SlabView P)
      (session : SessionView) (ports : P) (meter : Meter) (account : Account) (ending : Ending) (field : Option FaultField) →
      HadTurns s old.slab place turns turned t → IfHeldAt turned.places place (λ item. session ≡ item.session) →
      is_closed session ≡ true → slab ≡ with_place turned place Free → IfHeldAt turned.places place (λ item. ports ≡ item.ports) →
      IfHeldAt turned.places place (λ item. meter ≡ item.meter) →
      IfHeldAt turned.places place (λ item. IsReportedOf item.session account ending field) →
      TransitsBy transition t (retirement place ports meter (end_by meter (Some ending) account field)) u →
      HadVisit s old place turns (record old { slab = slab }) u
  retired s t u old place turns turned slab session ports meter account ending field h is closed free own counted reported goes =
      let found = held_in (slice_get turned.places place) (there_after s t old.slab turned place turns h) in
      let now = found.0 in
      let over : is_closed now.session ≡ true = ap is_closed (sym (is now found.1)) ∙ closed in
      let same = parted_as place now ports meter account ending field (own now found.1) (counted now found.1) (reported now found.1) in (
        h.0 ++ retirement place now.ports now.meter (end_of now),
        transits_then transition h.0 (retirement place now.ports now.meter (end_of now)) s t u h.1
            (subst (λ (l : List (SystemCall P)). TransitsBy transition t l u) same goes),
        record {
          now = now;
          turned = turned;
          turning = h.0;
          leaving = retirement place now.ports now.meter (end_of now);
          takes = h.2;
          there = found.1;
          leaves = rw over (refl, ap (λ (k : SlabView P). record old { slab = k }) free);
          asked = refl;
        },
      )

  -- an open one rests, or joins the end of the queue
  pub left_open : (s t u : S) (old new : ServiceView P) (place turns : ℕ) (turned : SlabView P) (session : SessionView)
      (rests : Bool) → HadTurns s old.slab place turns turned t → IfHeldAt turned.places place (λ item. session ≡ item.session) →
      is_closed session ≡ false → IfHeldAt turned.places place (λ item. (trace : List (SystemCall P))
      × TransitsBy transition t trace u × RestsBy item.meter.moved.made_progress place item.ports trace rests) →
      new ≡ (if rests then record old { slab = turned } else queued_again (record old { slab = turned }) place) →
      HadVisit s old place turns new u
  left_open s t u old new place turns turned session rests h is lives own leaves =
      let found = held_in (slice_get turned.places place) (there_after s t old.slab turned place turns h) in
      let now = found.0 in
      let rest = own now found.1 in
      let still : is_closed now.session ≡ false = ap is_closed (sym (is now found.1)) ∙ lives in (
        h.0 ++ rest.0,
        transits_then transition h.0 rest.0 s t u h.1 rest.1,
        record {
          now = now;
          turned = turned;
          turning = h.0;
          leaving = rest.0;
          takes = h.2;
          there = found.1;
          leaves = rw still (rests, rest.2, leaves);
          asked = refl;
        },
      )

-- ---- what is at a place

module _ {P : Type 0} (port_transition : P → PortCall → P → Type 0) where
  -- a place without a session that is not kept has nothing to do
  pub passed_over : (at : Option (SlabPlace (SlotView P))) (old : ServiceView P) (place : ℕ) →
      is_so is_held at ≡ false → is_so is_kept at ≡ false → VisitsBy port_transition at old place 1 [] old
  passed_over None old place held kept = (refl, refl, refl)
  passed_over (Some Free) old place held kept = (refl, refl, refl)
  passed_over (Some Kept) old place held kept = absurd (cc)
  passed_over (Some (Held now)) old place held kept = absurd (cc)

  -- one that has a session is visited by its turns
  pub visited_held : (at : Option (SlabPlace (SlotView P))) (old : ServiceView P) (place turns : ℕ)
      (trace : List (SystemCall P)) (new : ServiceView P) → is_so is_held at ≡ true →
      TurnsAndLeaves port_transition old place turns trace new → VisitsBy port_transition at old place turns trace new
  visited_held None old place turns trace new e h = absurd (cc)
  visited_held (Some Free) old place turns trace new e h = absurd (cc)
  visited_held (Some Kept) old place turns trace new e h = absurd (cc)
  visited_held (Some (Held now)) old place turns trace new e h = h

  -- one that is kept is visited by the result of its connect
  pub visited_kept : (old : ServiceView P) (place turns : ℕ) (connect : Connect P) (joining : List (SystemCall P)) (new : ServiceView P) →
      IsAt old.slab place Kept → JoinsBy port_transition connect old place turns joining new →
      VisitsPlace port_transition old place turns (Connects place connect ∷ joining) new
  visited_kept old place turns connect joining new kept h =
      subst (λ (at : Option (SlabPlace (SlotView P))). VisitsBy port_transition at old place turns (Connects place connect ∷ joining) new)
      (sym kept) (connect, joining, refl, h)

  -- a visit counts one turn at least, and a quantum at most
  pub visit_turns : (at : Option (SlabPlace (SlotView P))) (old : ServiceView P) (place turns : ℕ) (trace : List (SystemCall P))
      (new : ServiceView P) → VisitsBy port_transition at old place turns trace new → (0 < turns) × (turns ≤ 8)
  visit_turns None old place turns trace new h = let one = h.0 in (omega (arith, one), omega (arith, one))
  visit_turns (Some Free) old place turns trace new h = let one = h.0 in (omega (arith, one), omega (arith, one))
  visit_turns (Some Kept) old place turns trace new h = by h.0 h.1 h.3
    where
      by : (connect : Connect P) (joining : List (SystemCall P)) → JoinsBy port_transition connect old place turns joining new →
          (0 < turns) × (turns ≤ 8)
      by (Ready ports) joining m = (m.2.takes.some, m.2.takes.few)
      by Failed joining m = let one = m.0 in (omega (arith, one), omega (arith, one))
      by Pending joining m = let one = m.0 in (omega (arith, one), omega (arith, one))
  visit_turns (Some (Held now)) old place turns trace new h = (h.takes.some, h.takes.few)

-- a place that is kept
pub kept_in : {T : Type 0} (at : Option (SlabPlace T)) → is_so is_kept at ≡ true → at ≡ Some Kept
kept_in None e = absurd (cc)
kept_in (Some Free) e = absurd (cc)
kept_in (Some Kept) e = refl
kept_in (Some (Held now)) e = absurd (cc)

-- a session that begins is there
pub opened_there : {P : Type 0} (old : SlabView P) (place : ℕ) (ports : P) (turns : ℕ) (new : SlabView P) → IsAt old place Kept →
    OpensAt old place ports turns new → is_at is_held new.places place ≡ true
opened_there {P} old place ports turns new kept h =
    ap (λ (slab : SlabView P). is_at is_held slab.places place) h.2
    ∙ ap (is_so is_held) (get_set old.places place (Held (new_slot h.0 ports turns)) Kept kept)
