-- No session of a run is closed between its rounds: a visit retires one that is.
use Rattle.std.proofs.Common.{◌≡◌, ◌≢◌, ℕ, zero, suc, Bool, true, false, List, [], ◌∷◌, Option, Some, None, inl, inr, refl, sym, ap, ◌∙◌, subst}
use Rattle.std.specs.Prelude.{◌==◌, slice_get, if◌then◌else◌}
use Rattle.std.proofs.lemmas.Bool.{eqb-true, eqb-false}
use Rattle.daide_protocol.specs.Wires.{is_closed}
use Rattle.daide_settings.specs.declared.settings.Settings.{Settings}
use Rattle.daide_io.specs.Ports.{PortCall}
use Rattle.daide_io.specs.System.{SystemCall}
use Rattle.daide_io.specs.declared.system.Connect.{Connect}
use Rattle.daide_io.specs.declared.system.Connect.TheVariants.{Ready, Failed, Pending}
use Rattle.daide_driver.specs.declared.place.SlabPlace.{SlabPlace}
use Rattle.daide_driver.specs.declared.place.SlabPlace.TheVariants.{Free, Kept, Held}
use Rattle.daide_driver.specs.Slab.{SlabView, IsAt, IfHeldAt, all_free, with_place, SlotView, new_slot}
use Rattle.daide_event_loop.specs.Serving.{ServiceView, LeavesVisit, TurnsAndLeaves, JoinsBy, VisitsBy, Visits, queued_again}
use Rattle.daide_event_loop.specs.Serving.{Admits, accepted_at, polled, Rounds, initial_service}
use Rattle.daide_event_loop.proofs.BeginningLemmas.{get_set}
use Rattle.daide_event_loop.proofs.ServedLemmas.{ChangesOnlyAt, same_there, one_there, held_here, turns_there_only}

module _ {P : Type 0} where
  abbrev IsOpen : ℕ → SlotView P → Type 0
  IsOpen place held = is_closed held.session ≡ false

  abbrev AllOpen : SlabView P → Type 0
  AllOpen slab = (place : ℕ) → IfHeldAt slab.places place (IsOpen place)

  -- the same but at one place
  abbrev AllOthersOpen : ℕ → SlabView P → Type 0
  AllOthersOpen place slab = (other : ℕ) → other ≢ place → IfHeldAt slab.places other (IsOpen other)

  all_open : (place : ℕ) (old new : SlabView P) → ChangesOnlyAt place old new → AllOthersOpen place old →
      IfHeldAt new.places place (IsOpen place) → AllOpen new
  all_open place old new only others here other = by (other == place) refl
    where
      by : (same : Bool) → (other == place) ≡ same → IfHeldAt new.places other (IsOpen other)
      by true e = subst (λ (n : ℕ). IfHeldAt new.places n (IsOpen n)) (sym (eqb-true other place e)) here
      by false e =
          let apart = eqb-false other place e in
          λ held at. others other apart held (sym (only.beside other apart) ∙ at)

  others_stay : (place : ℕ) (old new : SlabView P) → ChangesOnlyAt place old new → AllOthersOpen place old →
      AllOthersOpen place new
  others_stay place old new only others = λ other apart held at. others other apart held (sym (only.beside other apart) ∙ at)

  -- something that is no session is put at a place
  put_open : (old : SlabView P) (place : ℕ) (was now : SlabPlace (SlotView P)) (new : SlabView P) →
      IsAt old place was → new ≡ with_place old place now → ((held : SlotView P) → now ≡ Held held → IsOpen place held) →
      AllOthersOpen place old → AllOpen new
  put_open old place was now new at e here others =
      all_open place old new (one_there place old new now e) others
      (λ held there. here held
      (let own : slice_get new.places place ≡ Some now =
      ap (λ (s : SlabView P). slice_get s.places place) e ∙ get_set old.places place now was at in cc))

  leaves_open : (closed : Bool) (now : SlotView P) (old : ServiceView P) (place : ℕ) (trace : List (SystemCall P)) (new : ServiceView P) →
      IsAt old.slab place (Held now) → is_closed now.session ≡ closed → LeavesVisit closed now old place trace new →
      AllOthersOpen place old.slab → AllOpen new.slab
  leaves_open true now old place trace new at e h others =
      put_open old.slab place (Held now) Free new.slab at (ap (λ (s : ServiceView P). s.slab) h.1) (λ held is. absurd (cc)) others
  leaves_open false now old place trace new at e h others =
      all_open place old.slab new.slab (same_there place old.slab new.slab same) others
      (subst (λ (s : SlabView P). IfHeldAt s.places place (IsOpen place)) (sym same)
      (held_here old.slab place now (IsOpen place) at e))
    where
      by : (rests : Bool) → (if rests then old else queued_again old place).slab ≡ old.slab
      by true = refl
      by false = refl

      same : new.slab ≡ old.slab
      same = ap (λ (s : ServiceView P). s.slab) h.2 ∙ by h.0

module _ {P : Type 0} (port_transition : P → PortCall → P → Type 0) where
  given_open : (old : ServiceView P) (place turns : ℕ) (trace : List (SystemCall P)) (new : ServiceView P) →
      TurnsAndLeaves port_transition old place turns trace new → AllOthersOpen place old.slab → AllOpen new.slab
  given_open old place turns trace new h others =
      leaves_open (is_closed h.now.session) h.now (record old { slab = h.turned }) place h.leaving new h.there refl h.leaves
      (others_stay place old.slab h.turned (turns_there_only port_transition turns old.slab place h.turning h.turned h.takes.made) others)

  same_open : (old new : ServiceView P) → new ≡ old → AllOpen old.slab → AllOpen new.slab
  same_open old new e each = subst (λ (s : ServiceView P). AllOpen s.slab) (sym e) each

  visit_open : (at : Option (SlabPlace (SlotView P))) (old : ServiceView P) (place turns : ℕ) (trace : List (SystemCall P))
      (new : ServiceView P) → slice_get old.slab.places place ≡ at → VisitsBy port_transition at old place turns trace new →
      AllOpen old.slab → AllOpen new.slab
  visit_open None old place turns trace new there h each = same_open old new h.2 each
  visit_open (Some Free) old place turns trace new there h each = same_open old new h.2 each
  visit_open (Some Kept) old place turns trace new there h each = by h.0 h.1 h.3
    where
      others : AllOthersOpen place old.slab
      others = λ other apart. each other

      by : (connect : Connect P) (joining : List (SystemCall P)) → JoinsBy port_transition connect old place turns joining new →
          AllOpen new.slab
      by (Ready ports) joining m =
          given_open (record old { slab = m.0 }) place turns joining new m.2
          (others_stay place old.slab m.0 (one_there place old.slab m.0 (Held (new_slot m.1.0 ports old.counters.turns)) m.1.2) others)
      by Failed joining m =
          put_open old.slab place Kept Free new.slab there (ap (λ (s : ServiceView P). s.slab) m.2) (λ held is. absurd (cc)) others
      by Pending joining m = same_open old new m.2 each
  visit_open (Some (Held now)) old place turns trace new there h each =
      given_open old place turns trace new h (λ other apart. each other)

  visits_open : (visited : List ℕ) (turns : ℕ) (old : ServiceView P) (trace : List (SystemCall P)) (new : ServiceView P) →
      Visits port_transition visited turns old trace new → AllOpen old.slab → AllOpen new.slab
  visits_open [] turns old trace new h each = same_open old new h.2 each
  visits_open (place ∷ earlier) turns old trace new h each =
      visit_open (slice_get h.0.slab.places place) (record h.0 { ready = h.8.ready }) place h.2 h.4 new refl h.8.visits
      (visits_open earlier h.1 old h.3 h.0 h.7 each)

  admits_open : (old : ServiceView P) (trace : List (SystemCall P)) (new : ServiceView P) → Admits old trace new →
      AllOpen old.slab → AllOpen new.slab
  admits_open old trace new (inr none) each = same_open old new none.2 each
  admits_open old trace new (inl asks) each = subst (λ (s : ServiceView P). AllOpen s.slab) (sym asks.then_kept) (by asks.came)
    where
      by : (came : Bool) → AllOpen (if came then accepted_at old asks.place else old).slab
      by true =
          put_open old.slab asks.place Free Kept (with_place old.slab asks.place Kept) asks.free refl (λ held is. absurd (cc))
          (λ other apart. each other)
      by false = each

  none_held : (count place : ℕ) (held : SlotView P) → slice_get (all_free {T = SlotView P} count) place ≡ Some (Held held) →
      is_closed held.session ≡ false
  none_held zero zero held e = absurd (cc)
  none_held zero (suc place) held e = absurd (cc)
  none_held (suc count) zero held e = absurd (cc)
  none_held (suc count) (suc place) held e = none_held count place held e

  pub rounds_open : (settings : Settings) (n : ℕ) (trace : List (SystemCall P)) (run : ServiceView P) →
      Rounds port_transition n (initial_service settings) trace run → AllOpen run.slab
  rounds_open settings zero trace run h =
      same_open (initial_service settings) run h.1 (λ place held at. none_held settings.max_sessions place held at)
  rounds_open settings (suc n) trace run h =
      admits_open h.6.mid h.6.admission run h.6.admits
      (visits_open h.6.visits.visited h.6.visits.turns (polled h.6.woken h.6.orders h.0) h.6.visiting h.6.mid h.6.visits.takes
      (rounds_open settings n h.1 h.0 h.4))
