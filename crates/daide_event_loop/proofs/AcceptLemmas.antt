-- A run has as many places in its queue as in its slab. So whoever is accepted is queued, and a run that is idle after a
-- round, though it may accept a bot, asked for one in vain.
use Rattle.std.proofs.Common.{◌≡◌, ℕ, zero, suc, ◌+◌, Bool, true, false, List, [], ◌∷◌, ◌++◌, Option, Some, None, length, inl, inr, ⊎_elim}
use Rattle.std.proofs.Common.{refl, sym, ap, ◌∙◌, subst, arith}
use Rattle.std.specs.Prelude.{◌==◌, ◌&&◌, if◌then◌else◌, slice_get}
use Rattle.std.proofs.lemmas.Bool.{eqb-true}
use Rattle.std.proofs.lemmas.List.{length-set, append_assoc}
use Rattle.std.proofs.lemmas.Option.{slice_get_within}
use Rattle.daide_protocol.specs.Wires.{is_closed}
use Rattle.daide_settings.specs.declared.settings.Settings.{Settings}
use Rattle.daide_io.specs.Ports.{PortCall}
use Rattle.daide_io.specs.ReadyQueue.{ReadyView, queued_places, occurrences_of, may_join, woken, woken_all, put_back, TakesNext}
use Rattle.daide_io.specs.System.{SystemCall, Accepts}
use Rattle.daide_io.specs.declared.system.Connect.{Connect}
use Rattle.daide_io.specs.declared.system.Connect.TheVariants.{Ready, Failed, Pending}
use Rattle.daide_driver.specs.declared.place.SlabPlace.{SlabPlace}
use Rattle.daide_driver.specs.declared.place.SlabPlace.TheVariants.{Free, Kept, Held}
use Rattle.daide_driver.specs.Slab.{SlabView, IsAt, IsNoneFree, all_free, ChangesAt, SlotView, new_slot, IsSlotTurned}
use Rattle.daide_event_loop.specs.Serving.{ServiceView, OpensTurn, TurnsInRow, LeavesVisit, TurnsAndLeaves, JoinsBy, VisitsBy, Visits, queued_again}
use Rattle.daide_event_loop.specs.Serving.{Admits, accepted_at, opening, polled, has_room, Round, Rounds, initial_service, is_queue_empty, have_all_come}
use Rattle.daide_event_loop.specs.Waiting.{NoBotIsLeftOut}
use Rattle.daide_event_loop.proofs.WaitingLemmas.{woken_places, woken_there}

-- ---- the queue

pub woken_all_places : (places : List ℕ) (queue : ReadyView) → (woken_all places queue).places ≡ queue.places
woken_all_places [] queue = refl
woken_all_places (place ∷ places) queue = woken_all_places places (woken queue place) ∙ woken_places queue place

put_back_places : (queue : ReadyView) (place : ℕ) → (put_back queue place).places ≡ queue.places
put_back_places queue place = by (may_join queue place)
  where
    by : (b : Bool) → (if b then record queue { moving = queue.moving ++ place ∷ [] } else queue).places ≡ queue.places
    by true = refl
    by false = refl

pub taken_places : (fresh_first : Bool) (old : ReadyView) (place : ℕ) (new : ReadyView) → TakesNext fresh_first old place new →
    new.places ≡ old.places
taken_places true old place new (inl takes) = sym (ap (λ (q : ReadyView). q.places) takes)
taken_places true old place new (inr takes) = sym (ap (λ (q : ReadyView). q.places) takes.1)
taken_places false old place new (inl takes) = sym (ap (λ (q : ReadyView). q.places) takes)
taken_places false old place new (inr takes) = sym (ap (λ (q : ReadyView). q.places) takes.1)

free_length : (T : Type 0) (count : ℕ) → length (all_free {T = T} count) ≡ count
free_length T zero = refl
free_length T (suc count) = ap suc (free_length T count)

module _ {P : Type 0} (port_transition : P → PortCall → P → Type 0) where
  -- ---- the places

  changed_length : (Kind : SlotView P → SlotView P → Type 0)
      (old : SlabView P) (place : ℕ) (new : SlabView P) → ChangesAt Kind old place new →
      length new.places ≡ length old.places
  changed_length Kind old place new h =
      ap (λ (s : SlabView P). length s.places) h.3 ∙ length-set old.places place (Held h.1)

  turns_length : (n : ℕ) (old : SlabView P) (place : ℕ) (trace : List (SystemCall P))
      (new : SlabView P) → TurnsInRow port_transition n old place trace new → length new.places ≡ length old.places
  turns_length zero old place trace new h = ap (λ (s : SlabView P). length s.places) h.1
  turns_length (suc n) old place trace new h =
      changed_length (IsSlotTurned port_transition) h.6.begun place new h.6.runs
      ∙ changed_length (OpensTurn port_transition place h.2) h.0 place h.6.begun h.6.begins
      ∙ turns_length n old place h.1 h.0 h.4

  -- ---- both, step by step

  abbrev pub KeepsPlaces : ServiceView P → ServiceView P → Type 0
  KeepsPlaces old new = (new.ready.places ≡ old.ready.places) × (length new.slab.places ≡ length old.slab.places)

  same_run : (old new : ServiceView P) → new ≡ old → KeepsPlaces old new
  same_run old new e =
      (ap (λ (s : ServiceView P). s.ready.places) e, ap (λ (s : ServiceView P). length s.slab.places) e)

  leave_places : (closed : Bool) (now : SlotView P) (old : ServiceView P) (place : ℕ)
      (trace : List (SystemCall P)) (new : ServiceView P) → LeavesVisit closed now old place trace new → KeepsPlaces old new
  leave_places true now old place trace new h = (
    ap (λ (s : ServiceView P). s.ready.places) h.1,
    ap (λ (s : ServiceView P). length s.slab.places) h.1 ∙ length-set old.slab.places place Free,
  )
  leave_places false now old place trace new h = (
    ap (λ (s : ServiceView P). s.ready.places) h.2 ∙ (by h.0).0,
    ap (λ (s : ServiceView P). length s.slab.places) h.2 ∙ (by h.0).1,
  )
    where
      by : (rests : Bool) → KeepsPlaces old (if rests then old else queued_again old place)
      by true = (refl, refl)
      by false = (put_back_places old.ready place, refl)

  given_places : (old : ServiceView P) (place turns : ℕ) (trace : List (SystemCall P)) (new : ServiceView P) →
      TurnsAndLeaves port_transition old place turns trace new → KeepsPlaces old new
  given_places old place turns trace new h =
      let left = leave_places (is_closed h.now.session) h.now (record old { slab = h.turned }) place h.leaving new h.leaves in
      (left.0, left.1 ∙ turns_length turns old.slab place h.turning h.turned h.takes.made)

  visit_places : (at : Option (SlabPlace (SlotView P))) (old : ServiceView P) (place turns : ℕ)
      (trace : List (SystemCall P)) (new : ServiceView P) → VisitsBy port_transition at old place turns trace new →
      KeepsPlaces old new
  visit_places None old place turns trace new h = same_run old new h.2
  visit_places (Some Free) old place turns trace new h = same_run old new h.2
  visit_places (Some Kept) old place turns trace new h = by h.0 h.1 h.3
    where
      by : (connect : Connect P) (joining : List (SystemCall P)) → JoinsBy port_transition connect old place turns joining new →
          KeepsPlaces old new
      by (Ready ports) joining m =
          let given = given_places (record old { slab = m.0 }) place turns joining new m.2 in (
            given.0,
            given.1 ∙ ap (λ (s : SlabView P). length s.places) m.1.2
                ∙ length-set old.slab.places place (Held (new_slot m.1.0 ports old.counters.turns)),
          )
      by Failed joining m = (
        ap (λ (s : ServiceView P). s.ready.places) m.2,
        ap (λ (s : ServiceView P). length s.slab.places) m.2 ∙ length-set old.slab.places place Free,
      )
      by Pending joining m = same_run old new m.2
  visit_places (Some (Held now)) old place turns trace new h = given_places old place turns trace new h

  pub visits_places : (visited : List ℕ) (turns : ℕ) (old : ServiceView P) (trace : List (SystemCall P)) (new : ServiceView P) →
      Visits port_transition visited turns old trace new → KeepsPlaces old new
  visits_places [] turns old trace new h = same_run old new h.2
  visits_places (place ∷ earlier) turns old trace new h =
      let before = visits_places earlier h.1 old h.3 h.0 h.7 in
      let last = visit_places (slice_get h.0.slab.places place) (record h.0 { ready = h.8.ready }) place h.2 h.4 new h.8.visits in
      (last.0 ∙ taken_places (has_room (h.1 + 8)) h.0.ready place h.8.ready h.8.chooses ∙ before.0, last.1 ∙ before.1)

  admitted_places : (old : ServiceView P) (trace : List (SystemCall P)) (new : ServiceView P) → Admits old trace new →
      KeepsPlaces old new
  admitted_places old trace new (inr none) = same_run old new none.2
  admitted_places old trace new (inl asks) =
      subst (λ (s : ServiceView P). KeepsPlaces old s) (sym asks.then_kept) (by asks.came)
    where
      by : (came : Bool) → KeepsPlaces old (if came then accepted_at old asks.place else old)
      by true = (woken_places old.ready asks.place, length-set old.slab.places asks.place Kept)
      by false = (refl, refl)

  abbrev pub HasPlaces : ServiceView P → Type 0
  HasPlaces run = run.ready.places ≡ length run.slab.places

  pub before_admission : (old new : ServiceView P) (trace : List (SystemCall P)) (r : Round port_transition old trace new) →
      HasPlaces old → HasPlaces r.mid
  before_admission old new trace r h =
      let kept = visits_places r.visits.visited r.visits.turns (polled r.woken r.orders old) r.visiting r.mid r.visits.takes in
      kept.0 ∙ woken_all_places r.woken old.ready ∙ h ∙ sym kept.1

  pub rounds_places : (settings : Settings) (n : ℕ) (trace : List (SystemCall P)) (run : ServiceView P) →
      Rounds port_transition n (initial_service settings) trace run → HasPlaces run
  rounds_places settings zero trace run h =
      subst HasPlaces (sym h.1) (sym (free_length (SlotView P) settings.max_sessions))
  rounds_places settings (suc n) trace run h =
      let mid = before_admission h.0 run h.2 h.6 (rounds_places settings n h.1 h.0 h.4) in
      let kept = admitted_places h.6.mid h.6.admission run h.6.admits in
      kept.0 ∙ mid ∙ sym kept.1

  -- the number of places never changes
  pub rounds_length : (settings : Settings) (n : ℕ) (trace : List (SystemCall P)) (run : ServiceView P) →
      Rounds port_transition n (initial_service settings) trace run → length run.slab.places ≡ settings.max_sessions
  rounds_length settings zero trace run h =
      ap (λ (s : ServiceView P). length s.slab.places) h.1 ∙ free_length (SlotView P) settings.max_sessions
  rounds_length settings (suc n) trace run h =
      (admitted_places h.6.mid h.6.admission run h.6.admits).1
      ∙ (visits_places h.6.visits.visited h.6.visits.turns (polled h.6.woken h.6.orders h.0) h.6.visiting h.6.mid h.6.visits.takes).1
      ∙ rounds_length settings n h.1 h.0 h.4

  -- ---- a run that is idle after a round

  none_in : (xs : List ℕ) → (length xs == 0) ≡ true → xs ≡ []
  none_in [] e = refl
  none_in (x ∷ xs) e = let none = eqb-true (length (x ∷ xs)) 0 e in absurd (omega (arith, none))

  both_true : (one other : Bool) → (one && other) ≡ true → (one ≡ true) × (other ≡ true)
  both_true true other e = (refl, e)
  both_true false other e = absurd (cc)

  pub none_queued : (run : ServiceView P) (place : ℕ) → is_queue_empty run ≡ true → occurrences_of place (queued_places run.ready) ≡ 0
  none_queued run place e =
      let both = both_true (length run.ready.fresh == 0) (length run.ready.moving == 0) e in
      ap (λ (xs : List ℕ). occurrences_of place (xs ++ run.ready.moving)) (none_in run.ready.fresh both.0)
      ∙ ap (λ (xs : List ℕ). occurrences_of place xs) (none_in run.ready.moving both.1)

  pub no_bot_is_left_out : NoBotIsLeftOut port_transition
  no_bot_is_left_out settings n calls run h idle ongoing place free = by r.admits
    where
      r : Round port_transition h.0 h.2 run
      r = h.6

      inside : HasPlaces r.mid
      inside = before_admission h.0 run h.2 r (rounds_places settings n h.1 h.0 h.4)

      asked : (came : Bool) (asking : ℕ) → IsAt r.mid.slab asking Free → r.admission ≡ Accepts asking came ∷ [] →
          run ≡ (if came then accepted_at r.mid asking else r.mid) →
          (before : List (SystemCall P)) × (other : ℕ) × (calls ≡ before ++ Accepts other false ∷ [])
      asked true asking at e kept =
          let within = slice_get_within r.mid.slab.places asking Free at in
          absurd (woken_there r.mid.ready asking (omega (arith, within, inside))
          (subst (λ (s : ServiceView P). occurrences_of asking (queued_places s.ready) ≡ 0) kept (none_queued run asking idle)))
      asked false asking at e kept = (
        h.1 ++ (opening r.woken r.orders h.0 ++ r.visiting),
        asking,
        h.3 ∙ ap (λ (l : List (SystemCall P)). h.1 ++ l)
            (r.asked ∙ ap (λ (l : List (SystemCall P)). opening r.woken r.orders h.0 ++ r.visiting ++ l) e)
            ∙ sym (append_assoc h.1 (opening r.woken r.orders h.0 ++ r.visiting) (Accepts asking false ∷ [])),
      )

      by : Admits r.mid r.admission run →
          (before : List (SystemCall P)) × (other : ℕ) × (calls ≡ before ++ Accepts other false ∷ [])
      by (inl asks) = asked asks.came asks.place asks.free asks.asked asks.then_kept
      by (inr none) =
          ⊎_elim
          (λ (all : have_all_come r.mid.counters ≡ true).
          let come = ap (λ (s : ServiceView P). have_all_come s.counters) none.2 ∙ all in absurd (cc))
          (λ (full : IsNoneFree r.mid.slab.places).
          absurd (full place (subst (λ (s : ServiceView P). IsAt s.slab place Free) none.2 free)))
          none.0
