-- The sockets have room for each bot that the loop may accept.
use Rattle.std.proofs.Common.{◌≡◌, ◌≢◌, ◌≤◌, ◌<◌, ℕ, zero, suc, ◌+◌, Bool, true, false, List, [], ◌∷◌, ◌++◌, length, refl, sym, ap, ◌∙◌, subst, arith, inl, inr}
use Rattle.std.specs.Prelude.{◌||◌, ◌&&◌, not, ◌==◌, All, Option, Some, None, slice_get, slice_set, if◌then◌else◌}
use Rattle.std.proofs.lemmas.Bool.{eqb-true, eqb-false}
use Rattle.std.proofs.lemmas.List.{append-nil, append_assoc, length-append}
use Rattle.std.proofs.lemmas.List.Elements.{All-nil, All-cons, All-head, All-tail, All-same, All-append, All-push, All-weaker}
use Rattle.std.proofs.lemmas.Option.{slice_get_within}
use Rattle.daide_frame.proofs.ListLemmas.{eqb_same}
use Rattle.daide_protocol.specs.Wires.{is_closed}
use Rattle.daide_settings.specs.BotsInAll.{bots_in_all}
use Rattle.daide_settings.specs.declared.settings.Settings.{Settings}
use Rattle.daide_io.specs.Network.{NetworkCall}
use Rattle.daide_io.specs.Ports.{PortCall}
use Rattle.daide_io.specs.Streams.{StreamCall}
use Rattle.daide_io.specs.System.{SystemCall, Polls, Shows, Accepts, Connects, BeginsTurn, Rests, Retires, Notifies, TransitsBy, is_about}
use Rattle.daide_io.specs.declared.system.Connect.{Connect}
use Rattle.daide_io.specs.declared.system.Connect.TheVariants.{Ready, Failed, Pending}
use Rattle.daide_io.specs.declared.system.Notice.TheVariants.{TurnsSpent}
use Rattle.daide_driver.specs.declared.place.SlabPlace.{SlabPlace}
use Rattle.daide_driver.specs.declared.place.SlabPlace.TheVariants.{Free, Kept, Held}
use Rattle.daide_driver.specs.Slab.{SlabView, IsAt, is_at, is_kept, is_so, with_place, SlotView}
use Rattle.daide_event_loop.specs.declared.admission_counters.AdmissionCounters.{AdmissionCounters}
use Rattle.daide_event_loop.specs.Served.{accept_calls, comes, sum_over_calls}
use Rattle.daide_event_loop.specs.Serving.{ServiceView, LeavesVisit, TurnsAndLeaves, JoinsBy, VisitsBy, Visits, spent_notice, retirement, end_of}
use Rattle.daide_event_loop.specs.Serving.{Admits, accepted_at, opening, polled, closed, have_all_come, Round, Rounds, initial_service}
use Rattle.daide_event_loop.proofs.AcceptLemmas.{rounds_length, visits_places}
use Rattle.daide_event_loop.proofs.BeginningLemmas.{get_set}
use Rattle.daide_event_loop.proofs.CountLemmas.{counted_append, none_shown, counts_then, opening_counts, visits_counts}
use Rattle.daide_event_loop.proofs.OrderLemmas.{accepts_early, counted_early, visits_counters}
use Rattle.daide_event_loop.proofs.RestingLemmas.{visit_elsewhere, visit_there}
use Rattle.daide_event_loop.proofs.ServedLemmas.{ChangesOnlyAt, one_there, all_turns, all_rests, all_shown, rounds_serve}
use Rattle.daide_event_loop.proofs.WaitingLemmas.{IsElsewhere}
use Rattle.daide_sockets.specs.Pairing.{Arriving, Paired, RunSockets, StaysPendingIf, TakesOut, Transits, arrival_in, arrival_at, is_vacant_in, is_vacant}
use Rattle.daide_sockets.specs.Scheduling.{RunState, RunEvolves, HasRoomForBot, HoldsRows, sockets_in, pair_of}
use Rattle.daide_sockets.specs.declared.ports.SocketPorts.{SocketPorts}
use Rattle.daide_run_laws.specs.Room.{EachBotHasRoom}
use Rattle.daide_driver.specs.Meter.{has_spent_turns}
use Rattle.daide_run_laws.proofs.RestLemmas.{set_other}

-- ---- the connect of a place, by the calls of a run

module _ {P : Type 0} where
  -- whether the bot at a place waits for its connect after a call, if it did so before
  abbrev pending_after : ℕ → Bool → SystemCall P → Bool
  pending_after place was (Accepts other true) = (other == place) || was
  pending_after place was (Accepts other false) = was
  pending_after place was (Connects other (Ready ports)) = not (other == place) && was
  pending_after place was (Connects other Failed) = not (other == place) && was
  pending_after place was (Connects other Pending) = was
  pending_after place was (Polls may_block woken orders) = was
  pending_after place was (Shows ports status) = was
  pending_after place was (BeginsTurn other account before after) = was
  pending_after place was (Rests other ports rests) = was
  pending_after place was (Retires other ports end) = was
  pending_after place was (Notifies notice) = was

  abbrev pending_by : ℕ → Bool → List (SystemCall P) → Bool
  pending_by place was [] = was
  pending_by place was (call ∷ calls) = pending_by place (pending_after place was call) calls

  pending_then : (place : ℕ) (was : Bool) (xs ys : List (SystemCall P)) →
      pending_by place was (xs ++ ys) ≡ pending_by place (pending_by place was xs) ys
  pending_then place was [] ys = refl
  pending_then place was (x ∷ xs) ys = pending_then place (pending_after place was x) xs ys

  -- a call that changes nothing of it
  abbrev IsCalm : ℕ → SystemCall P → Type 0
  IsCalm place call = (was : Bool) → pending_after place was call ≡ was

  calm_by : (place : ℕ) (was : Bool) (calls : List (SystemCall P)) → All (IsCalm place) calls → pending_by place was calls ≡ was
  calm_by place was [] h = refl
  calm_by place was (call ∷ calls) h =
      calm_by place (pending_after place was call) calls (All-tail (IsCalm place) call calls h)
      ∙ All-head (IsCalm place) call calls h was

  elsewhere_calm : (place : ℕ) (call : SystemCall P) → is_about place call ≡ false → IsCalm place call
  elsewhere_calm place (Accepts other true) e = λ was. ap (λ (b : Bool). b || was) e
  elsewhere_calm place (Accepts other false) e = λ was. refl
  elsewhere_calm place (Connects other (Ready ports)) e = λ was. ap (λ (b : Bool). not b && was) e
  elsewhere_calm place (Connects other Failed) e = λ was. ap (λ (b : Bool). not b && was) e
  elsewhere_calm place (Connects other Pending) e = λ was. refl
  elsewhere_calm place (Polls may_block woken orders) e = λ was. refl
  elsewhere_calm place (Shows ports status) e = λ was. refl
  elsewhere_calm place (BeginsTurn other account before after) e = λ was. refl
  elsewhere_calm place (Rests other ports rests) e = λ was. refl
  elsewhere_calm place (Retires other ports end) e = λ was. refl
  elsewhere_calm place (Notifies notice) e = λ was. refl

-- ---- in the sockets

free_none : {S : Type 0} (at : Option (Option (Arriving S))) → is_vacant_in at ≡ true → arrival_in at ≡ None
free_none None e = absurd (cc)
free_none (Some None) e = refl
free_none (Some (Some arrival)) e = absurd (cc)

or_false : (a b : Bool) → (a || b) ≡ false → (a ≡ false) × (b ≡ false)
or_false false b e = (refl, e)
or_false true b e = absurd (cc)

module _ {P S : Type 0} (to_give taken : S → Option (List ℕ)) (calls : S → Option (List StreamCall))
    (pair : P → Paired S) where
  abbrev IsFreeUnless : Bool → ℕ → List (Option (Arriving S)) → Type 0
  IsFreeUnless pending place arrivals = pending ≡ false → is_vacant arrivals place ≡ true

  same_free : (pending : Bool) (place : ℕ) (old new : List (Option (Arriving S))) → new ≡ old →
      IsFreeUnless pending place old → IsFreeUnless pending place new
  same_free pending place old new e free =
      subst (λ (l : List (Option (Arriving S))). IsFreeUnless pending place l) (sym e) free

  -- another place is set
  beside_free : (place other : ℕ) (old : List (Option (Arriving S))) (one : Option (Arriving S)) (new : List (Option (Arriving S))) →
      other ≢ place → new ≡ slice_set old other one → is_vacant old place ≡ true → is_vacant new place ≡ true
  beside_free place other old one new apart e free =
      ap (λ (l : List (Option (Arriving S))). is_vacant l place) e
      ∙ ap (λ (at : Option (Option (Arriving S))). is_vacant_in at) (set_other old other place one apart) ∙ free

  taken_free : (was : Bool) (place other : ℕ) (arrival : Arriving S) (old new : List (Option (Arriving S))) →
      TakesOut old other arrival new → IsFreeUnless was place old → IsFreeUnless (not (other == place) && was) place new
  taken_free was place other arrival old new h free = by (other == place) refl
    where
      by : (same : Bool) → (other == place) ≡ same → IsFreeUnless (not same && was) place new
      by true e = λ none.
          subst (λ (n : ℕ). is_vacant new n ≡ true) (eqb-true other place e)
          (ap (λ (l : List (Option (Arriving S))). is_vacant l other) h.free
          ∙ ap (λ (at : Option (Option (Arriving S))). is_vacant_in at) (get_set old other None (Some arrival) h.there))
      by false e = λ none. beside_free place other old None new (eqb-false other place e) h.free (free none)

  stays_free : (was : Bool) (place other : ℕ) (at : Option (Arriving S)) (old new : List (Option (Arriving S))) →
      arrival_at old other ≡ at → StaysPendingIf at old other new → IsFreeUnless was place old → IsFreeUnless was place new
  stays_free was place other None old new e h free = same_free was place old new h free
  stays_free was place other (Some arrival) old new e h free = by (other == place) refl
    where
      by : (same : Bool) → (other == place) ≡ same → IsFreeUnless was place new
      by true s = λ none.
          (let here : arrival_at old other ≡ None =
          free_none (slice_get old other) (subst (λ (n : ℕ). is_vacant old n ≡ true) (sym (eqb-true other place s)) (free none)) in
          absurd (cc))
      by false s = λ none. beside_free place other old (Some h.0) new (eqb-false other place s) h.2 (free none)

  free_then : (was : Bool) (place : ℕ) (call : SystemCall P) (old new : RunSockets S) → Transits to_give taken calls pair old call new →
      IsFreeUnless was place old.arrivals → IsFreeUnless (pending_after place was call) place new.arrivals
  free_then was place (Polls may_block woken orders) old new h free = same_free was place old.arrivals new.arrivals h.1 free
  free_then was place (Shows ports status) old new h free =
      same_free was place old.arrivals new.arrivals (ap (λ (s : RunSockets S). s.arrivals) h) free
  free_then was place (Accepts other true) old new h free = λ none.
      (let both = or_false (other == place) was none in
      beside_free place other old.arrivals (Some h.arrival) new.arrivals (eqb-false other place both.0) h.arrivals (free both.1))
  free_then was place (Accepts other false) old new h free =
      same_free was place old.arrivals new.arrivals (ap (λ (s : RunSockets S). s.arrivals) h) free
  free_then was place (Connects other (Ready ports)) old new h free = taken_free was place other h.0 old.arrivals new.arrivals h.1 free
  free_then was place (Connects other Failed) old new h free = taken_free was place other h.0 old.arrivals new.arrivals h.1 free
  free_then was place (Connects other Pending) old new h free =
      stays_free was place other (arrival_at old.arrivals other) old.arrivals new.arrivals refl h.0 free
  free_then was place (BeginsTurn other account before after) old new h free =
      same_free was place old.arrivals new.arrivals (ap (λ (s : RunSockets S). s.arrivals) h) free
  free_then was place (Rests other ports rests) old new h free =
      same_free was place old.arrivals new.arrivals (ap (λ (s : RunSockets S). s.arrivals) h) free
  free_then was place (Retires other ports end) old new h free = same_free was place old.arrivals new.arrivals h.2 free
  free_then was place (Notifies notice) old new h free =
      same_free was place old.arrivals new.arrivals (ap (λ (s : RunSockets S). s.arrivals) h) free

  free_by : (was : Bool) (place : ℕ) (trace : List (SystemCall P)) (old new : RunSockets S) →
      TransitsBy (Transits to_give taken calls pair) old trace new → IsFreeUnless was place old.arrivals →
      IsFreeUnless (pending_by place was trace) place new.arrivals
  free_by was place [] old new h free = same_free was place old.arrivals new.arrivals (ap (λ (s : RunSockets S). s.arrivals) h) free
  free_by was place (call ∷ trace) old new h free =
      free_by (pending_after place was call) place trace h.0 new h.2 (free_then was place call old h.0 h.1 free)

  -- the sockets count a bot as the loop does
  abbrev count : RunSockets S → ℕ
  count sockets = sockets.came

  one_came : (call : SystemCall P) (old new : RunSockets S) → Transits to_give taken calls pair old call new →
      new.came ≡ comes call + old.came
  one_came (Polls may_block woken orders) old new h = let same : new.came ≡ old.came = h.0 in omega (arith, same)
  one_came (Shows ports status) old new h = let same : new.came ≡ old.came = ap count h in omega (arith, same)
  one_came (Accepts place true) old new h = let more = h.came in omega (arith, more)
  one_came (Accepts place false) old new h = let same : new.came ≡ old.came = ap count h in omega (arith, same)
  one_came (Connects place (Ready ports)) old new h = let same : new.came ≡ old.came = h.3 in omega (arith, same)
  one_came (Connects place Failed) old new h = let same : new.came ≡ old.came = h.3 in omega (arith, same)
  one_came (Connects place Pending) old new h = let same : new.came ≡ old.came = h.1 in omega (arith, same)
  one_came (BeginsTurn place account before after) old new h = let same : new.came ≡ old.came = ap count h in omega (arith, same)
  one_came (Rests place ports rests) old new h = let same : new.came ≡ old.came = ap count h in omega (arith, same)
  one_came (Retires place ports end) old new h = let same : new.came ≡ old.came = h.1 in omega (arith, same)
  one_came (Notifies notice) old new h = let same : new.came ≡ old.came = ap count h in omega (arith, same)

  all_came : (trace : List (SystemCall P)) (old new : RunSockets S) →
      TransitsBy (Transits to_give taken calls pair) old trace new → new.came ≡ sum_over_calls comes trace + old.came
  all_came [] old new h = let same : new.came ≡ old.came = ap count h in omega (arith, same)
  all_came (call ∷ trace) old new h =
      let first = one_came call old h.0 h.1 in
      let rest = all_came trace h.0 new h.2 in
      omega (arith, first, rest)

-- ---- in the loop

module _ {P : Type 0} (port_transition : P → PortCall → P → Type 0) where
  -- no connect is pending at a place that is not kept
  abbrev IsSettled : List (SystemCall P) → SlabView P → Type 0
  IsSettled calls slab = (place : ℕ) → is_at is_kept slab.places place ≡ false → pending_by place false calls ≡ false

  leave_calm : (q : ℕ) (closed : Bool) (now : SlotView P) (old : ServiceView P) (place : ℕ)
      (trace : List (SystemCall P)) (new : ServiceView P) → LeavesVisit closed now old place trace new → All (IsCalm q) trace
  leave_calm q true now old place trace new h =
      All-same (IsCalm q) trace (retirement place now.ports now.meter (end_of now)) h.0
      (All-push (IsCalm q) (spent_notice (has_spent_turns now.meter)) (Retires place now.ports (end_of now))
      (spoken (has_spent_turns now.meter)) (λ was. refl))
    where
      spoken : (b : Bool) → All (IsCalm {P = P} q) (spent_notice b)
      spoken true = All-cons (IsCalm q) (Notifies TurnsSpent) [] (λ was. refl) (All-nil (IsCalm q))
      spoken false = All-nil (IsCalm q)
  leave_calm q false now old place trace new h =
      all_rests port_transition (IsCalm q) place (λ ports rests was. refl) now.meter.moved.made_progress now.ports trace h.0 h.1

  given_calm : (q : ℕ) (old : ServiceView P) (place turns : ℕ) (trace : List (SystemCall P)) (new : ServiceView P) →
      TurnsAndLeaves port_transition old place turns trace new → All (IsCalm q) trace
  given_calm q old place turns trace new h =
      All-same (IsCalm q) trace (h.turning ++ h.leaving) h.asked
      (All-append (IsCalm q) h.turning h.leaving
      (all_turns port_transition (IsCalm q) place (λ account before after was. refl) turns old.slab h.turning h.turned h.takes.made)
      (leave_calm q (is_closed h.now.session) h.now (record old { slab = h.turned }) place h.leaving new h.leaves))

  -- calls at one place, after which it is settled
  settled_at : (calls trace : List (SystemCall P)) (place : ℕ) (old new : SlabView P) →
      ChangesOnlyAt place old new → ((q : ℕ) → place ≢ q → All (IsElsewhere q) trace) →
      (is_at is_kept new.places place ≡ false → pending_by place (pending_by place false calls) trace ≡ false) →
      IsSettled calls old → IsSettled (calls ++ trace) new
  settled_at calls trace place old new only elsewhere own settled = λ q none. by q none (place == q) refl
    where
      by : (q : ℕ) → is_at is_kept new.places q ≡ false → (same : Bool) → (place == q) ≡ same →
          pending_by q false (calls ++ trace) ≡ false
      by q none true e =
          subst (λ (n : ℕ). pending_by n false (calls ++ trace) ≡ false) (eqb-true place q e)
          (pending_then place false calls trace
          ∙ own (subst (λ (n : ℕ). is_at is_kept new.places n ≡ false) (sym (eqb-true place q e)) none))
      by q none false e =
          let apart = eqb-false place q e in
          pending_then q false calls trace ∙ calm_by q (pending_by q false calls) trace
          (All-weaker (IsElsewhere q) (IsCalm q) (elsewhere_calm q) trace (elsewhere q apart))
          ∙ settled q (ap (λ (at : Option (SlabPlace (SlotView P))). is_so is_kept at)
          (sym (only.beside q (λ same. apart (sym same)))) ∙ none)

  visit_settled : (at : Option (SlabPlace (SlotView P))) (calls : List (SystemCall P)) (old : ServiceView P)
      (place turns : ℕ) (trace : List (SystemCall P)) (new : ServiceView P) → slice_get old.slab.places place ≡ at →
      VisitsBy port_transition at old place turns trace new → IsSettled calls old.slab → IsSettled (calls ++ trace) new.slab
  visit_settled at calls old place turns trace new there h settled =
      settled_at calls trace place old.slab new.slab (visit_there port_transition at old place turns trace new h)
      (λ q apart. visit_elsewhere port_transition place q apart at old turns trace new h) (own at there h) settled
    where
      before : is_at is_kept old.slab.places place ≡ false → All (IsCalm place) trace →
          pending_by place (pending_by place false calls) trace ≡ false
      before none calm = calm_by place (pending_by place false calls) trace calm ∙ settled place none

      kept : (here : Option (SlabPlace (SlotView P))) → slice_get old.slab.places place ≡ here →
          is_so is_kept here ≡ false → is_at is_kept old.slab.places place ≡ false
      kept here e none = ap (λ (o : Option (SlabPlace (SlotView P))). is_so is_kept o) e ∙ none

      met : (connect : Connect P) (joining : List (SystemCall P)) → slice_get old.slab.places place ≡ Some Kept →
          trace ≡ Connects place connect ∷ joining → JoinsBy port_transition connect old place turns joining new →
          is_at is_kept new.slab.places place ≡ false → pending_by place (pending_by place false calls) trace ≡ false
      met (Ready ports) joining e asked m none =
          ap (λ (l : List (SystemCall P)). pending_by place (pending_by place false calls) l) asked
          ∙ ap (λ (b : Bool). pending_by place (not b && pending_by place false calls) joining) (eqb_same place)
          ∙ calm_by place false joining (given_calm place (record old { slab = m.0 }) place turns joining new m.2)
      met Failed joining e asked m none =
          ap (λ (l : List (SystemCall P)). pending_by place (pending_by place false calls) l) asked
          ∙ ap (λ (b : Bool). pending_by place (not b && pending_by place false calls) joining) (eqb_same place)
          ∙ ap (λ (l : List (SystemCall P)). pending_by place false l) m.1
      met Pending joining e asked m none =
          let still : is_at is_kept new.slab.places place ≡ true =
          ap (λ (s : ServiceView P). is_at is_kept s.slab.places place) m.2
          ∙ ap (λ (o : Option (SlabPlace (SlotView P))). is_so is_kept o) e in
          absurd (cc)

      own : (here : Option (SlabPlace (SlotView P))) → slice_get old.slab.places place ≡ here →
          VisitsBy port_transition here old place turns trace new →
          is_at is_kept new.slab.places place ≡ false → pending_by place (pending_by place false calls) trace ≡ false
      own None e v none = before (kept None e refl) (All-same (IsCalm place) trace [] v.1 (All-nil (IsCalm place)))
      own (Some Free) e v none = before (kept (Some Free) e refl) (All-same (IsCalm place) trace [] v.1 (All-nil (IsCalm place)))
      own (Some Kept) e v none = met v.0 v.1 e v.2 v.3 none
      own (Some (Held now)) e v none =
          before (kept (Some (Held now)) e refl) (given_calm place old place turns trace new v)

  visits_settled : (calls : List (SystemCall P)) (visited : List ℕ) (turns : ℕ) (old : ServiceView P) (trace : List (SystemCall P))
      (new : ServiceView P) → Visits port_transition visited turns old trace new → IsSettled calls old.slab →
      IsSettled (calls ++ trace) new.slab
  visits_settled calls [] turns old trace new h settled =
      subst (λ (l : List (SystemCall P)). IsSettled (calls ++ l) new.slab) (sym h.1)
      (subst (λ (s : ServiceView P). IsSettled (calls ++ []) s.slab) (sym h.2)
      (subst (λ (l : List (SystemCall P)). IsSettled l old.slab) (sym (append-nil calls)) settled))
  visits_settled calls (place ∷ earlier) turns old trace new h settled =
      subst (λ (l : List (SystemCall P)). IsSettled l new.slab)
      (append_assoc calls h.3 h.4 ∙ ap (λ (l : List (SystemCall P)). calls ++ l) (sym h.6))
      (visit_settled (slice_get h.0.slab.places place) (calls ++ h.3) (record h.0 { ready = h.8.ready }) place h.2 h.4 new refl h.8.visits
      (visits_settled calls earlier h.1 old h.3 h.0 h.7 settled))

  -- when a round accepts a bot
  mid_settled : (calls trace : List (SystemCall P)) (old new : ServiceView P) (r : Round port_transition old trace new) →
      IsSettled calls old.slab → IsSettled (calls ++ (opening r.woken r.orders old ++ r.visiting)) r.mid.slab
  mid_settled calls trace old new r settled =
      let opens = opening r.woken r.orders old in
      let begun : IsSettled (calls ++ opens) old.slab =
      λ place none.
      pending_then place false calls opens
      ∙ calm_by place (pending_by place false calls) opens
      (All-cons (IsCalm place) (Polls _ r.woken r.orders) _ (λ was. refl)
      (all_shown port_transition (IsCalm place) r.orders.shows_sessions old.slab.places (λ ports status was. refl)))
      ∙ settled place none in
      subst (λ (l : List (SystemCall P)). IsSettled l r.mid.slab) (append_assoc calls opens r.visiting)
      (visits_settled (calls ++ opens) r.visits.visited r.visits.turns (polled r.woken r.orders old) r.visiting r.mid r.visits.takes begun)

  admits_settled : (calls : List (SystemCall P)) (old : ServiceView P) (trace : List (SystemCall P)) (new : ServiceView P) →
      Admits old trace new → IsSettled calls old.slab → IsSettled (calls ++ trace) new.slab
  admits_settled calls old trace new (inr none) settled =
      subst (λ (l : List (SystemCall P)). IsSettled (calls ++ l) new.slab) (sym none.1)
      (subst (λ (s : ServiceView P). IsSettled (calls ++ []) s.slab) (sym none.2)
      (subst (λ (l : List (SystemCall P)). IsSettled l old.slab) (sym (append-nil calls)) settled))
  admits_settled calls old trace new (inl asks) settled =
      subst (λ (l : List (SystemCall P)). IsSettled (calls ++ l) new.slab) (sym asks.asked)
      (subst (λ (s : ServiceView P). IsSettled (calls ++ Accepts asks.place asks.came ∷ []) s.slab) (sym asks.then_kept) (by asks.came))
    where
      by : (came : Bool) →
          IsSettled (calls ++ Accepts asks.place came ∷ []) (if came then accepted_at old asks.place else old).slab
      by true =
          settled_at calls (Accepts asks.place true ∷ []) asks.place old.slab (with_place old.slab asks.place Kept)
          (one_there asks.place old.slab (with_place old.slab asks.place Kept) Kept refl)
          (λ q apart. All-cons (IsElsewhere q) (Accepts asks.place true) [] (differ asks.place q apart) (All-nil (IsElsewhere q)))
          (λ none.
          (let own : is_at is_kept (slice_set old.slab.places asks.place Kept) asks.place ≡ true =
          ap (λ (o : Option (SlabPlace (SlotView P))). is_so is_kept o)
          (get_set old.slab.places asks.place Kept Free asks.free) in
          absurd (cc))) settled
        where
          differ : (one place : ℕ) → one ≢ place → (one == place) ≡ false
          differ one place apart = test (one == place) refl
            where
              test : (b : Bool) → (one == place) ≡ b → (one == place) ≡ false
              test true e = absurd (apart (eqb-true one place e))
              test false e = e
      by false = λ q none. pending_then q false calls (Accepts asks.place false ∷ []) ∙ settled q none

  rounds_settled : (settings : Settings) (n : ℕ) (calls : List (SystemCall P)) (run : ServiceView P) →
      Rounds port_transition n (initial_service settings) calls run → IsSettled calls run.slab
  rounds_settled settings zero calls run h = λ place none. ap (λ (l : List (SystemCall P)). pending_by place false l) h.0
  rounds_settled settings (suc n) calls run h =
      subst (λ (l : List (SystemCall P)). IsSettled l run.slab)
      (append_assoc h.1 (opening h.6.woken h.6.orders h.0 ++ h.6.visiting) h.6.admission
      ∙ ap (λ (l : List (SystemCall P)). h.1 ++ l) (sym h.6.asked) ∙ sym h.3)
      (admits_settled (h.1 ++ (opening h.6.woken h.6.orders h.0 ++ h.6.visiting)) h.6.mid h.6.admission run h.6.admits
      (mid_settled h.1 h.2 h.0 run h.6 (rounds_settled settings n h.1 h.0 h.4)))

  -- ---- the accept of a round

  last_same : (xs ys : List (SystemCall P)) (x y : SystemCall P) → xs ++ x ∷ [] ≡ ys ++ y ∷ [] → (xs ≡ ys) × (x ≡ y)
  last_same [] [] x y e = (refl, cc)
  last_same [] (b ∷ ys) x y e =
      let same = ap length e in let long = length-append ys (y ∷ []) in absurd (omega (arith, same, long))
  last_same (a ∷ xs) [] x y e =
      let same = ap length e in let long = length-append xs (x ∷ []) in absurd (omega (arith, same, long))
  last_same (a ∷ xs) (b ∷ ys) x y e =
      let first : a ≡ b = cc in
      let after : xs ++ x ∷ [] ≡ ys ++ y ∷ [] = cc in
      let rest = last_same xs ys x y after in
      (ap (λ (c : SystemCall P). c ∷ xs) first ∙ ap (λ (l : List (SystemCall P)). b ∷ l) rest.0, rest.1)

  abbrev place_of : ℕ → SystemCall P → ℕ
  place_of other (Accepts place came) = place
  place_of other _ = other

  -- a round that ends with an accept asked for a bot, after its visits
  accept_is : (early : List (SystemCall P)) (place : ℕ) (came : Bool) (run next : ServiceView P)
      (r : Round port_transition run (early ++ Accepts place came ∷ []) next) →
      (have_all_come r.mid.counters ≡ false) × IsAt r.mid.slab place Free × (early ≡ opening r.woken r.orders run ++ r.visiting)
  accept_is early place came run next r = by r.admits
    where
      before : List (SystemCall P)
      before = opening r.woken r.orders run ++ r.visiting

      by : Admits r.mid r.admission next →
          (have_all_come r.mid.counters ≡ false) × IsAt r.mid.slab place Free × (early ≡ before)
      by (inl asks) =
          let same = last_same early before (Accepts place came) (Accepts asks.place asks.came)
          (r.asked ∙ ap (λ (l : List (SystemCall P)). before ++ l) asks.asked) in
          let there : place ≡ asks.place = ap (place_of 0) same.1 in
          (asks.due, subst (λ (n : ℕ). IsAt r.mid.slab n Free) (sym there) asks.free, same.0)
      by (inr none) =
          let all = counted_early accept_calls accepts_early port_transition (early ++ Accepts place came ∷ []) run next r in
          let shown = none_shown accept_calls r.orders.shows_sessions run.slab.places (λ ports status. refl) in
          let admitted = ap (sum_over_calls accept_calls) none.1 in
          let last = counted_append accept_calls early (Accepts place came ∷ []) in
          absurd (omega (arith, all, shown, admitted, last))

heeded_within : (stops : Bool) (counters : AdmissionCounters) (all : ℕ) → counters.accepted ≤ counters.sessions →
    counters.sessions ≤ all →
    ((if stops then closed counters else counters).accepted ≤ (if stops then closed counters else counters).sessions)
    × ((if stops then closed counters else counters).sessions ≤ all)
heeded_within true counters all accepted sessions = (omega arith, omega (arith, accepted, sessions))
heeded_within false counters all accepted sessions = (accepted, sessions)

-- ---- the law

module _ {P S N : Type 0} (port_transition : P → PortCall → P → Type 0) (transition : N → NetworkCall S → N → Type 0)
    (to_give taken : S → Option (List ℕ)) (calls : S → Option (List StreamCall)) (ports_in : P → SocketPorts S) where
  abbrev Step : RunState N S → SystemCall P → RunState N S → Type 0
  Step = RunEvolves transition to_give taken calls ports_in

  abbrev pair : P → Paired S
  pair ports = pair_of (ports_in ports)

  evolved : (trace : List (SystemCall P)) (old new : RunState N S) → HoldsRows old → TransitsBy Step old trace new →
      HoldsRows new × TransitsBy (Transits to_give taken calls pair) (sockets_in old) trace (sockets_in new)
      × (length new.table.deadlines ≡ length old.table.deadlines)
  evolved [] old new holds h = (
    subst (λ (s : RunState N S). HoldsRows s) (sym h) holds,
    ap (λ (s : RunState N S). sockets_in s) h,
    ap (λ (s : RunState N S). length s.table.deadlines) h,
  )
  evolved (call ∷ trace) old new holds h =
      let one = h.1 holds in
      let rest = evolved trace h.0 new one.0 h.2 in
      (rest.0, (sockets_in h.0, one.1, rest.1), rest.2 ∙ one.2.0.places)

  pub each_bot_has_room : EachBotHasRoom port_transition transition to_give taken calls ports_in
  each_bot_has_room = λ settings n before early run next first old new place came all_few none holds places free rounds round trace
      accept.
      let asks = accept_is port_transition early place came run next round in
      let opens = opening round.woken round.orders run in
      let sockets = evolved (before ++ early) first old holds trace in
      -- the place
      let settled : pending_by place false (before ++ early) ≡ false =
      ap (λ (l : List (SystemCall P)). pending_by place false (before ++ l)) asks.2
      ∙ mid_settled port_transition before (early ++ Accepts place came ∷ []) run next round
      (rounds_settled port_transition settings n before run rounds) place
      (ap (λ (o : Option (SlabPlace (SlotView P))). is_so is_kept o) asks.1) in
      let within = slice_get_within round.mid.slab.places place Free asks.1 in
      let kept = visits_places port_transition round.visits.visited round.visits.turns (polled round.woken round.orders run)
      round.visiting round.mid round.visits.takes in
      let length_kept = kept.1 in
      let all_places = rounds_length port_transition settings n before run rounds in
      let inside : place < settings.max_sessions = omega (arith, within, length_kept, all_places) in
      let same_length = sockets.2 in
      -- the number
      let served = rounds_serve port_transition settings n before run rounds in
      let counts = counts_then (before ++ (opens ++ round.visiting)) before (opens ++ round.visiting)
      (initial_service {P = P} settings) run round.mid refl served.counts
      (counts_then (opens ++ round.visiting) opens round.visiting run (polled round.woken round.orders run) round.mid refl
      (opening_counts round.woken round.orders run)
      (visits_counts port_transition round.visits.visited round.visits.turns (polled round.woken round.orders run) round.visiting
      round.mid round.visits.takes)) in
      let counted = counts.came in
      let same_trace = ap (λ (l : List (SystemCall P)). sum_over_calls comes (before ++ l)) asks.2 in
      let sum = all_came to_give taken calls pair (before ++ early) (sockets_in first) (sockets_in old) sockets.1 in
      let same = visits_counters port_transition round.visits.visited round.visits.turns (polled round.woken round.orders run)
      round.visiting round.mid round.visits.takes in
      let limits = subst (λ (c : AdmissionCounters). (c.accepted ≤ c.sessions) × (c.sessions ≤ bots_in_all settings)) (sym same)
      (heeded_within round.orders.stops_accepting run.counters (bots_in_all settings) served.limit.accepted served.limit.at_most) in
      let accepted = limits.0 in
      let sessions = limits.1 in
      let more = eqb-false round.mid.counters.accepted round.mid.counters.sessions asks.0 in
      let few : old.acceptor.came < 4294967295 =
      omega (arith, sum, none, same_trace, counted, accepted, sessions, more, all_few) in
      let room : HasRoomForBot old place = (
        omega (arith, inside, same_length, places),
        free_by to_give taken calls pair false place (before ++ early) (sockets_in first) (sockets_in old) sockets.1
            (λ e. free place inside) settled,
        few,
      ) in
      (room, (accept sockets.0).3.1.made room)
