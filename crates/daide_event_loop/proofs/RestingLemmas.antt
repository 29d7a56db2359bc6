-- Each place of a run that is used and not in its queue is at rest: it stays so in each step, or joins the queue.
use Rattle.std.proofs.Common.{◌≡◌, ◌≢◌, ℕ, zero, suc, ◌+◌, ◌<◌, Bool, true, false, List, [], ◌∷◌, ◌++◌, Option, Some, None, length, inl, inr, ⊎_elim}
use Rattle.std.proofs.Common.{refl, sym, ap, ◌∙◌, subst, arith}
use Rattle.std.specs.Prelude.{◌==◌, All, Contains, IfSome, if◌then◌else◌, slice_get}
use Rattle.std.proofs.lemmas.Bool.{eqb-true, eqb-false}
use Rattle.std.proofs.lemmas.List.{append_assoc}
use Rattle.std.proofs.lemmas.List.Elements.{All-nil, All-cons, All-same, All-append, All-push, Contains-append_left, Contains-append_right}
use Rattle.std.proofs.lemmas.Option.{slice_get_within}
use Rattle.daide_frame.proofs.ListLemmas.{eqb_same}
use Rattle.daide_protocol.specs.Wires.{is_closed}
use Rattle.daide_settings.specs.declared.settings.Settings.{Settings}
use Rattle.daide_io.specs.Ports.{PortCall}
use Rattle.daide_io.specs.ReadyQueue.{ReadyView, woken_all, put_back}
use Rattle.daide_io.specs.System.{SystemCall, Polls, Accepts, Connects, Rests, Retires, Notifies, is_about, last_about}
use Rattle.daide_io.specs.declared.system.Orders.{Orders}
use Rattle.daide_io.specs.declared.system.Connect.{Connect}
use Rattle.daide_io.specs.declared.system.Connect.TheVariants.{Ready, Failed, Pending}
use Rattle.daide_io.specs.declared.system.Notice.TheVariants.{TurnsSpent}
use Rattle.daide_driver.specs.Meter.{has_spent_turns}
use Rattle.daide_driver.specs.declared.place.SlabPlace.{SlabPlace}
use Rattle.daide_driver.specs.declared.place.SlabPlace.TheVariants.{Free, Kept, Held}
use Rattle.daide_driver.specs.Slab.{SlabView, IsAt, IfHeldAt, all_free, SlotView, new_slot, IsSlotTurned}
use Rattle.daide_event_loop.specs.declared.admission_counters.AdmissionCounters.{AdmissionCounters}
use Rattle.daide_event_loop.specs.Serving.{ServiceView, OpensTurn, TurnsInRow, RestsBy, LeavesVisit, TurnsAndLeaves, JoinsBy, VisitsBy, Visits, queued_again}
use Rattle.daide_event_loop.specs.Serving.{spent_notice, retirement, end_of, Admits, accepted_at, opening, polled, has_room, Round, Rounds, initial_service}
use Rattle.daide_event_loop.specs.Served.{run_limits}
use Rattle.daide_event_loop.specs.Waiting.{IsIdleSession, IsAtRest, RestingSessionsAreIdle}
use Rattle.daide_event_loop.proofs.BeginningLemmas.{get_set, changed_there}
use Rattle.daide_event_loop.proofs.OrderLemmas.{visits_counters}
use Rattle.daide_event_loop.proofs.FairnessLemmas.{visited_queue}
use Rattle.daide_event_loop.proofs.ServedLemmas.{ChangesOnlyAt, same_there, one_there, there_then, held_here, turns_there_only, all_turns, all_rests, all_shown}
use Rattle.daide_event_loop.proofs.ServedLemmas.{Reached, AllServed, still, opened_reached, visits_serve, later, heeded_turns, rounds_serve}
use Rattle.daide_event_loop.specs.Served.{IsServedSession}
use Rattle.daide_event_loop.proofs.WaitingLemmas.{idle_turn, last_then, IsElsewhere, last_elsewhere, IsAbsent, absent_is}
use Rattle.daide_event_loop.proofs.WaitingLemmas.{woken_absent, woken_there, woken_all_absent, put_back_absent, put_back_there, taken_absent}
use Rattle.daide_event_loop.proofs.AcceptLemmas.{HasPlaces, visits_places, taken_places, woken_all_places, before_admission, rounds_places}

-- ---- calls about other places

apart_test : (one place : ℕ) → one ≢ place → (one == place) ≡ false
apart_test one place apart = by (one == place) refl
  where
    by : (b : Bool) → (one == place) ≡ b → (one == place) ≡ false
    by true e = absurd (apart (eqb-true one place e))
    by false e = e

module _ {P : Type 0} (port_transition : P → PortCall → P → Type 0) (other place : ℕ) (apart : other ≢ place) where
  leave_elsewhere : (closed : Bool) (now : SlotView P) (old : ServiceView P) (trace : List (SystemCall P))
      (new : ServiceView P) → LeavesVisit closed now old other trace new → All (IsElsewhere place) trace
  leave_elsewhere true now old trace new h =
      All-same (IsElsewhere place) trace (retirement other now.ports now.meter (end_of now)) h.0
      (All-push (IsElsewhere place) (spent_notice (has_spent_turns now.meter)) (Retires other now.ports (end_of now))
      (spoken (has_spent_turns now.meter)) (apart_test other place apart))
    where
      spoken : (b : Bool) → All (IsElsewhere {P = P} place) (spent_notice b)
      spoken true = All-cons (IsElsewhere place) (Notifies TurnsSpent) [] refl (All-nil (IsElsewhere place))
      spoken false = All-nil (IsElsewhere place)
  leave_elsewhere false now old trace new h =
      all_rests port_transition (IsElsewhere place) other (λ ports rests. apart_test other place apart) now.meter.moved.made_progress
      now.ports trace h.0 h.1

  given_elsewhere : (old : ServiceView P) (turns : ℕ) (trace : List (SystemCall P)) (new : ServiceView P) →
      TurnsAndLeaves port_transition old other turns trace new → All (IsElsewhere place) trace
  given_elsewhere old turns trace new h =
      All-same (IsElsewhere place) trace (h.turning ++ h.leaving) h.asked
      (All-append (IsElsewhere place) h.turning h.leaving
      (all_turns port_transition (IsElsewhere place) other (λ account before after. apart_test other place apart) turns old.slab h.turning
      h.turned h.takes.made)
      (leave_elsewhere (is_closed h.now.session) h.now (record old { slab = h.turned }) h.leaving new h.leaves))

  pub visit_elsewhere : (at : Option (SlabPlace (SlotView P))) (old : ServiceView P) (turns : ℕ)
      (trace : List (SystemCall P)) (new : ServiceView P) → VisitsBy port_transition at old other turns trace new →
      All (IsElsewhere place) trace
  visit_elsewhere None old turns trace new h = All-same (IsElsewhere place) trace [] h.1 (All-nil (IsElsewhere place))
  visit_elsewhere (Some Free) old turns trace new h = All-same (IsElsewhere place) trace [] h.1 (All-nil (IsElsewhere place))
  visit_elsewhere (Some Kept) old turns trace new h =
      All-same (IsElsewhere place) trace (Connects other h.0 ∷ h.1) h.2
      (All-cons (IsElsewhere place) (Connects other h.0) h.1 (apart_test other place apart) (by h.0 h.1 h.3))
    where
      by : (connect : Connect P) (joining : List (SystemCall P)) → JoinsBy port_transition connect old other turns joining new →
          All (IsElsewhere place) joining
      by (Ready ports) joining m = given_elsewhere (record old { slab = m.0 }) turns joining new m.2
      by Failed joining m =
          All-same (IsElsewhere place) joining [] m.1 (All-nil (IsElsewhere place))
      by Pending joining m = All-same (IsElsewhere place) joining [] m.1 (All-nil (IsElsewhere place))
  visit_elsewhere (Some (Held now)) old turns trace new h = given_elsewhere old turns trace new h

-- ---- the only place that a visit changes

module _ {P : Type 0} (port_transition : P → PortCall → P → Type 0) where
  leave_there : (closed : Bool) (now : SlotView P) (old : ServiceView P) (place : ℕ)
      (trace : List (SystemCall P)) (new : ServiceView P) → LeavesVisit closed now old place trace new →
      ChangesOnlyAt place old.slab new.slab
  leave_there true now old place trace new h = one_there place old.slab new.slab Free (ap (λ (s : ServiceView P). s.slab) h.1)
  leave_there false now old place trace new h = same_there place old.slab new.slab (ap (λ (s : ServiceView P). s.slab) h.2 ∙ by h.0)
    where
      by : (rests : Bool) → (if rests then old else queued_again old place).slab ≡ old.slab
      by true = refl
      by false = refl

  given_there : (old : ServiceView P) (place turns : ℕ) (trace : List (SystemCall P)) (new : ServiceView P) →
      TurnsAndLeaves port_transition old place turns trace new → ChangesOnlyAt place old.slab new.slab
  given_there old place turns trace new h =
      there_then place old.slab h.turned new.slab
      (turns_there_only port_transition turns old.slab place h.turning h.turned h.takes.made)
      (leave_there (is_closed h.now.session) h.now (record old { slab = h.turned }) place h.leaving new h.leaves)

  pub visit_there : (at : Option (SlabPlace (SlotView P))) (old : ServiceView P) (place turns : ℕ)
      (trace : List (SystemCall P)) (new : ServiceView P) → VisitsBy port_transition at old place turns trace new →
      ChangesOnlyAt place old.slab new.slab
  visit_there None old place turns trace new h = same_there place old.slab new.slab (ap (λ (s : ServiceView P). s.slab) h.2)
  visit_there (Some Free) old place turns trace new h = same_there place old.slab new.slab (ap (λ (s : ServiceView P). s.slab) h.2)
  visit_there (Some Kept) old place turns trace new h = by h.0 h.1 h.3
    where
      by : (connect : Connect P) (joining : List (SystemCall P)) → JoinsBy port_transition connect old place turns joining new →
          ChangesOnlyAt place old.slab new.slab
      by (Ready ports) joining m =
          there_then place old.slab m.0 new.slab
          (one_there place old.slab m.0 (Held (new_slot m.1.0 ports old.counters.turns)) m.1.2)
          (given_there (record old { slab = m.0 }) place turns joining new m.2)
      by Failed joining m = one_there place old.slab new.slab Free (ap (λ (s : ServiceView P). s.slab) m.2)
      by Pending joining m = same_there place old.slab new.slab (ap (λ (s : ServiceView P). s.slab) m.2)
  visit_there (Some (Held now)) old place turns trace new h = given_there old place turns trace new h

-- ---- rest

module _ {P : Type 0} (port_transition : P → PortCall → P → Type 0) where
  abbrev RestsAt : List (SystemCall P) → ℕ → ServiceView P → Type 0
  RestsAt calls place run = IfSome (slice_get run.slab.places place) (IsAtRest port_transition calls place)

  -- each place that is not in the queue
  abbrev AllRest : List (SystemCall P) → ServiceView P → Type 0
  AllRest calls run = (place : ℕ) → IsAbsent run.ready place → RestsAt calls place run

  -- by calls about other places
  longer : (calls ys : List (SystemCall P)) (place : ℕ) → All (IsElsewhere place) ys →
      (at : SlabPlace (SlotView P)) → IsAtRest port_transition calls place at →
      IsAtRest port_transition (calls ++ ys) place at
  longer calls ys place h Free r = tt
  longer calls ys place h Kept r = last_then place None calls ys ∙ last_elsewhere place (last_about place None calls) ys h ∙ r
  longer calls ys place h (Held now) r =
      (r.0, last_then place None calls ys ∙ last_elsewhere place (last_about place None calls) ys h ∙ r.1)

  still_rests : (calls ys : List (SystemCall P)) (place : ℕ) (old new : ServiceView P) → All (IsElsewhere place) ys →
      slice_get new.slab.places place ≡ slice_get old.slab.places place → RestsAt calls place old → RestsAt (calls ++ ys) place new
  still_rests calls ys place old new h same r =
      subst (λ (o : Option (SlabPlace (SlotView P))). IfSome o (IsAtRest port_transition (calls ++ ys) place)) (sym same)
      (by (slice_get old.slab.places place) r)
    where
      by : (o : Option (SlabPlace (SlotView P))) → IfSome o (IsAtRest port_transition calls place) →
          IfSome o (IsAtRest port_transition (calls ++ ys) place)
      by None r = tt
      by (Some at) r = longer calls ys place h at r

  -- what is at a place rests
  rests_with : (calls : List (SystemCall P)) (place : ℕ) (run : ServiceView P) (at : SlabPlace (SlotView P)) →
      IsAt run.slab place at → IsAtRest port_transition calls place at → RestsAt calls place run
  rests_with calls place run at e r =
      subst (λ (o : Option (SlabPlace (SlotView P))). IfSome o (IsAtRest port_transition calls place)) (sym e) r

  last_here : (place : ℕ) (calls : List (SystemCall P)) (call : SystemCall P) → is_about place call ≡ true →
      last_about place None (calls ++ call ∷ []) ≡ Some call
  last_here place calls call e =
      last_then place None calls (call ∷ [])
      ∙ ap (λ (b : Bool). if b then Some call else last_about place None calls) e

  module _ (settings : Settings) (all : List (SystemCall P)) where
    -- the last of some turns made no progress
    last_idle : (n : ℕ) (old : SlabView P) (place : ℕ) (trace : List (SystemCall P))
        (new : SlabView P) (now : SlotView P) → 0 < n →
        TurnsInRow port_transition n old place trace new → IsAt new place (Held now) → now.meter.moved.made_progress ≡ false →
        IsIdleSession port_transition now
    last_idle zero old place trace new now some h at unmoved = absurd (omega (arith, some))
    last_idle (suc n) old place trace new now some h at unmoved =
        let turn = h.6 in
        let opened = changed_there (OpensTurn port_transition place h.2) h.0 place turn.begun turn.begins in
        let same : turn.begins.1 ≡ turn.runs.0 = cc (sym opened ∙ turn.runs.2) in
        let ran = changed_there (IsSlotTurned port_transition) turn.begun place new turn.runs in
        let last : turn.runs.1 ≡ now = cc (sym ran ∙ at) in
        let made : IsSlotTurned port_transition turn.begins.1 now =
        subst (λ (b : SlotView P). IsSlotTurned port_transition turn.begins.1 b) last
        (subst (λ (a : SlotView P). IsSlotTurned port_transition a turn.runs.1) (sym same) turn.runs.4) in
        idle_turn port_transition turn.begins.0 turn.begins.1 now turn.begins.4.0 made unmoved

    -- a session that had turns rests, or its place is free or queued
    given_rests : (calls : List (SystemCall P)) (old : ServiceView P) (place turns : ℕ) (trace : List (SystemCall P))
        (new : ServiceView P) → IfHeldAt old.slab.places place (Reached port_transition settings all place) →
        place < old.ready.places → TurnsAndLeaves port_transition old place turns trace new → IsAbsent new.ready place →
        RestsAt (calls ++ trace) place new
    given_rests calls old place turns trace new reached inside h absent = by (is_closed h.now.session) refl h.leaves
      where
        mid : ServiceView P
        mid = record old { slab = h.turned }

        rested : (moved rests : Bool) → is_closed h.now.session ≡ false → h.now.meter.moved.made_progress ≡ moved →
            RestsBy moved place h.now.ports h.leaving rests → new ≡ (if rests then mid else queued_again mid place) →
            RestsAt (calls ++ trace) place new
        rested true true lives is r e = let none = r.1 in absurd (cc)
        rested false true lives is r e =
            let idle : IsIdleSession port_transition h.now =
            last_idle turns old.slab place h.turning h.turned h.now h.takes.some h.takes.made h.there is in
            let extended : calls ++ trace ≡ (calls ++ h.turning) ++ Rests place h.now.ports true ∷ [] =
            ap (λ (l : List (SystemCall P)). calls ++ l) (h.asked ∙ ap (λ (l : List (SystemCall P)). h.turning ++ l) r)
            ∙ sym (append_assoc calls h.turning (Rests place h.now.ports true ∷ [])) in
            rests_with (calls ++ trace) place new (Held h.now)
            (ap (λ (s : ServiceView P). slice_get s.slab.places place) e ∙ h.there) (
              idle,
              ap (last_about place None) extended
                  ∙ last_here place (calls ++ h.turning) (Rests place h.now.ports true) (eqb_same place),
            )
        rested moved false lives is r e =
            absurd (put_back_there old.ready place inside
            (subst (λ (s : ServiceView P). IsAbsent s.ready place) e absent))

        by : (closed : Bool) → is_closed h.now.session ≡ closed → LeavesVisit closed h.now mid place h.leaving new →
            RestsAt (calls ++ trace) place new
        by true e l =
            rests_with (calls ++ trace) place new Free
            (ap (λ (s : ServiceView P). slice_get s.slab.places place) l.1 ∙ get_set h.turned.places place Free (Held h.now) h.there) tt
        by false e l = rested h.now.meter.moved.made_progress l.0 e refl l.1 l.2

    -- so it is with a visit of any place
    visit_rests : (at : Option (SlabPlace (SlotView P))) (calls : List (SystemCall P)) (old : ServiceView P)
        (place turns : ℕ) (trace : List (SystemCall P)) (new : ServiceView P) → slice_get old.slab.places place ≡ at →
        ((n : ℕ) (ports : P) → Contains trace (Connects n (Ready ports)) → Contains all (Connects n (Ready ports))) →
        old.slab.limits ≡ run_limits settings → old.counters.turns ≡ settings.turns →
        AllServed port_transition settings all old → HasPlaces port_transition old →
        VisitsBy port_transition at old place turns trace new → IsAbsent new.ready place → RestsAt (calls ++ trace) place new
    visit_rests None calls old place turns trace new there within limits quota held places h absent =
        let none : slice_get new.slab.places place ≡ None = ap (λ (s : ServiceView P). slice_get s.slab.places place) h.2 ∙ there in
        subst (λ (o : Option (SlabPlace (SlotView P))). IfSome o (IsAtRest port_transition (calls ++ trace) place)) (sym none) tt
    visit_rests (Some Free) calls old place turns trace new there within limits quota held places h absent =
        rests_with (calls ++ trace) place new Free (ap (λ (s : ServiceView P). slice_get s.slab.places place) h.2 ∙ there) tt
    visit_rests (Some Kept) calls old place turns trace new there within limits quota held places h absent = by h.0 h.1 h.2 h.3
      where
        inside : place < old.ready.places
        inside =
            let within = slice_get_within old.slab.places place Kept there in
            omega (arith, within, places)

        by : (connect : Connect P) (joining : List (SystemCall P)) → trace ≡ Connects place connect ∷ joining →
            JoinsBy port_transition connect old place turns joining new → RestsAt (calls ++ trace) place new
        by (Ready ports) joining e m =
            let now : SlotView P = new_slot m.1.0 ports old.counters.turns in
            let at : IsAt m.0 place (Held now) =
            ap (λ (s : SlabView P). slice_get s.places place) m.1.2 ∙ get_set old.slab.places place (Held now) Kept there in
            let came = within place ports (subst (λ (l : List (SystemCall P)). Contains l (Connects place (Ready ports))) (sym e)
            (0, omega arith, refl)) in
            let reached = opened_reached port_transition settings all old place ports m.1.0 limits quota m.1.1 came in
            subst (λ (l : List (SystemCall P)). RestsAt l place new)
            (append_assoc calls (Connects place (Ready ports) ∷ []) joining ∙ ap (λ (l : List (SystemCall P)). calls ++ l) (sym e))
            (given_rests (calls ++ Connects place (Ready ports) ∷ []) (record old { slab = m.0 }) place turns joining new
            (held_here m.0 place now (Reached port_transition settings all place) at reached) inside m.2 absent)
        by Failed joining e m =
            rests_with (calls ++ trace) place new Free
            (ap (λ (s : ServiceView P). slice_get s.slab.places place) m.2 ∙ get_set old.slab.places place Free Kept there) tt
        by Pending joining e m =
            rests_with (calls ++ trace) place new Kept (ap (λ (s : ServiceView P). slice_get s.slab.places place) m.2 ∙ there)
            (ap (λ (l : List (SystemCall P)). last_about place None (calls ++ l))
            (e ∙ ap (λ (l : List (SystemCall P)). Connects place Pending ∷ l) m.1)
            ∙ last_here place calls (Connects place Pending) (eqb_same place))
    visit_rests (Some (Held now)) calls old place turns trace new there within limits quota held places h absent =
        let inside = slice_get_within old.slab.places place (Held now) there in
        given_rests calls old place turns trace new
        (λ own at. still port_transition settings all place own (held place own at)) (omega (arith, inside, places)) h absent

    visits_rest : (calls : List (SystemCall P)) (visited : List ℕ) (turns : ℕ) (old : ServiceView P) (trace : List (SystemCall P))
        (new : ServiceView P) →
        ((n : ℕ) (ports : P) → Contains trace (Connects n (Ready ports)) → Contains all (Connects n (Ready ports))) →
        old.slab.limits ≡ run_limits settings → old.counters.turns ≡ settings.turns →
        AllServed port_transition settings all old → HasPlaces port_transition old → AllRest calls old →
        Visits port_transition visited turns old trace new → AllRest (calls ++ trace) new
    visits_rest calls [] turns old trace new within limits quota held places rest h =
        λ place absent.
        still_rests calls trace place old new
        (All-same (IsElsewhere place) trace [] h.1 (All-nil (IsElsewhere place)))
        (ap (λ (s : ServiceView P). slice_get s.slab.places place) h.2)
        (rest place (subst (λ (s : ServiceView P). IsAbsent s.ready place) h.2 absent))
    visits_rest calls (other ∷ earlier) turns old trace new within limits quota held places rest h =
        λ place absent.
        subst (λ (l : List (SystemCall P)). RestsAt l place new)
        (append_assoc calls h.3 h.4 ∙ ap (λ (l : List (SystemCall P)). calls ++ l) (sym h.6))
        (by (visits_rest calls earlier h.1 old h.3 h.0 first limits quota held places rest h.7) place absent (other == place) refl)
      where
        first : (n : ℕ) (ports : P) → Contains h.3 (Connects n (Ready ports)) → Contains all (Connects n (Ready ports))
        first n ports c =
            within n ports (subst (λ (l : List (SystemCall P)). Contains l (Connects n (Ready ports))) (sym h.6)
            (Contains-append_left h.3 h.4 (Connects n (Ready ports)) c))

        second : (n : ℕ) (ports : P) → Contains h.4 (Connects n (Ready ports)) → Contains all (Connects n (Ready ports))
        second n ports c =
            within n ports (subst (λ (l : List (SystemCall P)). Contains l (Connects n (Ready ports))) (sym h.6)
            (Contains-append_right h.3 h.4 (Connects n (Ready ports)) c))

        mid : ServiceView P
        mid = record h.0 { ready = h.8.ready }

        by : AllRest (calls ++ h.3) h.0 → (place : ℕ) → IsAbsent new.ready place → (same : Bool) → (other == place) ≡ same →
            RestsAt ((calls ++ h.3) ++ h.4) place new
        by before place absent true e =
            let served = visits_serve port_transition settings all earlier h.1 old h.3 h.0 first limits quota held h.7 in
            let kept = visits_places port_transition earlier h.1 old h.3 h.0 h.7 in
            let left : mid.ready.places ≡ length mid.slab.places =
            taken_places (has_room (h.1 + 8)) h.0.ready other h.8.ready h.8.chooses ∙ kept.0 ∙ places ∙ sym kept.1 in
            let same = eqb-true other place e in
            subst (λ (n : ℕ). RestsAt ((calls ++ h.3) ++ h.4) n new) same
            (visit_rests (slice_get mid.slab.places other) (calls ++ h.3) mid other h.2 h.4 new refl second
            (served.limits ∙ limits)
            (ap (λ (c : AdmissionCounters). c.turns) (visits_counters port_transition earlier h.1 old h.3 h.0 h.7) ∙ quota)
            served.held left h.8.visits (subst (λ (n : ℕ). IsAbsent new.ready n) (sym same) absent))
        by before place absent false e =
            let apart = eqb-false other place e in
            let at = slice_get mid.slab.places other in
            let was : IsAbsent h.8.ready place =
            ⊎_elim (λ (q : new.ready ≡ h.8.ready). subst (λ (r : ReadyView). IsAbsent r place) q absent)
            (λ (q : new.ready ≡ put_back h.8.ready other). put_back_absent h.8.ready other place (subst (λ (r : ReadyView). IsAbsent r place) q absent))
            (visited_queue port_transition at mid other h.2 h.4 new h.8.visits) in
            still_rests (calls ++ h.3) h.4 place h.0 new
            (visit_elsewhere port_transition other place apart at mid h.2 h.4 new h.8.visits)
            ((visit_there port_transition at mid other h.2 h.4 new h.8.visits).beside place (λ same. apart (sym same)))
            (before place (taken_absent (has_room (h.1 + 8)) h.0.ready other h.8.ready place apart h.8.chooses was))

  -- ---- a poll, and an accept

  poll_rests : (calls : List (SystemCall P)) (woken : List ℕ) (orders : Orders) (old : ServiceView P) →
      HasPlaces port_transition old → AllRest calls old → AllRest (calls ++ opening woken orders old) (polled woken orders old)
  poll_rests calls woken orders old places rest = λ place absent.
      by place absent (slice_get old.slab.places place) refl
    where
      by : (place : ℕ) → IsAbsent (woken_all woken old.ready) place → (at : Option (SlabPlace (SlotView P))) →
          slice_get old.slab.places place ≡ at → RestsAt (calls ++ opening woken orders old) place (polled woken orders old)
      by place absent None e =
          subst (λ (o : Option (SlabPlace (SlotView P))).
          IfSome o (IsAtRest port_transition (calls ++ opening woken orders old) place)) (sym e) tt
      by place absent (Some at) e =
          let was = woken_all_absent woken old.ready place absent in
          let within = slice_get_within old.slab.places place at e in
          still_rests calls (opening woken orders old) place old (polled woken orders old)
          (All-cons (IsElsewhere place) (Polls _ woken orders) _ (was.1 (omega (arith, within, places)))
          (all_shown port_transition (IsElsewhere place) orders.shows_sessions old.slab.places (λ ports status. refl)))
          refl (rest place was.0)

  accept_rests : (calls : List (SystemCall P)) (old : ServiceView P) (trace : List (SystemCall P)) (new : ServiceView P) →
      HasPlaces port_transition old → AllRest calls old → Admits old trace new → AllRest (calls ++ trace) new
  accept_rests calls old trace new places rest (inr none) = λ place absent.
      still_rests calls trace place old new
      (All-same (IsElsewhere place) trace [] none.1 (All-nil (IsElsewhere place)))
      (ap (λ (s : ServiceView P). slice_get s.slab.places place) none.2)
      (rest place (subst (λ (s : ServiceView P). IsAbsent s.ready place) none.2 absent))
  accept_rests calls old trace new places rest (inl asks) = λ place absent.
      by place absent asks.came (asks.place == place) refl asks.asked asks.then_kept
    where
      by : (place : ℕ) → IsAbsent new.ready place → (came same : Bool) → (asks.place == place) ≡ same →
          trace ≡ Accepts asks.place came ∷ [] → new ≡ (if came then accepted_at old asks.place else old) →
          RestsAt (calls ++ trace) place new
      by place absent true true e asked kept =
          let within = slice_get_within old.slab.places asks.place Free asks.free in
          absurd (woken_there old.ready asks.place (omega (arith, within, places))
          (subst (λ (n : ℕ). IsAbsent (accepted_at old asks.place).ready n) (sym (eqb-true asks.place place e))
          (subst (λ (s : ServiceView P). IsAbsent s.ready place) kept absent)))
      by place absent false true e asked kept =
          rests_with (calls ++ trace) place new Free
          (ap (λ (s : ServiceView P). slice_get s.slab.places place) kept
          ∙ subst (λ (n : ℕ). slice_get old.slab.places n ≡ Some Free) (eqb-true asks.place place e) asks.free) tt
      by place absent true false e asked kept =
          let apart = eqb-false asks.place place e in
          let only = one_there asks.place old.slab new.slab Kept (ap (λ (s : ServiceView P). s.slab) kept) in
          still_rests calls trace place old new
          (All-same (IsElsewhere place) trace (Accepts asks.place true ∷ []) asked
          (All-cons (IsElsewhere place) (Accepts asks.place true) [] e (All-nil (IsElsewhere place))))
          (only.beside place (λ same. apart (sym same)))
          (rest place (woken_absent old.ready asks.place place (subst (λ (s : ServiceView P). IsAbsent s.ready place) kept absent)))
      by place absent false false e asked kept =
          still_rests calls trace place old new
          (All-same (IsElsewhere place) trace (Accepts asks.place false ∷ []) asked
          (All-cons (IsElsewhere place) (Accepts asks.place false) [] e (All-nil (IsElsewhere place))))
          (ap (λ (s : ServiceView P). slice_get s.slab.places place) kept)
          (rest place (subst (λ (s : ServiceView P). IsAbsent s.ready place) kept absent))

  -- ---- rounds

  module _ (settings : Settings) where
    round_rests : (n : ℕ) (xs ys : List (SystemCall P)) (old new : ServiceView P) →
        Rounds port_transition n (initial_service settings) xs old → AllRest xs old → Round port_transition old ys new →
        AllRest (xs ++ ys) new
    round_rests n xs ys old new rounds rest r =
        let all = xs ++ ys in
        let kept = rounds_serve port_transition settings n xs old rounds in
        let places = rounds_places port_transition settings n xs old rounds in
        let start = polled r.woken r.orders old in
        let opens = opening r.woken r.orders old in
        let held : AllServed port_transition settings all start =
        λ place now at. (let s = kept.held place now at in (later port_transition settings IsServedSession xs ys now s.0, s.1, s.2)) in
        let begun = poll_rests xs r.woken r.orders old places rest in
        let visited = visits_rest settings all (xs ++ opens) r.visits.visited r.visits.turns start r.visiting r.mid
        (λ m ports c. Contains-append_right xs ys (Connects m (Ready ports))
        (subst (λ (l : List (SystemCall P)). Contains l (Connects m (Ready ports))) (sym r.asked)
        (Contains-append_left (opens ++ r.visiting) r.admission (Connects m (Ready ports))
        (Contains-append_right opens r.visiting (Connects m (Ready ports)) c))))
        kept.limits (heeded_turns port_transition settings r.orders.stops_accepting old.counters ∙ kept.turns) held
        (woken_all_places r.woken old.ready ∙ places) begun r.visits.takes in
        let accepted = accept_rests ((xs ++ opens) ++ r.visiting) r.mid r.admission new
        (before_admission port_transition old new ys r places) visited r.admits in
        subst (λ (l : List (SystemCall P)). AllRest l new)
        (ap (λ (l : List (SystemCall P)). l ++ r.admission) (append_assoc xs opens r.visiting)
        ∙ append_assoc xs (opens ++ r.visiting) r.admission ∙ ap (λ (l : List (SystemCall P)). xs ++ l) (sym r.asked)) accepted

    -- no place is used at the opening
    free_at : (count place : ℕ) → IfSome (slice_get (all_free {T = SlotView P} count) place) (λ at. at ≡ Free)
    free_at zero zero = tt
    free_at zero (suc place) = tt
    free_at (suc count) zero = refl
    free_at (suc count) (suc place) = free_at count place

    free_rests : (calls : List (SystemCall P)) (place : ℕ) (at : Option (SlabPlace (SlotView P))) →
        IfSome at (λ found. found ≡ Free) → IfSome at (IsAtRest port_transition calls place)
    free_rests calls place None e = tt
    free_rests calls place (Some at) e = subst (IsAtRest port_transition calls place) (sym e) tt

    pub rounds_rest : (n : ℕ) (calls : List (SystemCall P)) (run : ServiceView P) →
        Rounds port_transition n (initial_service settings) calls run → AllRest calls run
    rounds_rest zero calls run h = λ place absent.
        subst (λ (s : ServiceView P). RestsAt calls place s) (sym h.1)
        (free_rests calls place (slice_get (all_free settings.max_sessions) place) (free_at settings.max_sessions place))
    rounds_rest (suc n) calls run h =
        subst (λ (l : List (SystemCall P)). AllRest l run) (sym h.3)
        (round_rests n h.1 h.2 h.0 run h.4 (rounds_rest n h.1 h.0 h.4) h.6)

  pub resting_sessions_are_idle : RestingSessionsAreIdle port_transition
  resting_sessions_are_idle settings n calls run rounds place absent =
      rounds_rest settings n calls run rounds place (absent_is run.ready place absent)
