-- The turns of a round, and the places of the queue that come nearer in it.
use Rattle.std.proofs.Common.{◌≡◌, ℕ, zero, suc, ◌+◌, ◌*◌, ◌-◌, ◌<◌, ◌≤◌, ◌⊎◌, inl, inr, ⊎_elim, Bool, true, false, List, [], ◌∷◌, ◌++◌}
use Rattle.std.proofs.Common.{Option, Some, None, refl, sym, ap, ◌∙◌, subst, arith}
use Rattle.std.specs.Prelude.{slice_get, Contains, if◌then◌else◌}
use Rattle.std.proofs.lemmas.Bool.Decides.{nat_tests}
use Rattle.std.proofs.lemmas.List.Elements.{Contains-append_right}
use Rattle.daide_protocol.specs.Wires.{is_closed}
use Rattle.daide_io.specs.Ports.{PortCall}
use Rattle.daide_io.specs.ReadyQueue.{ReadyView, queued_places, may_join, put_back, TakesNext}
use Rattle.daide_io.specs.System.{SystemCall}
use Rattle.daide_io.specs.declared.system.Connect.{Connect}
use Rattle.daide_io.specs.declared.system.Connect.TheVariants.{Ready, Failed, Pending}
use Rattle.daide_driver.specs.declared.place.SlabPlace.{SlabPlace}
use Rattle.daide_driver.specs.declared.place.SlabPlace.TheVariants.{Free, Kept, Held}
use Rattle.daide_driver.specs.Slab.{SlabView, SlotView}
use Rattle.daide_event_loop.specs.Serving.{ServiceView, TurnsInRow, LeavesVisit, TurnsAndLeaves, end_of, opening, JoinsBy, VisitsBy, Visits, has_room}
use Rattle.daide_event_loop.specs.Serving.{Admits, accepted_at, polled}
use Rattle.daide_event_loop.specs.Served.{sum_over_calls}
use Rattle.daide_event_loop.specs.Fairness.{RoundsAreShort, IsBehind, ReadyPlacesAdvance, turn_calls}
use Rattle.daide_event_loop.proofs.CountLemmas.{counted_append, parts_count, none_shown, retirement_count, rests_none}
use Rattle.daide_event_loop.proofs.OrderLemmas.{admission_none}
use Rattle.daide_event_loop.proofs.VisitLemmas.{visit_turns}

-- ---- numbers

room_left : (turns : ℕ) → has_room turns ≡ true → turns ≤ 24
room_left turns e = grind (arith, nat_tests, e)

room_gone : (turns : ℕ) → has_room turns ≡ false → 24 < turns
room_gone turns e = grind (arith, nat_tests, e)

-- ---- a place of a list

-- what joins the end of a list changes no place before it
pub still_after : (xs ys : List ℕ) (k place : ℕ) → IsBehind xs k place → IsBehind (xs ++ ys) k place
still_after [] ys zero place h = absurd (cc)
still_after [] ys (suc k) place h = absurd (cc)
still_after (x ∷ xs) ys zero place h = h
still_after (x ∷ xs) ys (suc k) place h = still_after xs ys k place h

none_after : (k place : ℕ) → IsBehind [] k place → ⊥
none_after zero place h = cc
none_after (suc k) place h = cc

-- a place is the first of a list, or one nearer once the first is gone
nearer : (first : ℕ) (xs : List ℕ) (k place : ℕ) → IsBehind (first ∷ xs) k place →
    (first ≡ place) ⊎ ((j : ℕ) × (j + 1 ≡ k) × IsBehind xs j place)
nearer first xs zero place h = inl (cc)
nearer first xs (suc k) place h = inr (k, omega arith, h)

-- ---- a visit

module _ {P : Type 0} (port_transition : P → PortCall → P → Type 0) where
  -- the queue is as before, but that its place may have joined the end
  abbrev pub Rejoins : ℕ → ReadyView → ReadyView → Type 0
  Rejoins place old new = (new ≡ old) ⊎ (new ≡ put_back old place)

  turned_queue : (old : ServiceView P) (place turns : ℕ) (trace : List (SystemCall P)) (new : ServiceView P) →
      TurnsAndLeaves port_transition old place turns trace new → Rejoins place old.ready new.ready
  turned_queue old place turns trace new h = by (is_closed h.now.session) h.leaves
    where
      rested : (rests : Bool) (mid : ServiceView P) → mid.ready ≡ old.ready →
          new ≡ (if rests then mid else record mid { ready = put_back mid.ready place }) → Rejoins place old.ready new.ready
      rested true mid same e = inl (ap (λ (s : ServiceView P). s.ready) e ∙ same)
      rested false mid same e =
          inr (ap (λ (s : ServiceView P). s.ready) e ∙ ap (λ (q : ReadyView). put_back q place) same)

      by : (closed : Bool) →
          LeavesVisit closed h.now (record old { slab = h.turned }) place h.leaving new →
          Rejoins place old.ready new.ready
      by true l = inl (ap (λ (s : ServiceView P). s.ready) l.1)
      by false l = rested l.0 (record old { slab = h.turned }) refl l.2

  pub visited_queue : (at : Option (SlabPlace (SlotView P))) (old : ServiceView P) (place turns : ℕ) (trace : List (SystemCall P))
      (new : ServiceView P) → VisitsBy port_transition at old place turns trace new → Rejoins place old.ready new.ready
  visited_queue None old place turns trace new h = inl (ap (λ (s : ServiceView P). s.ready) h.2)
  visited_queue (Some Free) old place turns trace new h = inl (ap (λ (s : ServiceView P). s.ready) h.2)
  visited_queue (Some Kept) old place turns trace new h = by h.0 h.1 h.3
    where
      by : (connect : Connect P) (joining : List (SystemCall P)) → JoinsBy port_transition connect old place turns joining new →
          Rejoins place old.ready new.ready
      by (Ready ports) joining m = turned_queue (record old { slab = m.0 }) place turns joining new m.2
      by Failed joining m = inl (ap (λ (s : ServiceView P). s.ready) m.2)
      by Pending joining m = inl (ap (λ (s : ServiceView P). s.ready) m.2)
  visited_queue (Some (Held now)) old place turns trace new h = turned_queue old place turns trace new h

  -- ---- the places of the queue in a visit

  -- whoever rejoins changes no place before
  joined_fresh : (b : Bool) (queue : ReadyView) (other k place : ℕ) → IsBehind queue.fresh k place →
      IsBehind (if b then record queue { moving = queue.moving ++ other ∷ [] } else queue).fresh k place
  joined_fresh true queue other k place h = h
  joined_fresh false queue other k place h = h

  joined_moving : (b : Bool) (queue : ReadyView) (other k place : ℕ) → IsBehind queue.moving k place →
      IsBehind (if b then record queue { moving = queue.moving ++ other ∷ [] } else queue).moving k place
  joined_moving true queue other k place h = still_after queue.moving (other ∷ []) k place h
  joined_moving false queue other k place h = h

  rejoined_fresh : (old new : ReadyView) (other k place : ℕ) → Rejoins other old new → IsBehind old.fresh k place →
      IsBehind new.fresh k place
  rejoined_fresh old new other k place (inl e) h =
      subst (λ (q : ReadyView). IsBehind q.fresh k place) (sym e) h
  rejoined_fresh old new other k place (inr e) h =
      subst (λ (q : ReadyView). IsBehind q.fresh k place) (sym e) (joined_fresh (may_join old other) old other k place h)

  rejoined_moving : (old new : ReadyView) (other k place : ℕ) → Rejoins other old new → IsBehind old.moving k place →
      IsBehind new.moving k place
  rejoined_moving old new other k place (inl e) h =
      subst (λ (q : ReadyView). IsBehind q.moving k place) (sym e) h
  rejoined_moving old new other k place (inr e) h =
      subst (λ (q : ReadyView). IsBehind q.moving k place) (sym e) (joined_moving (may_join old other) old other k place h)

  -- a place of a list is taken, or at most as far after as before; nearer if its list comes first
  abbrev Nearer : Bool → List ℕ → ℕ → ℕ → ℕ → Type 0
  Nearer first xs other k place = (other ≡ place) ⊎ ((j : ℕ) × (j ≤ k) × (first ≡ true → j + 1 ≤ k) × IsBehind xs j place)

  taken_here : (first : Bool) (old xs : List ℕ) (other k place : ℕ) → old ≡ other ∷ xs → IsBehind old k place →
      Nearer first xs other k place
  taken_here first old xs other k place e h =
      ⊎_elim (λ (same : other ≡ place). inl same)
      (λ (n : (j : ℕ) × (j + 1 ≡ k) × IsBehind xs j place). let one = n.1 in inr (n.0, omega (arith, one), (λ f. omega (arith, one)), n.2))
      (nearer other xs k place (subst (λ (l : List ℕ). IsBehind l k place) e h))

  -- taken from the other list, if this one does not come first or is empty
  taken_there : (first : Bool) (old xs : List ℕ) (other k place : ℕ) → xs ≡ old → (first ≡ true → old ≡ []) → IsBehind old k place →
      Nearer first xs other k place
  taken_there first old xs other k place e empty h =
      inr (
        k,
        omega arith,
        (λ f. absurd (none_after k place (subst (λ (l : List ℕ). IsBehind l k place) (empty f) h))),
        subst (λ (l : List ℕ). IsBehind l k place) (sym e) h,
      )

  next_fresh : (fresh_first : Bool) (old new : ReadyView) (other k place : ℕ) → TakesNext fresh_first old other new →
      IsBehind old.fresh k place → Nearer fresh_first new.fresh other k place
  next_fresh true old new other k place (inl takes) h =
      taken_here true old.fresh new.fresh other k place (ap (λ (q : ReadyView). q.fresh) takes) h
  next_fresh true old new other k place (inr takes) h =
      taken_there true old.fresh new.fresh other k place (sym (ap (λ (q : ReadyView). q.fresh) takes.1)) (λ f. takes.0) h
  next_fresh false old new other k place (inl takes) h =
      taken_there false old.fresh new.fresh other k place (sym (ap (λ (q : ReadyView). q.fresh) takes)) (λ f. absurd (cc)) h
  next_fresh false old new other k place (inr takes) h =
      taken_here false old.fresh new.fresh other k place (ap (λ (q : ReadyView). q.fresh) takes.1) h

  next_moving : (fresh_first : Bool) (old new : ReadyView) (other k place : ℕ) → TakesNext fresh_first old other new →
      IsBehind old.moving k place → (other ≡ place) ⊎ ((j : ℕ) × (j ≤ k) × (fresh_first ≡ false → j + 1 ≤ k) × IsBehind new.moving j place)
  next_moving true old new other k place (inl takes) h =
      inr (k, omega arith, (λ f. absurd (cc)), subst (λ (l : List ℕ). IsBehind l k place) (ap (λ (q : ReadyView). q.moving) takes) h)
  next_moving true old new other k place (inr takes) h =
      ⊎_elim (λ (same : other ≡ place). inl same)
      (λ (n : (j : ℕ) × (j ≤ k) × (true ≡ true → j + 1 ≤ k) × IsBehind new.moving j place). inr (n.0, n.1, (λ f. n.2 refl), n.3))
      (taken_here true old.moving new.moving other k place (ap (λ (q : ReadyView). q.moving) takes.1) h)
  next_moving false old new other k place (inl takes) h =
      ⊎_elim (λ (same : other ≡ place). inl same)
      (λ (n : (j : ℕ) × (j ≤ k) × (true ≡ true → j + 1 ≤ k) × IsBehind new.moving j place). inr (n.0, n.1, (λ f. n.2 refl), n.3))
      (taken_here true old.moving new.moving other k place (ap (λ (q : ReadyView). q.moving) takes) h)
  next_moving false old new other k place (inr takes) h =
      absurd (none_after k place (subst (λ (l : List ℕ). IsBehind l k place) takes.0 h))

  -- ---- the visits of a round

  -- their turns
  visits_short : (visited : List ℕ) (turns : ℕ) (old : ServiceView P) (trace : List (SystemCall P)) (new : ServiceView P) →
      Visits port_transition visited turns old trace new → turns ≤ 32
  visits_short [] turns old trace new h = let none = h.0 in omega (arith, none)
  visits_short (place ∷ earlier) turns old trace new h =
      let sum = h.5 in
      let room = room_left h.1 h.8.room in
      let few = (visit_turns port_transition _ _ place h.2 h.4 new h.8.visits).1 in
      omega (arith, sum, room, few)

  -- and the calls that begin them
  turns_calls : (n : ℕ) (old : SlabView P) (place : ℕ) (trace : List (SystemCall P))
      (new : SlabView P) → TurnsInRow port_transition n old place trace new → sum_over_calls turn_calls trace ≤ n
  turns_calls zero old place trace new h = let none = ap (sum_over_calls turn_calls) h.0 in omega (arith, none)
  turns_calls (suc n) old place trace new h =
      let all = parts_count turn_calls trace h.1 h.2 h.3 in
      let before = turns_calls n old place h.1 h.0 h.4 in
      let begins = h.6.begins in
      let last = ap (sum_over_calls turn_calls) begins.4.1 in
      omega (arith, all, before, last)

  leave_calls : (closed : Bool) (now : SlotView P) (old : ServiceView P) (place : ℕ)
      (trace : List (SystemCall P)) (new : ServiceView P) → LeavesVisit closed now old place trace new →
      sum_over_calls turn_calls trace ≡ 0
  leave_calls true now old place trace new h =
      ap (sum_over_calls turn_calls) h.0 ∙ retirement_count port_transition turn_calls (λ notice. refl) place now.ports now.meter (end_of now)
  leave_calls false now old place trace new h =
      rests_none port_transition turn_calls (λ place ports rests. refl) now.meter.moved.made_progress place now.ports trace h.0 h.1

  given_calls : (old : ServiceView P) (place turns : ℕ) (trace : List (SystemCall P)) (new : ServiceView P) →
      TurnsAndLeaves port_transition old place turns trace new → sum_over_calls turn_calls trace ≤ turns
  given_calls old place turns trace new h =
      let all = parts_count turn_calls trace h.turning h.leaving h.asked in
      let made = turns_calls turns old.slab place h.turning h.turned h.takes.made in
      let none = leave_calls (is_closed h.now.session) h.now (record old { slab = h.turned }) place h.leaving new h.leaves in
      omega (arith, all, made, none)

  visit_calls : (at : Option (SlabPlace (SlotView P))) (old : ServiceView P) (place turns : ℕ)
      (trace : List (SystemCall P)) (new : ServiceView P) → VisitsBy port_transition at old place turns trace new →
      sum_over_calls turn_calls trace ≤ turns
  visit_calls None old place turns trace new h = let none = ap (sum_over_calls turn_calls) h.1 in omega (arith, none)
  visit_calls (Some Free) old place turns trace new h = let none = ap (sum_over_calls turn_calls) h.1 in omega (arith, none)
  visit_calls (Some Kept) old place turns trace new h =
      let all = ap (sum_over_calls turn_calls) h.2 in
      let rest = by h.0 h.1 h.3 in
      omega (arith, all, rest)
    where
      by : (connect : Connect P) (joining : List (SystemCall P)) → JoinsBy port_transition connect old place turns joining new →
          sum_over_calls turn_calls joining ≤ turns
      by (Ready ports) joining m = given_calls (record old { slab = m.0 }) place turns joining new m.2
      by Failed joining m = let none = ap (sum_over_calls turn_calls) m.1 in omega (arith, none)
      by Pending joining m = let none = ap (sum_over_calls turn_calls) m.1 in omega (arith, none)
  visit_calls (Some (Held now)) old place turns trace new h = given_calls old place turns trace new h

  visits_calls : (visited : List ℕ) (turns : ℕ) (old : ServiceView P) (trace : List (SystemCall P)) (new : ServiceView P) →
      Visits port_transition visited turns old trace new → sum_over_calls turn_calls trace ≤ turns
  visits_calls [] turns old trace new h = let none = ap (sum_over_calls turn_calls) h.1 in omega (arith, none)
  visits_calls (place ∷ earlier) turns old trace new h =
      let sum = h.5 in
      let all = parts_count turn_calls trace h.3 h.4 h.6 in
      let before = visits_calls earlier h.1 old h.3 h.0 h.7 in
      let last = visit_calls (slice_get h.0.slab.places place) (record h.0 { ready = h.8.ready }) place h.2 h.4 new h.8.visits in
      omega (arith, sum, all, before, last)

  pub rounds_are_short : RoundsAreShort port_transition
  rounds_are_short old new trace round =
      let start = polled round.woken round.orders old in
      let opens = opening round.woken round.orders old in
      let all = parts_count turn_calls trace (opens ++ round.visiting) round.admission round.asked in
      let both = counted_append turn_calls opens round.visiting in
      let shown = none_shown turn_calls round.orders.shows_sessions old.slab.places (λ ports status. refl) in
      let begun = visits_calls round.visits.visited round.visits.turns start round.visiting round.mid round.visits.takes in
      let short = visits_short round.visits.visited round.visits.turns start round.visiting round.mid round.visits.takes in
      let none = admission_none turn_calls (λ place came. refl) round.mid round.admission new round.admits in
      omega (arith, all, both, shown, begun, short, none)

  -- a place of `fresh` is visited; or three of it were before it, or there were at most eight turns for each
  abbrev FreshSoFar : List ℕ → ℕ → ReadyView → ℕ → ℕ → Type 0
  FreshSoFar visited turns queue k place = Contains visited place
      ⊎ ((j : ℕ) × (j ≤ k) × ((j + 3 ≤ k) ⊎ (turns ≤ 8 * (k - j))) × IsBehind queue.fresh j place)

  fresh_advances : (visited : List ℕ) (turns : ℕ) (old : ServiceView P) (trace : List (SystemCall P)) (new : ServiceView P)
      (k place : ℕ) → Visits port_transition visited turns old trace new → IsBehind old.ready.fresh k place →
      FreshSoFar visited turns new.ready k place
  fresh_advances [] turns old trace new k place h at =
      let none = h.0 in
      inr (
        k,
        omega arith,
        inr (omega (arith, none)),
        subst (λ (s : ServiceView P). IsBehind s.ready.fresh k place) (sym h.2) at,
      )
  fresh_advances (other ∷ earlier) turns old trace new k place h at =
      ⊎_elim (λ (c : Contains earlier place). inl (Contains-append_right (other ∷ []) earlier place c)) step
      (fresh_advances earlier h.1 old h.3 h.0 k place h.7 at)
    where
      rejoins : Rejoins other h.8.ready new.ready
      rejoins = visited_queue _ _ other h.2 h.4 new h.8.visits

      few : h.2 ≤ 8
      few = (visit_turns port_transition _ _ other h.2 h.4 new h.8.visits).1

      sum : turns ≡ h.1 + h.2
      sum = h.5

      near : (j i : ℕ) → j ≤ k → (j + 3 ≤ k) ⊎ (h.1 ≤ 8 * (k - j)) → i ≤ j → (has_room (h.1 + 8) ≡ true → i + 1 ≤ j) →
          (i + 3 ≤ k) ⊎ (turns ≤ 8 * (k - i))
      near j i far (inl three) less first = inl (omega (arith, three, less))
      near j i far (inr each) less first = by (has_room (h.1 + 8)) refl
        where
          by : (b : Bool) → has_room (h.1 + 8) ≡ b → (i + 3 ≤ k) ⊎ (turns ≤ 8 * (k - i))
          by true e = let one = first e in inr (omega (arith, one, each, few, sum, far))
          by false e = let gone = room_gone (h.1 + 8) e in inl (omega (arith, gone, each, less, far))

      step : ((j : ℕ) × (j ≤ k) × ((j + 3 ≤ k) ⊎ (h.1 ≤ 8 * (k - j))) × IsBehind h.0.ready.fresh j place) →
          FreshSoFar (other ∷ earlier) turns new.ready k place
      step s =
          ⊎_elim (λ (same : other ≡ place). inl (0, omega arith, same))
          (λ (n : (i : ℕ) × (i ≤ s.0) × (has_room (h.1 + 8) ≡ true → i + 1 ≤ s.0) × IsBehind h.8.ready.fresh i place).
          let far = s.1 in
          let less = n.1 in
          inr (
            n.0,
            omega (arith, far, less),
            near s.0 n.0 s.1 s.2 n.1 n.2,
            rejoined_fresh h.8.ready new.ready other n.0 place rejoins n.3,
          ))
          (next_fresh (has_room (h.1 + 8)) h.0.ready h.8.ready other s.0 place h.8.chooses s.3)

  -- a place of `moving` is visited; or it is nearer, or the round is not yet at its last quantum
  abbrev MovingSoFar : List ℕ → ℕ → ReadyView → ℕ → ℕ → Type 0
  MovingSoFar visited turns queue k place = Contains visited place
      ⊎ ((j : ℕ) × (j ≤ k) × ((j < k) ⊎ (turns ≤ 24)) × IsBehind queue.moving j place)

  moving_advances : (visited : List ℕ) (turns : ℕ) (old : ServiceView P) (trace : List (SystemCall P)) (new : ServiceView P)
      (k place : ℕ) → Visits port_transition visited turns old trace new → IsBehind old.ready.moving k place →
      MovingSoFar visited turns new.ready k place
  moving_advances [] turns old trace new k place h at =
      let none = h.0 in
      inr (
        k,
        omega arith,
        inr (omega (arith, none)),
        subst (λ (s : ServiceView P). IsBehind s.ready.moving k place) (sym h.2) at,
      )
  moving_advances (other ∷ earlier) turns old trace new k place h at =
      ⊎_elim (λ (c : Contains earlier place). inl (Contains-append_right (other ∷ []) earlier place c)) step
      (moving_advances earlier h.1 old h.3 h.0 k place h.7 at)
    where
      rejoins : Rejoins other h.8.ready new.ready
      rejoins = visited_queue _ _ other h.2 h.4 new h.8.visits

      few : h.2 ≤ 8
      few = (visit_turns port_transition _ _ other h.2 h.4 new h.8.visits).1

      sum : turns ≡ h.1 + h.2
      sum = h.5

      near : (j i : ℕ) → j ≤ k → (j < k) ⊎ (h.1 ≤ 24) → i ≤ j → (has_room (h.1 + 8) ≡ false → i + 1 ≤ j) →
          (i < k) ⊎ (turns ≤ 24)
      near j i far (inl one) less first = inl (omega (arith, one, less))
      near j i far (inr early) less first = by (has_room (h.1 + 8)) refl
        where
          by : (b : Bool) → has_room (h.1 + 8) ≡ b → (i < k) ⊎ (turns ≤ 24)
          by true e = let left = room_left (h.1 + 8) e in inr (omega (arith, left, few, sum))
          by false e = let one = first e in inl (omega (arith, one, far))

      step : ((j : ℕ) × (j ≤ k) × ((j < k) ⊎ (h.1 ≤ 24)) × IsBehind h.0.ready.moving j place) →
          MovingSoFar (other ∷ earlier) turns new.ready k place
      step s =
          ⊎_elim (λ (same : other ≡ place). inl (0, omega arith, same))
          (λ (n : (i : ℕ) × (i ≤ s.0) × (has_room (h.1 + 8) ≡ false → i + 1 ≤ s.0) × IsBehind h.8.ready.moving i place).
          let far = s.1 in
          let less = n.1 in
          inr (
            n.0,
            omega (arith, far, less),
            near s.0 n.0 s.1 s.2 n.1 n.2,
            rejoined_moving h.8.ready new.ready other n.0 place rejoins n.3,
          ))
          (next_moving (has_room (h.1 + 8)) h.0.ready h.8.ready other s.0 place h.8.chooses s.3)

  -- ---- a round

  -- an empty queue has no place
  none_fresh : (queue : ReadyView) → queued_places queue ≡ [] → queue.fresh ≡ []
  none_fresh queue e = by queue.fresh e
    where
      by : (xs : List ℕ) → xs ++ queue.moving ≡ [] → xs ≡ []
      by [] h = refl
      by (x ∷ xs) h = absurd (cc)

  none_moving : (queue : ReadyView) → queued_places queue ≡ [] → queue.moving ≡ []
  none_moving queue e = by queue.fresh e
    where
      by : (xs : List ℕ) → xs ++ queue.moving ≡ [] → queue.moving ≡ []
      by [] h = h
      by (x ∷ xs) h = absurd (cc)

  -- whoever is accepted joins the end of `fresh`
  woken_fresh : (b : Bool) (queue : ReadyView) (other k place : ℕ) → IsBehind queue.fresh k place →
      IsBehind (if b then record queue { fresh = queue.fresh ++ other ∷ [] } else queue).fresh k place
  woken_fresh true queue other k place h = still_after queue.fresh (other ∷ []) k place h
  woken_fresh false queue other k place h = h

  woken_moving : (b : Bool) (queue : ReadyView) (other k place : ℕ) → IsBehind queue.moving k place →
      IsBehind (if b then record queue { fresh = queue.fresh ++ other ∷ [] } else queue).moving k place
  woken_moving true queue other k place h = h
  woken_moving false queue other k place h = h

  admitted_fresh : (old : ServiceView P) (trace : List (SystemCall P)) (new : ServiceView P) (k place : ℕ) →
      Admits old trace new → IsBehind old.ready.fresh k place → IsBehind new.ready.fresh k place
  admitted_fresh old trace new k place (inr none) h =
      subst (λ (s : ServiceView P). IsBehind s.ready.fresh k place) (sym none.2) h
  admitted_fresh old trace new k place (inl asks) h =
      subst (λ (s : ServiceView P). IsBehind s.ready.fresh k place) (sym asks.then_kept) (by asks.came)
    where
      by : (came : Bool) → IsBehind (if came then accepted_at old asks.place else old).ready.fresh k place
      by true = woken_fresh (may_join old.ready asks.place) old.ready asks.place k place h
      by false = h

  admitted_moving : (old : ServiceView P) (trace : List (SystemCall P)) (new : ServiceView P) (k place : ℕ) →
      Admits old trace new → IsBehind old.ready.moving k place → IsBehind new.ready.moving k place
  admitted_moving old trace new k place (inr none) h =
      subst (λ (s : ServiceView P). IsBehind s.ready.moving k place) (sym none.2) h
  admitted_moving old trace new k place (inl asks) h =
      subst (λ (s : ServiceView P). IsBehind s.ready.moving k place) (sym asks.then_kept) (by asks.came)
    where
      by : (came : Bool) → IsBehind (if came then accepted_at old asks.place else old).ready.moving k place
      by true = woken_moving (may_join old.ready asks.place) old.ready asks.place k place h
      by false = h

  -- the visits end with no room for one more, since a place is left
  full : (turns : ℕ) (queue : ReadyView) → (has_room turns ≡ true → queued_places queue ≡ []) → (queued_places queue ≡ [] → ⊥) → 24 < turns
  full turns queue ends some = by (has_room turns) refl
    where
      by : (b : Bool) → has_room turns ≡ b → 24 < turns
      by true e = absurd (some (ends e))
      by false e = room_gone turns e

  pub ready_places_advance : ReadyPlacesAdvance port_transition
  ready_places_advance old new trace round place k =
      let visits = round.visits in
      let start = polled round.woken round.orders old in
      record {
        fresh = λ at.
            ⊎_elim (λ (c : Contains visits.visited place). inl c)
            (λ (s : (j : ℕ) × (j ≤ k) × ((j + 3 ≤ k) ⊎ (visits.turns ≤ 8 * (k - j))) × IsBehind round.mid.ready.fresh j place).
            let late = full visits.turns round.mid.ready visits.ends
            (λ empty. none_after s.0 place (subst (λ (l : List ℕ). IsBehind l s.0 place) (none_fresh round.mid.ready empty) s.3)) in
            let less = s.1 in
            inr (
              s.0,
              ⊎_elim (λ (three : s.0 + 3 ≤ k). three) (λ (each : visits.turns ≤ 8 * (k - s.0)). omega (arith, late, each, less)) s.2,
              admitted_fresh round.mid round.admission new s.0 place round.admits s.3,
            ))
            (fresh_advances visits.visited visits.turns start round.visiting round.mid k place visits.takes at);
        moving = λ at.
            ⊎_elim (λ (c : Contains visits.visited place). inl c)
            (λ (s : (j : ℕ) × (j ≤ k) × ((j < k) ⊎ (visits.turns ≤ 24)) × IsBehind round.mid.ready.moving j place).
            let late = full visits.turns round.mid.ready visits.ends
            (λ empty. none_after s.0 place (subst (λ (l : List ℕ). IsBehind l s.0 place) (none_moving round.mid.ready empty) s.3)) in
            inr (
              s.0,
              ⊎_elim (λ (one : s.0 < k). one) (λ (early : visits.turns ≤ 24). absurd (omega (arith, late, early))) s.2,
              admitted_moving round.mid round.admission new s.0 place round.admits s.3,
            ))
            (moving_advances visits.visited visits.turns start round.visiting round.mid k place visits.takes at);
      }
