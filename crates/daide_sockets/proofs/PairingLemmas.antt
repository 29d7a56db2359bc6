-- What calls do to the bots whose connects are pending.
use Rattle.std.proofs.Common.{◌≡◌, ℕ, zero, suc, ◌+◌, Bool, true, false, List, [], ◌∷◌, refl, sym, ap, ◌∙◌, arith}
use Rattle.std.proofs.Common.{◌⊎◌, Option, Some, None, inl, inr, subst}
use Rattle.std.proofs.Common.{◌<◌, ◌++◌, drop, get_or, length}
use Rattle.std.proofs.Math.Seq.{drop-cons}
use Rattle.std.specs.Prelude.{IfNone, is_some, slice_get, slice_set}
use Rattle.daide_sockets.specs.Lingering.{ClosingList}
use Rattle.daide_sockets.specs.Pairing.{Arriving, RunSockets, IsFreshConnect, StaysPending, StaysPendingIf, TakesOut, arrival_at, arrival_in}
use Rattle.daide_sockets.specs.Pairing.{is_vacant_in, is_vacant, one_if_arrives, pending_connects, sum_over}

module _ {S : Type 0} where
  -- a bot stays pending, by one call and then another
  pub same_pending : (arrival : Arriving S) → StaysPending arrival arrival
  same_pending arrival = record { identity = refl; bot = refl; server = inl refl; tried = omega arith; gives_up = refl; im_due = refl; part = refl }

  pub stays_both : (old mid new : Arriving S) → StaysPending old mid → StaysPending mid new → StaysPending old new
  stays_both old mid new h k = record {
    identity = k.identity ∙ h.identity;
    bot = k.bot ∙ h.bot;
    server = by h.server k.server;
    tried = let first = h.tried in let second = k.tried in omega (arith, first, second);
    gives_up = k.gives_up ∙ h.gives_up;
    im_due = k.im_due ∙ h.im_due;
    part = k.part ∙ h.part;
  }
    where
      by : (mid.server ≡ old.server) ⊎ IsFreshConnect mid.server → (new.server ≡ mid.server) ⊎ IsFreshConnect new.server →
          (new.server ≡ old.server) ⊎ IsFreshConnect new.server
      by a (inr fresh) = inr fresh
      by (inl a) (inl b) = inl (b ∙ a)
      by (inr a) (inl b) = inr (subst IsFreshConnect (sym b) a)

  -- ---- one place changes

  -- the sum over all places follows that place
  pub sum_set : (number : Option (Arriving S) → ℕ) (arrivals : List (Option (Arriving S))) (place : ℕ)
      (before after : Option (Arriving S)) → slice_get arrivals place ≡ Some before →
      sum_over number (slice_set arrivals place after) + number before ≡ sum_over number arrivals + number after
  sum_set number [] place before after h = absurd (cc)
  sum_set number (arrival ∷ arrivals) zero before after h =
      let e : arrival ≡ before = cc in
      let same : number arrival ≡ number before = ap number e in
      omega (arith, same)
  sum_set number (arrival ∷ arrivals) (suc place) before after h =
      let rest = sum_set number arrivals place before after h in
      omega (arith, rest)

  pub free_is : (arrivals : List (Option (Arriving S))) (place : ℕ) → is_vacant arrivals place ≡ true →
      slice_get arrivals place ≡ Some None
  free_is arrivals place h = by (slice_get arrivals place) refl h
    where
      by : (found : Option (Option (Arriving S))) → slice_get arrivals place ≡ found → is_vacant_in found ≡ true →
          slice_get arrivals place ≡ Some None
      by None e h = absurd (cc)
      by (Some None) e h = e
      by (Some (Some arrival)) e h = absurd (cc)

  -- the bot at a place stays pending, so a number that it keeps does not change the sum
  pub sum_stays : (number : Option (Arriving S) → ℕ) (old new : List (Option (Arriving S))) (place : ℕ) →
      ((before after : Arriving S) → StaysPending before after → number (Some after) ≡ number (Some before)) →
      StaysPendingIf (arrival_at old place) old place new → sum_over number new ≡ sum_over number old
  sum_stays number old new place same h = by (slice_get old place) refl h
    where
      by : (found : Option (Option (Arriving S))) → slice_get old place ≡ found →
          StaysPendingIf (arrival_in found) old place new → sum_over number new ≡ sum_over number old
      by None e h = ap (sum_over number) h
      by (Some None) e h = ap (sum_over number) h
      by (Some (Some arrival)) e h =
          let sum = sum_set number old place (Some arrival) (Some h.0) e in
          let kept = same arrival h.0 h.1 in
          let whole : sum_over number new ≡ sum_over number (slice_set old place (Some h.0)) = ap (sum_over number) h.2 in
          omega (arith, sum, kept, whole)

  -- the bot at a place is taken out
  pub sum_out : (number : Option (Arriving S) → ℕ) (old new : List (Option (Arriving S))) (place : ℕ) (arrival : Arriving S) →
      number None ≡ 0 → TakesOut old place arrival new → sum_over number old ≡ number (Some arrival) + sum_over number new
  sum_out number old new place arrival none h =
      let sum = sum_set number old place (Some arrival) None h.there in
      let whole : sum_over number new ≡ sum_over number (slice_set old place None) = ap (sum_over number) h.free in
      omega (arith, sum, none, whole)

  -- a bot comes to a free place
  pub sum_in : (number : Option (Arriving S) → ℕ) (old new : List (Option (Arriving S))) (place : ℕ) (arrival : Arriving S) →
      number None ≡ 0 → is_vacant old place ≡ true → new ≡ slice_set old place (Some arrival) →
      sum_over number new ≡ number (Some arrival) + sum_over number old
  sum_in number old new place arrival none free h =
      let sum = sum_set number old place None (Some arrival) (free_is old place free) in
      let whole : sum_over number new ≡ sum_over number (slice_set old place (Some arrival)) = ap (sum_over number) h in
      omega (arith, sum, none, whole)

  -- ---- what is put back

  set_same : (arrivals : List (Option (Arriving S))) (place : ℕ) (arrival : Option (Arriving S)) →
      slice_get arrivals place ≡ Some arrival → slice_set arrivals place arrival ≡ arrivals
  set_same [] place arrival h = refl
  set_same (first ∷ arrivals) zero arrival h =
      let e : first ≡ arrival = cc in
      ap (λ (a : Option (Arriving S)). a ∷ arrivals) (sym e)
  set_same (first ∷ arrivals) (suc place) arrival h =
      ap (λ (l : List (Option (Arriving S))). first ∷ l) (set_same arrivals place arrival h)

  set_twice : (arrivals : List (Option (Arriving S))) (place : ℕ) (one other : Option (Arriving S)) →
      slice_set (slice_set arrivals place one) place other ≡ slice_set arrivals place other
  set_twice [] place one other = refl
  set_twice (first ∷ arrivals) zero one other = refl
  set_twice (first ∷ arrivals) (suc place) one other =
      ap (λ (l : List (Option (Arriving S))). first ∷ l) (set_twice arrivals place one other)

  -- a place from which nothing was taken has no bot, and stays as it is
  pub none_taken : (old new : List (Option (Arriving S))) (place places : ℕ) (found : Option (Arriving S)) →
      slice_get old place ≡ Some found → new ≡ slice_set old place None →
      IfNone found ((place < places → arrival_at old place ≡ None) × (new ≡ old))
  none_taken old new place places None there e = (λ lt. ap arrival_in there, e ∙ set_same old place None there)
  none_taken old new place places (Some arrival) there e = tt

  -- nothing changes
  pub unchanged_pending : (arrivals : List (Option (Arriving S))) (place : ℕ) →
      StaysPendingIf (arrival_at arrivals place) arrivals place arrivals
  unchanged_pending arrivals place = by (slice_get arrivals place) refl
    where
      by : (found : Option (Option (Arriving S))) → slice_get arrivals place ≡ found →
          StaysPendingIf (arrival_in found) arrivals place arrivals
      by None e = refl
      by (Some None) e = refl
      by (Some (Some arrival)) e = (arrival, same_pending arrival, sym (set_same arrivals place (Some arrival) e))

  -- a bot is taken out, looked at and put back
  pub put_back : (old mid new : List (Option (Arriving S))) (place : ℕ) (arrival later : Arriving S) →
      TakesOut old place arrival mid → StaysPending arrival later → new ≡ slice_set mid place (Some later) →
      StaysPendingIf (arrival_at old place) old place new
  put_back old mid new place arrival later out stays e =
      subst (λ (found : Option (Option (Arriving S))). StaysPendingIf (arrival_in found) old place new) (sym out.there)
      (later, stays, e ∙ ap (λ (l : List (Option (Arriving S))). slice_set l place (Some later)) out.free ∙ set_twice old place None (Some later))

  get_set : (arrivals : List (Option (Arriving S))) (place : ℕ) (before after : Option (Arriving S)) →
      slice_get arrivals place ≡ Some before → slice_get (slice_set arrivals place after) place ≡ Some after
  get_set [] place before after h = absurd (cc)
  get_set (first ∷ arrivals) zero before after h = refl
  get_set (first ∷ arrivals) (suc place) before after h = get_set arrivals place before after h

  -- the bot that is put back is there
  pub there_again : (old mid new : List (Option (Arriving S))) (place : ℕ) (arrival later : Arriving S) →
      TakesOut old place arrival mid → new ≡ slice_set mid place (Some later) → arrival_at new place ≡ Some later
  there_again old mid new place arrival later out e =
      ap (λ (l : List (Option (Arriving S))). arrival_at l place) (e
      ∙ ap (λ (l : List (Option (Arriving S))). slice_set l place (Some later)) out.free ∙ set_twice old place None (Some later))
      ∙ ap arrival_in (get_set old place (Some arrival) (Some later) out.there)

  abbrev sockets_of : ℕ → List (Option (Arriving S)) → ClosingList S → RunSockets S
  sockets_of came arrivals closing = record { came = came; arrivals = arrivals; closing = closing }

  -- the same numbers, places and closing streams
  pub same_sockets : (came other : ℕ) (arrivals others : List (Option (Arriving S))) (closing : ClosingList S) → came ≡ other →
      arrivals ≡ others → sockets_of came arrivals closing ≡ sockets_of other others closing
  same_sockets came other arrivals others closing e f =
      ap (λ (n : ℕ). sockets_of n arrivals closing) e
      ∙ ap (λ (l : List (Option (Arriving S))). sockets_of other l closing) f

  -- the next place of a list is counted
  pub counts_next : (arrivals : List (Option (Arriving S))) (i : ℕ) (item : Option (Arriving S)) (some : Bool) → i < length arrivals →
      item ≡ get_or arrivals i item → some ≡ is_some item →
      (some ≡ true → pending_connects (drop i arrivals) ≡ 1 + pending_connects (drop (i + 1) arrivals))
      × (some ≡ false → pending_connects (drop i arrivals) ≡ pending_connects (drop (i + 1) arrivals))
  counts_next arrivals i item some lt is e = by item is e
    where
      rest : suc i ≡ i + 1
      rest = omega arith

      split : (own : Option (Arriving S)) → own ≡ get_or arrivals i item →
          pending_connects (drop i arrivals) ≡ one_if_arrives own + pending_connects (drop (i + 1) arrivals)
      split own same =
          ap pending_connects (drop-cons arrivals i item lt)
          ∙ ap (λ (n : ℕ). one_if_arrives (get_or arrivals i item) + pending_connects (drop n arrivals)) rest
          ∙ ap (λ (a : Option (Arriving S)). one_if_arrives a + pending_connects (drop (i + 1) arrivals)) (sym same)

      by : (own : Option (Arriving S)) → own ≡ get_or arrivals i item → some ≡ is_some own →
          (some ≡ true → pending_connects (drop i arrivals) ≡ 1 + pending_connects (drop (i + 1) arrivals))
          × (some ≡ false → pending_connects (drop i arrivals) ≡ pending_connects (drop (i + 1) arrivals))
      by None same f = (λ yes. absurd (cc), λ no. let all = split None same in omega (arith, all))
      by (Some arrival) same f = (λ yes. let all = split (Some arrival) same in omega (arith, all), λ no. absurd (cc))

  -- one more free place
  pub none_more : (arrivals : List (Option (Arriving S))) → pending_connects arrivals ≡ 0 →
      pending_connects (arrivals ++ None ∷ []) ≡ 0
  none_more [] h = refl
  none_more (None ∷ arrivals) h = let rest = none_more arrivals (omega (arith, h)) in omega (arith, rest)
  none_more (Some arrival ∷ arrivals) h = absurd (omega (arith, h))
