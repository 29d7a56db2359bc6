-- The sessions of a run that rest: a turn without progress, the last call about a place, and the places that are not queued.
use Rattle.std.proofs.Common.{◌≡◌, ◌≢◌, ℕ, zero, suc, ◌+◌, ◌<◌, Bool, true, false, List, [], ◌∷◌, ◌++◌, Option, Some}
use Rattle.std.proofs.Common.{refl, sym, ap, ◌∙◌, subst, arith, inl, inr}
use Rattle.std.specs.Prelude.{All, if◌then◌else◌}
use Rattle.std.proofs.lemmas.Bool.{ltb-false, le-ltb, lt-ltb}
use Rattle.std.proofs.lemmas.List.Elements.{All-head, All-tail}
use Rattle.daide_io.specs.Ports.{PortCall}
use Rattle.daide_io.specs.ReadyQueue.{ReadyView, queued_places, is_same, occurrences_of, is_among, is_queued, may_join, woken, woken_all, put_back}
use Rattle.daide_io.specs.ReadyQueue.{TakesNext}
use Rattle.daide_io.specs.System.{SystemCall, is_about, last_about}
use Rattle.daide_driver.specs.declared.meter.Meter.{Meter}
use Rattle.daide_event_loop.specs.Waiting.{IsIdleSession}
use Rattle.daide_event_loop.proofs.TurnCounts.{turn_begins_none}
use Rattle.daide_event_loop.proofs.StillTurns.{still_calls, turn_still}
use Rattle.daide_driver.specs.Slab.{SlotView, IsSlotBegun, IsSlotTurned}
use Rattle.daide_event_loop.proofs.TurnCalls.{turn_made}

-- ---- a turn without progress

module _ {P : Type 0} (port_transition : P → PortCall → P → Type 0) where
  -- after it the session is idle
  pub idle_turn : (old mid new : SlotView P) → IsSlotBegun port_transition old mid → (t : IsSlotTurned port_transition mid new) →
      new.meter.moved.made_progress ≡ false → IsIdleSession port_transition new
  idle_turn old mid new begins t still =
      let turn = t.turned.exchange in
      let call = turn.call in
      let calls = still_calls call (record { made_progress = false; bytes = mid.meter.moved.bytes })
      (sym (ap (λ (m : Meter). m.moved.made_progress) t.meter) ∙ still)
      (turn_begins_none mid.session call new.session turn.session.in_order) in
      let quiet = turn_still mid.session call new.session turn.session.in_order calls.1 in
      record {
        session = mid.session;
        ports = old.ports;
        begun = mid.ports;
        turn = call;
        runs = turn.session.in_order;
        begins = begins.ports;
        evolves = turn.ports;
        made = turn_made mid.session call new.session turn.session.in_order;
        still = calls.1;
        clock = quiet.clock;
        pulled = quiet.pulled;
        offered = quiet.offered;
      }

-- ---- the last call about a place

module _ {P : Type 0} where
  pub last_then : (place : ℕ) (before : Option (SystemCall P)) (xs ys : List (SystemCall P)) →
      last_about place before (xs ++ ys) ≡ last_about place (last_about place before xs) ys
  last_then place before [] ys = refl
  last_then place before (x ∷ xs) ys = last_then place (if is_about place x then Some x else before) xs ys

  -- calls about other places change nothing of it
  abbrev pub IsElsewhere : ℕ → SystemCall P → Type 0
  IsElsewhere place call = is_about place call ≡ false

  pub last_elsewhere : (place : ℕ) (before : Option (SystemCall P)) (ys : List (SystemCall P)) → All (IsElsewhere place) ys →
      last_about place before ys ≡ before
  last_elsewhere place before [] h = refl
  last_elsewhere place before (y ∷ ys) h =
      ap (λ (b : Bool). last_about place (if b then Some y else before) ys) (All-head (IsElsewhere place) y ys h)
      ∙ last_elsewhere place before ys (All-tail (IsElsewhere place) y ys h)

-- ---- places that are not queued

occurrences_append : (place : ℕ) (xs ys : List ℕ) →
    occurrences_of place (xs ++ ys) ≡ occurrences_of place xs + occurrences_of place ys
occurrences_append place [] ys = omega arith
occurrences_append place (x ∷ xs) ys = let rest = occurrences_append place xs ys in omega (arith, rest)

pub same_place : (place : ℕ) → is_same place place ≡ 1
same_place zero = refl
same_place (suc place) = same_place place

pub other_place : (one place : ℕ) → one ≢ place → is_same one place ≡ 0
other_place zero zero apart = absurd (apart refl)
other_place zero (suc place) apart = refl
other_place (suc one) zero apart = refl
other_place (suc one) (suc place) apart = other_place one place (λ same. apart (ap suc same))

-- a place is not in the queue
abbrev pub IsAbsent : ReadyView → ℕ → Type 0
IsAbsent queue place = occurrences_of place (queued_places queue) ≡ 0

pub absent_is : (queue : ReadyView) (place : ℕ) → is_queued queue place ≡ false → IsAbsent queue place
absent_is queue place e = let few = ltb-false 0 (occurrences_of place (queued_places queue)) e in omega (arith, few)

pub is_absent : (queue : ReadyView) (place : ℕ) → IsAbsent queue place → is_queued queue place ≡ false
is_absent queue place e = le-ltb 0 (occurrences_of place (queued_places queue)) (omega (arith, e))

-- one that is absent and is a place may join
absent_joins : (queue : ReadyView) (place : ℕ) → IsAbsent queue place → place < queue.places → may_join queue place ≡ true
absent_joins queue place absent inside = rw (lt-ltb place queue.places inside, is_absent queue place absent) refl

pub woken_places : (queue : ReadyView) (place : ℕ) → (woken queue place).places ≡ queue.places
woken_places queue place = by (may_join queue place)
  where
    by : (b : Bool) → (if b then record queue { fresh = queue.fresh ++ place ∷ [] } else queue).places ≡ queue.places
    by true = refl
    by false = refl

-- whoever is absent after another place was woken was absent before; and it is not the one that was woken
pub woken_absent : (queue : ReadyView) (other place : ℕ) → IsAbsent (woken queue other) place → IsAbsent queue place
woken_absent queue other place = by (may_join queue other)
  where
    by : (b : Bool) → IsAbsent (if b then record queue { fresh = queue.fresh ++ other ∷ [] } else queue) place → IsAbsent queue place
    by true e =
        let one = occurrences_append place (queue.fresh ++ other ∷ []) queue.moving in
        let two = occurrences_append place queue.fresh (other ∷ []) in
        let three = occurrences_append place queue.fresh queue.moving in
        omega (arith, e, one, two, three)
    by false e = e

pub put_back_absent : (queue : ReadyView) (other place : ℕ) → IsAbsent (put_back queue other) place → IsAbsent queue place
put_back_absent queue other place = by (may_join queue other)
  where
    by : (b : Bool) → IsAbsent (if b then record queue { moving = queue.moving ++ other ∷ [] } else queue) place → IsAbsent queue place
    by true e =
        let one = occurrences_append place queue.fresh (queue.moving ++ other ∷ []) in
        let two = occurrences_append place queue.moving (other ∷ []) in
        let three = occurrences_append place queue.fresh queue.moving in
        omega (arith, e, one, two, three)
    by false e = e

pub woken_there : (queue : ReadyView) (place : ℕ) → place < queue.places → IsAbsent (woken queue place) place → ⊥
woken_there queue place inside absent =
    by (may_join queue place) (absent_joins queue place (woken_absent queue place place absent) inside) absent
  where
    by : (b : Bool) → b ≡ true → IsAbsent (if b then record queue { fresh = queue.fresh ++ place ∷ [] } else queue) place → ⊥
    by true e h =
        let one = occurrences_append place (queue.fresh ++ place ∷ []) queue.moving in
        let two = occurrences_append place queue.fresh (place ∷ []) in
        let same = same_place place in
        absurd (omega (arith, h, one, two, same))
    by false e h = absurd (cc)

pub put_back_there : (queue : ReadyView) (place : ℕ) → place < queue.places → IsAbsent (put_back queue place) place → ⊥
put_back_there queue place inside absent =
    by (may_join queue place) (absent_joins queue place (put_back_absent queue place place absent) inside) absent
  where
    by : (b : Bool) → b ≡ true → IsAbsent (if b then record queue { moving = queue.moving ++ place ∷ [] } else queue) place → ⊥
    by true e h =
        let one = occurrences_append place queue.fresh (queue.moving ++ place ∷ []) in
        let two = occurrences_append place queue.moving (place ∷ []) in
        let same = same_place place in
        absurd (omega (arith, h, one, two, same))
    by false e h = absurd (cc)

-- whoever is absent, and not the place that was taken out, was absent before
pub taken_absent : (fresh_first : Bool) (old : ReadyView) (other : ℕ) (new : ReadyView) (place : ℕ) → other ≢ place →
    TakesNext fresh_first old other new → IsAbsent new place → IsAbsent old place
taken_absent fresh_first old other new place apart h absent = by fresh_first h
  where
    from_fresh : old ≡ record new { fresh = other ∷ new.fresh } → IsAbsent old place
    from_fresh e =
        let none = other_place other place apart in
        ap (λ (q : ReadyView). occurrences_of place (queued_places q)) e ∙ omega (arith, none, absent)

    from_moving : old ≡ record new { moving = other ∷ new.moving } → IsAbsent old place
    from_moving e =
        let none = other_place other place apart in
        let one = occurrences_append place new.fresh (other ∷ new.moving) in
        let two = occurrences_append place new.fresh new.moving in
        ap (λ (q : ReadyView). occurrences_of place (queued_places q)) e ∙ omega (arith, none, one, two, absent)

    by : (b : Bool) → TakesNext b old other new → IsAbsent old place
    by true (inl takes) = from_fresh takes
    by true (inr takes) = from_moving takes.1
    by false (inl takes) = from_moving takes
    by false (inr takes) = from_fresh takes.1

-- whoever is absent after a poll woke some places was absent before, and is none of them
pub woken_all_absent : (places : List ℕ) (queue : ReadyView) (place : ℕ) → IsAbsent (woken_all places queue) place →
    IsAbsent queue place × (place < queue.places → is_among place places ≡ false)
woken_all_absent [] queue place h = (h, λ inside. refl)
woken_all_absent (one ∷ others) queue place h =
    let rest = woken_all_absent others (woken queue one) place h in
    let absent = woken_absent queue one place rest.0 in (
      absent,
      λ inside. (
          let apart : one ≢ place =
          λ same. woken_there queue place inside (subst (λ (n : ℕ). IsAbsent (woken queue n) place) same rest.0) in
          let none = other_place one place apart in
          let few = ltb-false 0 (occurrences_of place others) (rest.1 (subst (λ (n : ℕ). place < n) (sym (woken_places queue one)) inside)) in
          le-ltb 0 (occurrences_of place (one ∷ others)) (omega (arith, none, few))),
    )
