-- The rows of a table, the deadlines of its places, and what a poll wakes.
use Rattle.std.proofs.Common.{◌≡◌, ◌≢◌, ℕ, zero, suc, ◌+◌, ◌*◌, ◌<◌, ◌≤◌, Bool, true, false, List, [], ◌∷◌, ◌++◌, length, get_or, take}
use Rattle.std.proofs.Common.{refl, ap, sym, ◌∙◌, subst, arith, ◌==◌}
use Rattle.std.proofs.lemmas.Bool.{eqb-true, eqb-false, leb-true, leb-false, lt-leb, ltb-true, ltb-false, lt-ltb}
use Rattle.std.proofs.lemmas.Option.{slice_get-get_or, slice_get_past}
use Rattle.std.specs.Prelude.{◌/◌, if◌then◌else◌, nat_le, nat_lt, slice_get, slice_set, Option, Some, None}
use Rattle.std.specs.Time.{instant_nanos}
use Rattle.std.specs.declared.time.Instant.{Instant}
use Rattle.daide_frame.specs.declared.side.Side.{Side}
use Rattle.daide_frame.specs.declared.side.Side.TheVariants.{Bot, Server}
use Rattle.daide_io.specs.declared.network.SocketEvent.{SocketEvent}
use Rattle.daide_sockets.specs.Clock.{earlier, IsNotBefore, is_past}
use Rattle.daide_io.specs.ReadyQueue.{ReadyView, is_same, is_among, occurrences_of, woken, woken_all}
use Rattle.daide_io.proofs.ReadyLemmas.{occurrences_both, same_is_one, woken_both}
use Rattle.daide_sockets.specs.declared.table.Row.{Row}
use Rattle.daide_sockets.specs.Table.{Table, WakesPlaces, AreBounded, changed, deadline_at, deadline_in, event_places, key_of, row_at, row_or_free}
use Rattle.daide_sockets.specs.Table.{with_event, with_events}

-- ---- deadlines

-- the deadline at a position of a list
abbrev pub due_at : List (Option Instant) → ℕ → Option Instant
due_at deadlines place = deadline_in (slice_get deadlines place)

set_here : (deadlines : List (Option Instant)) (place : ℕ) → due_at (slice_set deadlines place None) place ≡ None
set_here [] zero = refl
set_here [] (suc place) = refl
set_here (due ∷ deadlines) zero = refl
set_here (due ∷ deadlines) (suc place) = set_here deadlines place

-- another element of a list is unchanged
pub get_elsewhere : {X : Type 0} (xs : List X) (at other : ℕ) (x : X) → other ≢ at →
    slice_get (slice_set xs at x) other ≡ slice_get xs other
get_elsewhere [] at other x far = refl
get_elsewhere (one ∷ xs) zero zero x far = absurd (far refl)
get_elsewhere (one ∷ xs) zero (suc other) x far = refl
get_elsewhere (one ∷ xs) (suc at) zero x far = refl
get_elsewhere (one ∷ xs) (suc at) (suc other) x far =
    get_elsewhere xs at other x (λ same. far (ap (λ (n : ℕ). suc n) same))

set_elsewhere : (deadlines : List (Option Instant)) (place other : ℕ) (due : Option Instant) → other ≢ place →
    due_at (slice_set deadlines place due) other ≡ due_at deadlines other
set_elsewhere deadlines place other due far =
    ap (λ (d : Option (Option Instant)). deadline_in d) (get_elsewhere deadlines place other due far)

-- another row is unchanged
pub row_elsewhere : (rows : List Row) (at key : ℕ) (row : Row) → key ≢ at → row_at (changed rows at row) key ≡ row_at rows key
row_elsewhere rows at key row far = ap (λ (r : Option Row). row_or_free r) (get_elsewhere rows at key row far)

past_end : (deadlines : List (Option Instant)) (place : ℕ) → length deadlines ≤ place → due_at deadlines place ≡ None
past_end deadlines place le = ap (λ (d : Option (Option Instant)). deadline_in d) (slice_get_past deadlines place le)

read_due : (deadlines : List (Option Instant)) (place : ℕ) → place < length deadlines →
    due_at deadlines place ≡ get_or deadlines place None
read_due deadlines place lt = ap (λ (d : Option (Option Instant)). deadline_in d) (slice_get-get_or deadlines place None lt)

-- ---- moments

-- a bound stays one if an earlier moment takes its place
bound_kept : (nearest due other : Option Instant) → IsNotBefore nearest other → IsNotBefore (earlier nearest due) other
bound_kept nearest due None h = tt
bound_kept None due (Some other) h = absurd h
bound_kept (Some nearest) None (Some other) h = h
bound_kept (Some nearest) (Some due) (Some other) h = by (nat_le (instant_nanos nearest) (instant_nanos due)) refl
  where
    by : (first : Bool) → nat_le (instant_nanos nearest) (instant_nanos due) ≡ first →
        IsNotBefore (if first then Some nearest else Some due) (Some other)
    by true e = h
    by false e =
        let later = leb-false (instant_nanos nearest) (instant_nanos due) e in
        omega (arith, later, h)

-- the earlier of two moments is not after the second one
bound_new : (nearest due : Option Instant) → IsNotBefore (earlier nearest due) due
bound_new nearest None = tt
bound_new None (Some due) = omega arith
bound_new (Some nearest) (Some due) = by (nat_le (instant_nanos nearest) (instant_nanos due)) refl
  where
    by : (first : Bool) → nat_le (instant_nanos nearest) (instant_nanos due) ≡ first →
        IsNotBefore (if first then Some nearest else Some due) (Some due)
    by true e = leb-true (instant_nanos nearest) (instant_nanos due) e
    by false e = omega arith

no_bound : (nearest : Option Instant) → IsNotBefore nearest None
no_bound None = tt
no_bound (Some nearest) = tt

never_past : (now : Option Instant) → is_past now None ≡ false
never_past None = refl
never_past (Some now) = refl

-- no moment is past if its bound is not
pub not_past : (now due other : Option Instant) → IsNotBefore due other → is_past now due ≡ false → is_past now other ≡ false
not_past None due other h e = refl
not_past (Some now) due None h e = refl
not_past (Some now) None (Some other) h e = absurd h
not_past (Some now) (Some due) (Some other) h e =
    let later = leb-false (instant_nanos due) (instant_nanos now) e in
    lt-leb (instant_nanos other) (instant_nanos now) (omega (arith, later, h))

-- ---- places

none_among : (place : ℕ) (places : List ℕ) → is_among place places ≡ false → occurrences_of place places ≡ 0
none_among place places e =
    let none = ltb-false 0 (occurrences_of place places) e in
    omega (arith, none)

not_among : (place : ℕ) (places : List ℕ) → occurrences_of place places ≡ 0 → is_among place places ≡ false
not_among place places e = ap (λ (n : ℕ). nat_lt 0 n) e

among : (place : ℕ) (places : List ℕ) → 0 < occurrences_of place places → is_among place places ≡ true
among place places lt = lt-ltb 0 (occurrences_of place places) lt

-- a place that is in neither of two lists
pub in_neither : (place : ℕ) (one other : List ℕ) → is_among place (one ++ other) ≡ false →
    (is_among place one ≡ false) × (is_among place other ≡ false)
in_neither place one other e =
    let none = none_among place (one ++ other) e in
    let both = occurrences_both place one other in
    (not_among place one (omega (arith, none, both)), not_among place other (omega (arith, none, both)))

pub in_first : (place : ℕ) (one other : List ℕ) → is_among place one ≡ true → is_among place (one ++ other) ≡ true
in_first place one other e =
    let some = ltb-true 0 (occurrences_of place one) e in
    among place (one ++ other) (omega (arith, some, occurrences_both place one other))

in_last : (place : ℕ) (places : List ℕ) → is_among place (places ++ place ∷ []) ≡ true
in_last place places =
    let own : occurrences_of place (place ∷ []) ≡ is_same place place + 0 = refl in
    among place (places ++ place ∷ [])
    (omega (arith, own, same_is_one place, occurrences_both place places (place ∷ [])))

-- ---- a poll

half : (place : ℕ) (side : Side) → key_of place side / 2 ≡ place
half place Bot = omega arith
half place Server = omega arith

-- a place of which no event is keeps its rows
pub row_untouched : (first place : ℕ) (side : Side) (events : List SocketEvent) (rows : List Row) → key_of place side < first →
    is_among place (event_places first events) ≡ false →
    row_at (with_events rows events) (key_of place side) ≡ row_at rows (key_of place side)
row_untouched first place side [] rows lt away = refl
row_untouched first place side (event ∷ events) rows lt away =
    by (nat_lt event.key first) refl away (row_untouched first place side events (with_event rows event) lt)
  where
    key : ℕ
    key = key_of place side

    by : (inside : Bool) → nat_lt event.key first ≡ inside →
        is_among place (if inside then event.key / 2 ∷ event_places first events else event_places first events) ≡ false →
        (is_among place (event_places first events) ≡ false →
        row_at (with_events (with_event rows event) events) key ≡ row_at (with_event rows event) key) →
        row_at (with_events (with_event rows event) events) key ≡ row_at rows key
    by true e none rest =
        let zero_of = none_among place (event.key / 2 ∷ event_places first events) none in
        let far : key ≢ event.key = λ same.
        let at : event.key / 2 ≡ place = ap (λ (n : ℕ). n / 2) (sym same) ∙ half place side in
        let own : is_same (event.key / 2) place ≡ 1 = ap (λ (n : ℕ). is_same n place) at ∙ same_is_one place in
        absurd (omega (arith, zero_of, own)) in
        rest (not_among place (event_places first events) (omega (arith, zero_of)))
        ∙ row_elsewhere rows event.key key _ far
    by false e none rest =
        let past = ltb-false event.key first e in
        let far : key ≢ event.key = λ same. absurd (omega (arith, past, lt, same)) in
        rest none ∙ row_elsewhere rows event.key key _ far

-- Those of which something was reported are woken, and none is late.
pub wakes_reported : (events : List SocketEvent) (start old : Table) → start ≡ old → AreBounded start.due start.deadlines →
    is_past start.reading start.due ≡ false → WakesPlaces events (event_places (2 * length old.deadlines) events) old old
wakes_reported events start old view bounded early =
    subst (λ (t : Table). WakesPlaces events (event_places (2 * length t.deadlines) events) t t) view (record {
      reported = λ place there. there;
      asleep = λ place away. (refl, not_past start.reading start.due (deadline_at start place) (bounded place) early);
      places = refl;
      bounded = bounded;
      same = refl;
    })

-- Those of which something was reported are woken, and then those that are late.
pub wakes_late : (events : List SocketEvent) (late : List ℕ) (start old new : Table) (was : List (Option Instant)) → start ≡ old →
    was ≡ start.deadlines → new ≡ record start { deadlines = new.deadlines; due = new.due } →
    length new.deadlines ≡ length was → AreBounded new.due new.deadlines →
    ((place : ℕ) → is_among place late ≡ false →
    (due_at new.deadlines place ≡ due_at was place) × (is_past start.reading (due_at was place) ≡ false)) →
    WakesPlaces events (event_places (2 * length old.deadlines) events ++ late) old new
wakes_late events late start old new was view value same places bounded asleep =
    subst (λ (t : Table). WakesPlaces events (event_places (2 * length t.deadlines) events ++ late) t new) view (record {
      reported = λ place there. in_first place (event_places (2 * length start.deadlines) events) late there;
      asleep = λ place away.
          let h = asleep place (in_neither place (event_places (2 * length start.deadlines) events) late away).1 in (
            h.0 ∙ ap (λ (l : List (Option Instant)). due_at l place) value,
            ap (λ (l : List (Option Instant)). is_past start.reading (due_at l place)) (sym value) ∙ h.1,
          );
      places = places ∙ ap length value;
      bounded = bounded;
      same = same;
    })

-- a list of the same length takes the place of all items
pub refilled : (now rest : List (Option Instant)) (count : ℕ) → length now ≡ count → take count (now ++ rest) ≡ now
refilled [] rest zero e = refl
refilled [] rest (suc count) e = absurd (omega (arith, e))
refilled (due ∷ now) rest zero e = absurd (omega (arith, e))
refilled (due ∷ now) rest (suc count) e = ap (λ (l : List (Option Instant)). due ∷ l) (refilled now rest count (omega (arith, e)))

-- ---- what is woken for its deadline

-- The places before this one were looked at, and those are woken of which the deadline is past.
pub record AreWoken (now : Option Instant) (place : ℕ) (start : List (Option Instant)) (queue : ReadyView)
    (deadlines : List (Option Instant)) (ready : ReadyView) (nearest : Option Instant) : Type 0 where
  pub late : List ℕ
  pub queued : ready ≡ woken_all late queue
  pub asleep : (k : ℕ) → k < place → is_among k late ≡ false →
      (due_at deadlines k ≡ due_at start k) × (is_past now (due_at start k) ≡ false)
  pub rest : (k : ℕ) → place ≤ k → due_at deadlines k ≡ due_at start k
  pub bounded : (k : ℕ) → k < place → IsNotBefore nearest (due_at deadlines k)

-- one more is late, and is woken
pub one_late : (now : Option Instant) (place : ℕ) (start deadlines : List (Option Instant)) (queue ready new : ReadyView)
    (nearest : Option Instant) → AreWoken now place start queue deadlines ready nearest → new ≡ woken ready place →
    AreWoken now (place + 1) start queue (slice_set deadlines place None) new nearest
one_late now place start deadlines queue ready new nearest h e = record {
  late = h.late ++ place ∷ [];
  queued = e ∙ ap (λ (q : ReadyView). woken q place) h.queued ∙ sym (woken_both h.late (place ∷ []) queue);
  asleep = λ k few away.
      let far : k ≢ place = λ same. differ k away same in
      let kept = h.asleep k (omega (arith, far, few)) (in_neither k h.late (place ∷ []) away).0 in
      (set_elsewhere deadlines place k None far ∙ kept.0, kept.1);
  rest = λ k le.
      let far : k ≢ place = λ same. absurd (omega (arith, same, le)) in
      set_elsewhere deadlines place k None far ∙ h.rest k (omega (arith, le));
  bounded = λ k few. by k few (k == place) refl;
}
  where
    differ : (k : ℕ) → is_among k (h.late ++ place ∷ []) ≡ false → k ≡ place → ⊥
    differ k away same =
        let there = subst (λ (n : ℕ). is_among n (h.late ++ place ∷ []) ≡ true) (sym same) (in_last place h.late) in
        absurd (cc)

    by : (k : ℕ) → k < place + 1 → (here : Bool) → (k == place) ≡ here →
        IsNotBefore nearest (due_at (slice_set deadlines place None) k)
    by k few true e =
        subst (λ (d : Option Instant). IsNotBefore nearest d)
        (sym (ap (λ (n : ℕ). due_at (slice_set deadlines place None) n) (eqb-true k place e) ∙ set_here deadlines place))
        (no_bound nearest)
    by k few false e =
        let far : k ≢ place = eqb-false k place e in
        subst (λ (d : Option Instant). IsNotBefore nearest d) (sym (set_elsewhere deadlines place k None far))
        (h.bounded k (omega (arith, far, few)))

-- one more is not late
pub one_later : (now : Option Instant) (place : ℕ) (start deadlines : List (Option Instant)) (queue ready : ReadyView)
    (nearest new : Option Instant) → AreWoken now place start queue deadlines ready nearest → place < length deadlines →
    is_past now (get_or deadlines place None) ≡ false → new ≡ earlier nearest (get_or deadlines place None) →
    AreWoken now (place + 1) start queue deadlines ready new
one_later now place start deadlines queue ready nearest new h lt early e = record {
  late = h.late;
  queued = h.queued;
  asleep = λ k few away. still k few away (k == place) refl;
  rest = λ k le. h.rest k (omega (arith, le));
  bounded = λ k few. subst (λ (n : Option Instant). IsNotBefore n (due_at deadlines k)) (sym e) (by k few (k == place) refl);
}
  where
    due : Option Instant
    due = get_or deadlines place None

    own : due_at deadlines place ≡ due
    own = read_due deadlines place lt

    first : due_at deadlines place ≡ due_at start place
    first = h.rest place (omega arith)

    still : (k : ℕ) → k < place + 1 → is_among k h.late ≡ false → (here : Bool) → (k == place) ≡ here →
        (due_at deadlines k ≡ due_at start k) × (is_past now (due_at start k) ≡ false)
    still k few away true f =
        subst (λ (n : ℕ). (due_at deadlines n ≡ due_at start n) × (is_past now (due_at start n) ≡ false)) (sym (eqb-true k place f))
        (first, ap (λ (d : Option Instant). is_past now d) (sym first ∙ own) ∙ early)
    still k few away false f = let far : k ≢ place = eqb-false k place f in h.asleep k (omega (arith, far, few)) away

    by : (k : ℕ) → k < place + 1 → (here : Bool) → (k == place) ≡ here → IsNotBefore (earlier nearest due) (due_at deadlines k)
    by k few true f =
        subst (λ (d : Option Instant). IsNotBefore (earlier nearest due) d)
        (sym (ap (λ (n : ℕ). due_at deadlines n) (eqb-true k place f) ∙ own)) (bound_new nearest due)
    by k few false f =
        let far : k ≢ place = eqb-false k place f in
        bound_kept nearest due (due_at deadlines k) (h.bounded k (omega (arith, far, few)))

-- each place was looked at
pub all_asleep : (now : Option Instant) (end : ℕ) (start deadlines : List (Option Instant)) (queue ready : ReadyView)
    (nearest : Option Instant) → (h : AreWoken now end start queue deadlines ready nearest) → length start ≤ end →
    (k : ℕ) → is_among k h.late ≡ false → (due_at deadlines k ≡ due_at start k) × (is_past now (due_at start k) ≡ false)
all_asleep now end start deadlines queue ready nearest h le k away = by (nat_lt k end) refl
  where
    by : (inside : Bool) → nat_lt k end ≡ inside → (due_at deadlines k ≡ due_at start k) × (is_past now (due_at start k) ≡ false)
    by true e = h.asleep k (ltb-true k end e) away
    by false e =
        let past = ltb-false k end e in (
          h.rest k (omega (arith, past)),
          ap (λ (d : Option Instant). is_past now d) (past_end start k (omega (arith, past, le))) ∙ never_past now,
        )

pub all_bounded : (now : Option Instant) (end : ℕ) (start deadlines : List (Option Instant)) (queue ready : ReadyView)
    (nearest : Option Instant) → AreWoken now end start queue deadlines ready nearest → length start ≤ end →
    AreBounded nearest deadlines
all_bounded now end start deadlines queue ready nearest h le = λ k. by k (nat_lt k end) refl
  where
    by : (k : ℕ) (inside : Bool) → nat_lt k end ≡ inside → IsNotBefore nearest (due_at deadlines k)
    by k true e = h.bounded k (ltb-true k end e)
    by k false e =
        let past = ltb-false k end e in
        subst (λ (d : Option Instant). IsNotBefore nearest d)
        (sym (h.rest k (omega (arith, past)) ∙ past_end start k (omega (arith, past, le)))) (no_bound nearest)
