-- The time of a poll that may block, against what it watches and the deadlines of the places.
use Rattle.std.proofs.Common.{◌≡◌, ◌≤◌, ℕ, ◌-◌, Bool, true, false, List, [], ◌∷◌, length, Option, Some, None, refl, sym, ap, ◌∙◌, subst, arith}
use Rattle.std.specs.Prelude.{◌||◌, ◌&&◌, not, nat_le, if◌then◌else◌, All}
use Rattle.std.proofs.lemmas.List.Elements.{All-nil, All-cons}
use Rattle.std.specs.Time.{instant_nanos}
use Rattle.std.specs.declared.time.Duration.{Duration}
use Rattle.std.specs.declared.time.Instant.{Instant}
use Rattle.daide_sockets.specs.Clock.{earlier, IsUntil, IsNoTime, IsAtMost, IsInTimeFor}
use Rattle.daide_sockets.specs.Table.{Table, arming, IsPollTime, IsPollTimeIf, arming_all}
use Rattle.daide_sockets.specs.PollTimes.{WaitsAreInTime}

-- a moment that is no later than another
abbrev pub IsBy : Option Instant → Instant → Type 0
IsBy None due = ⊥
IsBy (Some moment) due = instant_nanos moment ≤ instant_nanos due

pub earlier_left : (one other : Option Instant) (due : Instant) → IsBy one due → IsBy (earlier one other) due
earlier_left None other due h = absurd h
earlier_left (Some a) None due h = h
earlier_left (Some a) (Some b) due h = by (nat_le (instant_nanos a) (instant_nanos b)) refl
  where
    by : (t : Bool) → nat_le (instant_nanos a) (instant_nanos b) ≡ t → IsBy (if t then Some a else Some b) due
    by true e = h
    by false e = grind (arith, e, h)

pub earlier_right : (one other : Option Instant) (due : Instant) → IsBy other due → IsBy (earlier one other) due
earlier_right None other due h = h
earlier_right (Some a) None due h = absurd h
earlier_right (Some a) (Some b) due h = by (nat_le (instant_nanos a) (instant_nanos b)) refl
  where
    by : (t : Bool) → nat_le (instant_nanos a) (instant_nanos b) ≡ t → IsBy (if t then Some a else Some b) due
    by true e = grind (arith, e, h)
    by false e = h

or_true : (b : Bool) → (b || true) ≡ true
or_true true = refl
or_true false = refl

no_time : (time : Option Duration) (n : ℕ) → IsNoTime time → IsAtMost time n
no_time None n h = absurd h
no_time (Some time) n h = omega (arith, h)

abbrev nanos_of : Instant → Option Instant → ℕ
nanos_of d None = instant_nanos d
nanos_of d (Some moment) = instant_nanos moment

until_by : (now due : Instant) (reading moment : Option Instant) (time : Option Duration) → IsUntil reading moment time →
    reading ≡ Some now → IsBy moment due → IsAtMost time (instant_nanos due - instant_nanos now)
until_by now due None moment time h e k = absurd (cc)
until_by now due (Some read) None time h e k = absurd k
until_by now due (Some read) (Some moment) None h e k = absurd h
until_by now due (Some read) (Some moment) (Some time) h e k =
    let same : instant_nanos read ≡ instant_nanos now = ap (nanos_of now) e in
    omega (arith, h, same, k)

-- ---- what is watched

pub same_rows : (table : Table) (armed : List (Bool × Option Instant)) → (arming_all table armed).rows ≡ table.rows
same_rows table [] = refl
same_rows table (one ∷ armed) = same_rows (arming table one.0 one.1) armed

pub same_reading : (table : Table) (armed : List (Bool × Option Instant)) → (arming_all table armed).reading ≡ table.reading
same_reading table [] = refl
same_reading table (one ∷ armed) = same_reading (arming table one.0 one.1) armed

pub same_places : (table : Table) (armed : List (Bool × Option Instant)) →
    length (arming_all table armed).deadlines ≡ length table.deadlines
same_places table [] = refl
same_places table (one ∷ armed) = same_places (arming table one.0 one.1) armed

pub same_due : (table : Table) (armed : List (Bool × Option Instant)) → (arming_all table armed).due ≡ table.due
same_due table [] = refl
same_due table (one ∷ armed) = same_due (arming table one.0 one.1) armed

-- what a poll is to watch stays watched
pub due_keeps : (table : Table) (armed : List (Bool × Option Instant)) (due : Instant) → IsBy table.armed_due due →
    IsBy (arming_all table armed).armed_due due
due_keeps table [] due h = h
due_keeps table (one ∷ armed) due h =
    due_keeps (arming table one.0 one.1) armed due (earlier_left table.armed_due one.1 due h)

pub work_stays : (table : Table) (armed : List (Bool × Option Instant)) → table.armed_work ≡ true →
    (arming_all table armed).armed_work ≡ true
work_stays table [] h = h
work_stays table (one ∷ armed) h =
    work_stays (arming table one.0 one.1) armed (ap (λ (b : Bool). b || one.0) h)

-- a poll that watches something with work takes no time
pub at_once : (table : Table) (time : Option Duration) → IsPollTime true table time → table.armed_work ≡ true → IsNoTime time
at_once table time lasts h = subst (λ (b : Bool). IsPollTimeIf b table time) (ap (λ (b : Bool). true && not b) h) lasts

-- a poll ends by the nearest deadline, of a place or of what is watched
pub by_due : (table : Table) (time : Option Duration) (now due : Instant) → table.reading ≡ Some now →
    IsPollTime true table time → IsBy (earlier table.due table.armed_due) due →
    IsAtMost time (instant_nanos due - instant_nanos now)
by_due table time now due read lasts h = by (true && not table.armed_work) lasts
  where
    by : (blocks : Bool) → IsPollTimeIf blocks table time → IsAtMost time (instant_nanos due - instant_nanos now)
    by false k = no_time time (instant_nanos due - instant_nanos now) k
    by true k = until_by now due table.reading (earlier table.due table.armed_due) time k read h

-- a poll that watches these, and then others
pub each_in_time_beside : (table : Table) (armed others : List (Bool × Option Instant)) (time : Option Duration) →
    IsPollTime true (arming_all (arming_all table armed) others) time →
    All (λ (one : Bool × Option Instant). IsInTimeFor table.reading time one.0 one.1) armed
each_in_time_beside table [] others time lasts =
    All-nil (λ (one : Bool × Option Instant). IsInTimeFor table.reading time one.0 one.1)
each_in_time_beside table (one ∷ armed) others time lasts =
    All-cons (λ (other : Bool × Option Instant). IsInTimeFor table.reading time other.0 other.1) one armed own
    (each_in_time_beside next armed others time lasts)
  where
    next : Table
    next = arming table one.0 one.1

    all : Table
    all = arming_all next armed

    last : Table
    last = arming_all all others

    own : IsInTimeFor table.reading time one.0 one.1
    own = record {
      deadline = λ now due read e.
          by_due last time now due (same_reading all others ∙ same_reading next armed ∙ read) lasts
          (earlier_right last.due last.armed_due due
          (due_keeps all others due (due_keeps next armed due (earlier_right table.armed_due one.1 due
          (subst (λ (m : Option Instant). IsBy m due) (sym e) (omega arith))))));
      work = λ e. at_once last time lasts
          (work_stays all others
          (work_stays next armed (ap (λ (b : Bool). table.armed_work || b) e ∙ or_true table.armed_work)));
    }

pub each_in_time : (table : Table) (armed : List (Bool × Option Instant)) (time : Option Duration) →
    IsPollTime true (arming_all table armed) time →
    All (λ (one : Bool × Option Instant). IsInTimeFor table.reading time one.0 one.1) armed
each_in_time table armed time lasts = each_in_time_beside table armed [] time lasts

-- a poll ends by the deadlines of the places
pub places_in_time : (table : Table) (armed : List (Bool × Option Instant)) (time : Option Duration) →
    IsPollTime true (arming_all table armed) time → IsInTimeFor table.reading time false table.due
places_in_time table armed time lasts = record {
  deadline = λ now due read e.
      by_due (arming_all table armed) time now due (same_reading table armed ∙ read) lasts
      (earlier_left (arming_all table armed).due (arming_all table armed).armed_due due
      (subst (λ (m : Option Instant). IsBy m due) (sym (same_due table armed ∙ e)) (omega arith)));
  work = λ e. absurd (cc);
}

pub waits_in_time : WaitsAreInTime
waits_in_time table armed time lasts = (each_in_time table armed time lasts, places_in_time table armed time lasts)
