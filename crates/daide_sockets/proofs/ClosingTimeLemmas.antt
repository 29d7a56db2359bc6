-- The deadlines of a closing stream, as it is advanced, and along the calls of a run.
use Rattle.std.proofs.Common.{◌≡◌, ◌⊎◌, ℕ, suc, ◌+◌, ◌-◌, ◌<◌, ◌≤◌, Bool, true, false, List, [], ◌∷◌, ◌++◌, length, refl, sym, ap, ◌∙◌, subst, arith}
use Rattle.std.proofs.Common.{inl, inr, ⊎_elim, Option, Some, None}
use Rattle.std.specs.Prelude.{◌||◌, ◌&&◌, not, max, nat_lt, nat_le, nat_eq, if◌then◌else◌, remove, All, Contains}
use Rattle.std.specs.Duration.{as_nanos}
use Rattle.std.specs.Time.{instant_nanos, FitsClock}
use Rattle.std.specs.declared.time.Duration.{Duration}
use Rattle.std.specs.declared.time.Instant.{Instant}
use Rattle.std.proofs.lemmas.Bool.{ltb-true, ltb-false}
use Rattle.std.proofs.lemmas.List.Elements.{All-nil, All-cons, All-head, All-tail, All-same, All-append, All-push, All-weaker}
use Rattle.daide_buffered_io.specs.Buffers.{Buffer, with_stream}
use Rattle.daide_buffered_io.specs.declared.readiness.Readiness.{Readiness}
use Rattle.daide_buffered_io.specs.Calls.{is_last_piece}
use Rattle.daide_io.specs.Streams.{StreamCall}
use Rattle.daide_io.specs.System.{SystemCall, Polls, Shows, Accepts, Connects, BeginsTurn, Rests, Retires, Notifies, TransitsBy}
use Rattle.daide_io.specs.declared.system.Connect.TheVariants.{Ready, Failed, Pending}
use Rattle.daide_sockets.specs.PollTimes.{closing_due, stage_due}
use Rattle.daide_sockets.specs.ClosingTime.{IsReadingFor, ReadingsGoOn, LingersBy, takes_byte, overdue_looks, ClosesSince, IsClosingInTime}
use Rattle.daide_sockets.specs.ClosingTime.{IsWithinBound, bound_of, readings_of}
use Rattle.daide_sockets.specs.ClosingTime.{ClosingSocketsLeave}
use Rattle.daide_sockets.specs.Lingering.{ClosingStream, ClosingList, IsWriting, IsWritingOver, WritesOut, Lingers, AdvancesOn}
use Rattle.daide_sockets.specs.Lingering.{IsClosingBound, TriesLast}
use Rattle.daide_sockets.specs.Lingering.{begins_closing, with_report, end_time, IsLookedAt, LooksAtEach, LooksAround, in_pass}
use Rattle.daide_sockets.specs.Pairing.{Paired, ClosesAt, with_room}
use Rattle.daide_sockets.specs.Scheduling.{RunState, ClosesByClock}
use Rattle.daide_sockets.specs.Sockets.{is_some_byte}
use Rattle.daide_sockets.specs.Clock.{earlier, IsAfter, IsStallEnd, StallsNext, has_stalled, is_past, is_time_over}

pub later_contains : {A : Type 0} (first : A) (rest : List A) (one : A) → Contains rest one → Contains (first ∷ rest) one
later_contains first rest one c = let inside = c.1 in (suc c.0, omega (arith, inside), c.2)

-- ---- whether a stream is being written

abbrev is_written_on : {S : Type 0} → Buffer S → Bool
is_written_on stream = is_some_byte stream.write_buffer && not stream.has_failed

writing_by : (held : List ℕ) (failed : Bool) → failed ≡ false → 0 < length held → (is_some_byte held && not failed) ≡ true
writing_by [] failed e some = absurd (omega (arith, some))
writing_by (byte ∷ held) failed e some = ap (λ (f : Bool). true && not f) e

over_by : (held : List ℕ) (failed : Bool) → (failed ≡ false → held ≡ []) → (is_some_byte held && not failed) ≡ false
over_by [] failed h = refl
over_by (byte ∷ held) true h = refl
over_by (byte ∷ held) false h = let none = h refl in absurd (cc)

module _ {S : Type 0} where
  is_writing : (stream : Buffer S) → IsWriting stream → is_written_on stream ≡ true
  is_writing stream h = writing_by stream.write_buffer stream.has_failed h.0 h.1

  is_over : (stream : Buffer S) → IsWritingOver stream → is_written_on stream ≡ false
  is_over stream h = over_by stream.write_buffer stream.has_failed h

  never_both : (stream : Buffer S) → IsWriting stream → IsWritingOver stream → ⊥
  never_both stream h over = let none = ap length (over h.0) in let some = h.1 in absurd (omega (arith, none, some))

  due_writing : (closing : ClosingStream S) → IsWriting closing.stream → stage_due closing ≡ closing.stalls_at
  due_writing closing h =
      ap (λ (b : Bool). if b then closing.stalls_at else closing.released_at) (is_writing closing.stream h)

  due_over : (closing : ClosingStream S) → IsWritingOver closing.stream → stage_due closing ≡ closing.released_at
  due_over closing h =
      ap (λ (b : Bool). if b then closing.stalls_at else closing.released_at) (is_over closing.stream h)

  -- 1 while its writing is not over
  abbrev left : ClosingStream S → ℕ
  left closing = if is_written_on closing.stream then 1 else 0

  left_most : (closing : ClosingStream S) → left closing ≤ 1
  left_most closing = by (is_written_on closing.stream)
    where
      by : (b : Bool) → (if b then 1 else 0) ≤ 1
      by true = omega arith
      by false = omega arith

  left_writing : (closing : ClosingStream S) → IsWriting closing.stream → left closing ≡ 1
  left_writing closing h = ap (λ (b : Bool). if b then 1 else 0) (is_writing closing.stream h)

  left_over : (closing : ClosingStream S) → IsWritingOver closing.stream → left closing ≡ 0
  left_over closing h = ap (λ (b : Bool). if b then 1 else 0) (is_over closing.stream h)

-- ---- moments

abbrev nanos_or : ℕ → Option Instant → ℕ
nanos_or d None = d
nanos_or d (Some moment) = instant_nanos moment

after_there : (now : Instant) (time : ℕ) (moment : Option Instant) → FitsClock (instant_nanos now + time) →
    IsAfter (Some now) time moment → (at : Instant) × (moment ≡ Some at) × (instant_nanos at ≡ instant_nanos now + time)
after_there now time None fits h = absurd (h fits)
after_there now time (Some at) fits h = (at, refl, h)

not_over_yet : (now moment : Option Instant) → is_time_over now moment ≡ false → is_past now moment ≡ false
not_over_yet now None e = absurd (cc)
not_over_yet now (Some moment) e = e

second_false : (a b : Bool) → (a || b) ≡ false → b ≡ false
second_false false b e = e
second_false true b e = absurd (cc)

-- a bound that is not past leaves the deadline of the stage
not_past_bound : (now stage bound : Option Instant) → is_past now bound ≡ false →
    is_past now (earlier stage bound) ≡ is_past now stage
not_past_bound None stage bound e = refl
not_past_bound (Some now) None bound e = e
not_past_bound (Some now) (Some stage) None e = refl
not_past_bound (Some now) (Some stage) (Some bound) e = by (nat_le (instant_nanos stage) (instant_nanos bound)) refl
  where
    by : (t : Bool) → nat_le (instant_nanos stage) (instant_nanos bound) ≡ t →
        is_past (Some now) (if t then Some stage else Some bound) ≡ is_past (Some now) (Some stage)
    by true n = refl
    by false n = grind (arith, n, e)

-- a moment that is not past at a reading is after it
not_past_yet : (now bound : Instant) → is_past (Some now) (Some bound) ≡ false → instant_nanos now < instant_nanos bound
not_past_yet now bound e = grind (arith, e)

-- a moment that is at most this long after a reading
abbrev IsThereBy : Option Instant → ℕ → Type 0
IsThereBy moment most = (at : Instant) × (moment ≡ Some at) × (instant_nanos at ≤ most)

-- the earlier of two moments is there by the time of either
first_there : (one other : Option Instant) (most : ℕ) → IsThereBy one most → IsThereBy (earlier one other) most
first_there None other most h = absurd (cc)
first_there (Some a) None most h = h
first_there (Some a) (Some b) most h = by (nat_le (instant_nanos a) (instant_nanos b)) refl
  where
    exact : instant_nanos a ≤ most
    exact = subst (λ (o : Option Instant). nanos_or most o ≤ most) (sym h.1) h.2

    by : (t : Bool) → nat_le (instant_nanos a) (instant_nanos b) ≡ t → IsThereBy (if t then Some a else Some b) most
    by true e = (a, refl, exact)
    by false e = (b, refl, grind (arith, e, exact))

second_there : (one other : Option Instant) (most : ℕ) → IsThereBy other most → IsThereBy (earlier one other) most
second_there None other most h = h
second_there (Some a) None most h = absurd (cc)
second_there (Some a) (Some b) most h = by (nat_le (instant_nanos a) (instant_nanos b)) refl
  where
    exact : instant_nanos b ≤ most
    exact = subst (λ (o : Option Instant). nanos_or most o ≤ most) (sym h.1) h.2

    by : (t : Bool) → nat_le (instant_nanos a) (instant_nanos b) ≡ t → IsThereBy (if t then Some a else Some b) most
    by true e = (a, refl, grind (arith, e, exact))
    by false e = (b, refl, exact)

stall_there : (stall : Duration) (reading : Option Instant) (last : Instant) (moment : Option Instant) →
    IsReadingFor stall reading last → IsStallEnd reading (Some stall) moment →
    IsThereBy moment (instant_nanos last + as_nanos stall)
stall_there stall reading last moment r h =
    let at = after_there last (as_nanos stall) moment r.stall_fits
    (subst (λ (o : Option Instant). IsStallEnd o (Some stall) moment) r.read h) in
    let exact = at.2 in
    (at.0, at.1, omega (arith, exact))

end_there : (stall : Duration) (reading : Option Instant) (last : Instant) (moment : Option Instant) →
    IsReadingFor stall reading last → IsAfter reading end_time moment →
    IsThereBy moment (instant_nanos last + end_time)
end_there stall reading last moment r h =
    let at = after_there last end_time moment r.end_fits
    (subst (λ (o : Option Instant). IsAfter o end_time moment) r.read h) in
    let exact = at.2 in
    (at.0, at.1, omega (arith, exact))

next_there : (stall : Duration) (reading : Option Instant) (last : Instant) (before : Option Instant) (took : Bool)
    (after : Option Instant) → IsReadingFor stall reading last →
    ((moment : Instant) → before ≡ Some moment → instant_nanos moment ≤ instant_nanos last + as_nanos stall) →
    StallsNext (Some stall) reading before took after → IsThereBy after (instant_nanos last + as_nanos stall)
next_there stall reading last None took after r early h = stall_there stall reading last after r h
next_there stall reading last (Some moment) true after r early h = stall_there stall reading last after r h
next_there stall reading last (Some moment) false after r early h = (moment, h, early moment refl)

-- ---- one step

module _ {S : Type 0} (to_give taken : S → Option (List ℕ)) (calls : S → Option (List StreamCall)) (stall : Duration) where
  -- while it is written, its peer has the stall timeout
  abbrev IsSet : ClosingStream S → Type 0
  IsSet closing = IsWriting closing.stream → closing.stall_time ≡ Some stall

  -- its deadline, at most so long after it was advanced last
  abbrev IsDue : Instant → ClosingStream S → Type 0
  IsDue last closing = (IsWriting closing.stream × IsThereBy closing.stalls_at (instant_nanos last + as_nanos stall))
      ⊎ (IsWritingOver closing.stream × IsThereBy closing.released_at (instant_nanos last + end_time))

  writes_set : (now : Option Instant) (old new : ClosingStream S) → WritesOut to_give taken calls now old new →
      old.stall_time ≡ Some stall → IsSet new
  writes_set now old new w set h = w.stall_time ∙ w.tries.stall_time ∙ set

  writes_due : (now : Option Instant) (last : Instant) (old new : ClosingStream S) →
      WritesOut to_give taken calls now old new → old.stall_time ≡ Some stall → IsReadingFor stall now last →
      ((moment : Instant) → old.stalls_at ≡ Some moment → instant_nanos moment ≤ instant_nanos last + as_nanos stall) →
      IsDue last new
  writes_due now last old new w set r early = ⊎_elim
      (λ (h : IsWriting new.stream × (new.released_at ≡ old.released_at)).
      let tried : IsWriting w.tried.stream =
      (sym w.failed ∙ h.0.0, subst (λ (l : List ℕ). 0 < length l) w.write_buffer h.0.1) in
      let took = nat_lt (length w.tried.stream.write_buffer) (length old.stream.write_buffer) in
      let at = next_there stall now last old.stalls_at took w.tried.stalls_at r early
      (subst (λ (t : Option Duration). StallsNext t now old.stalls_at took w.tried.stalls_at) set (w.tries.waits tried)) in
      inl (h.0, (at.0, w.stalls_at ∙ at.1, at.2)))
      (λ (h : IsWritingOver new.stream × IsAfter now end_time new.released_at).
      inr (h.0, end_there stall now last new.released_at r h.1)) w.stage

  -- a peer that took no byte of the last try is given up
  given_up : (known still : Readiness) (old new : Buffer S) → TriesLast calls known old still new →
      length old.write_buffer ≤ length new.write_buffer → new.has_failed ≡ true
  given_up known still old new last none = by (nat_lt (length last.tried.write_buffer) (length old.write_buffer)) refl
    where
      by : (took : Bool) → nat_lt (length last.tried.write_buffer) (length old.write_buffer) ≡ took → new.has_failed ≡ true
      by true e =
          let less = ltb-true (length last.tried.write_buffer) (length old.write_buffer) e in
          let same = ap (λ (s : Buffer S). length s.write_buffer) (last.takes less) in
          absurd (omega (arith, less, same, none))
      by false e = ap (λ (s : Buffer S). s.has_failed) (last.gives_up (ltb-false (length last.tried.write_buffer) (length old.write_buffer) e))

  -- A stream that was advanced at or past its deadline while its peer took no byte, and stays, is not written any more.
  -- Before it was.
  step_left : (now : Option Instant) (old new : ClosingStream S) → Lingers to_give taken calls now old new → IsSet old →
      (if is_past now (closing_due old) && not (takes_byte old new) then 1 else 0) + left new ≤ left old
  step_left now old new step set =
      let same : is_past now (closing_due old) ≡ is_past now (stage_due old) =
      not_past_bound now (stage_due old) old.closes_at step.1.0 in
      let most = by (is_past now (stage_due old)) refl step.1.1 in
      let counted = ap count same in
      omega (arith, most, counted)
    where
      count : Bool → ℕ
      count past = if past && not (takes_byte old new) then 1 else 0

      by : (past : Bool) → is_past now (stage_due old) ≡ past →
          AdvancesOn to_give taken calls now (with_report step.0 old) new → count (is_past now (stage_due old)) + left new ≤ left old
      by past e (inr h) =
          let pull = h.0 in
          let over = h.1 in
          let dropped = h.2 in
          let none = left_over old over in
          let still : IsWritingOver new.stream =
          λ fine. dropped.unwritten.write_buffer ∙ over (sym dropped.failed ∙ fine) in
          let after = left_over new still in
          let late : is_time_over now new.released_at ≡ false = second_false (is_last_piece pull new.quota) (is_time_over now new.released_at) h.3 in
          let early : is_past now (stage_due old) ≡ false =
          ap (λ (m : Option Instant). is_past now m) (due_over old over ∙ sym dropped.released_at)
          ∙ not_over_yet now new.released_at late in
          let zero : count (is_past now (stage_due old)) ≡ 0 = ap count early in
          omega (arith, none, after, zero)
      by false e (inl h) =
          let zero : count (is_past now (stage_due old)) ≡ 0 = ap count e in
          let most = left_most new in
          let one = left_writing old h.0 in
          omega (arith, zero, most, one)
      by true e (inl h) = took (takes_byte old new) refl
        where
          one : left old ≡ 1
          one = left_writing old h.0

          took : (took : Bool) → takes_byte old new ≡ took → count (is_past now (stage_due old)) + left new ≤ left old
          took true t =
              let zero : count (is_past now (stage_due old)) ≡ 0 = ap count e ∙ ap (λ (b : Bool). if true && not b then 1 else 0) t in
              let most = left_most new in
              omega (arith, zero, most, one)
          took false t =
              let w = h.1 in
              let stalled : has_stalled old.stall_time now old.stalls_at ≡ true =
              ap (λ (t : Option Duration). has_stalled t now old.stalls_at) (set h.0)
              ∙ ap (λ (m : Option Instant). is_past now m) (sym (due_writing old h.0)) ∙ e in
              let same = ap length w.write_buffer in
              let none = ltb-false (length new.stream.write_buffer) (length old.stream.write_buffer) t in
              let gone : new.stream.has_failed ≡ true =
              w.failed ∙ given_up (with_report step.0 old).known w.tried.known old.stream w.tried.stream (w.tries.last stalled)
              (omega (arith, same, none)) in
              let after = left_over new (λ fine. absurd (cc)) in
              let whole : count (is_past now (stage_due old)) ≡ 1 = ap count e ∙ ap (λ (b : Bool). if true && not b then 1 else 0) t in
              omega (arith, after, one, whole)

  step_set : (now : Option Instant) (old new : ClosingStream S) → Lingers to_give taken calls now old new → IsSet old →
      IsSet new
  step_set now old new step set = by step.1.1
    where
      by : AdvancesOn to_give taken calls now (with_report step.0 old) new → IsSet new
      by (inl h) = writes_set now (with_report step.0 old) new h.1 (set h.0)
      by (inr h) = λ writing. absurd (never_both new.stream writing
          (λ fine. h.2.unwritten.write_buffer ∙ h.1 (sym h.2.failed ∙ fine)))

  step_due : (now : Option Instant) (before last : Instant) (old new : ClosingStream S) →
      Lingers to_give taken calls now old new → IsSet old → IsReadingFor stall now last →
      instant_nanos before ≤ instant_nanos last → IsDue before old → IsDue last new
  step_due now before last old new step set r order due = by step.1.1
    where
      early : IsWriting old.stream → (moment : Instant) → old.stalls_at ≡ Some moment →
          instant_nanos moment ≤ instant_nanos last + as_nanos stall
      early writing moment is = ⊎_elim
          (λ (d : IsWriting old.stream × IsThereBy old.stalls_at (instant_nanos before + as_nanos stall)).
          let there = d.1 in
          let one : moment ≡ there.0 = same moment there.0 old.stalls_at is there.1 in
          let nanos = ap instant_nanos one in
          let most = there.2 in
          omega (arith, nanos, most, order))
          (λ (d : IsWritingOver old.stream × IsThereBy old.released_at (instant_nanos before + end_time)).
          absurd (never_both old.stream writing d.0)) due
        where
          same : (a b : Instant) (m : Option Instant) → m ≡ Some a → m ≡ Some b → a ≡ b
          same a b m e f = cc

      by : AdvancesOn to_give taken calls now (with_report step.0 old) new → IsDue last new
      by (inl h) = writes_due now last (with_report step.0 old) new h.1 (set h.0) r (early h.0)
      by (inr h) =
          let still : IsWritingOver new.stream = λ fine. h.2.unwritten.write_buffer ∙ h.1 (sym h.2.failed ∙ fine) in
          ⊎_elim
          (λ (d : IsWriting old.stream × IsThereBy old.stalls_at (instant_nanos before + as_nanos stall)).
          absurd (never_both old.stream d.0 h.1))
          (λ (d : IsWritingOver old.stream × IsThereBy old.released_at (instant_nanos before + end_time)).
          let there = d.1 in
          let most = there.2 in
          inr (still, (there.0, h.2.released_at ∙ there.1, omega (arith, most, order)))) due

  -- ---- step by step

  since_set : (readings : List (Option Instant)) (first new : ClosingStream S) →
      LingersBy to_give taken calls readings first new → IsSet first → IsSet new
  since_set [] first new h set = subst IsSet (sym h) set
  since_set (now ∷ readings) first new h set =
      step_set now h.0 new h.2 (since_set readings first h.0 h.1 set)

  since_left : (readings : List (Option Instant)) (first new : ClosingStream S) →
      (h : LingersBy to_give taken calls readings first new) → IsSet first →
      overdue_looks to_give taken calls readings first new h + left new ≤ left first
  since_left [] first new h set = let same = ap left h in omega (arith, same)
  since_left (now ∷ readings) first new h set =
      let rest = since_left readings first h.0 h.1 set in
      let own = step_left now h.0 new h.2 (since_set readings first h.0 h.1 set) in
      omega (arith, rest, own)

  since_due : (start : Option Instant) (readings : List (Option Instant)) (last : Instant) (first new : ClosingStream S) →
      LingersBy to_give taken calls readings first new → IsSet first → ReadingsGoOn stall start readings last →
      ((at : Instant) → IsReadingFor stall start at → IsDue at first) → IsDue last new
  since_due start [] last first new h set clock begun = subst (IsDue last) (sym h) (begun last clock)
  since_due start (now ∷ readings) last first new h set clock begun =
      step_due now clock.0 last h.0 new h.2 (since_set readings first h.0 h.1 set) clock.2 clock.3
      (since_due start readings clock.0 first h.0 h.1 set clock.1 begun)

  -- a stream that closes by the readings of a clock
  abbrev pub Since : List (Option Instant) → ClosingStream S → Type 0
  Since clock closing = (since : ClosesSince to_give taken calls (Some stall) closing)
      × All (λ reading. Contains clock reading) (since.start ∷ since.readings)

  -- its bound never changes
  step_bound : (now : Option Instant) (old new : ClosingStream S) → Lingers to_give taken calls now old new →
      new.closes_at ≡ old.closes_at
  step_bound now old new step = by step.1.1
    where
      by : AdvancesOn to_give taken calls now (with_report step.0 old) new → new.closes_at ≡ old.closes_at
      by (inl h) = h.1.closes_at
      by (inr h) = h.2.closes_at

  since_bound : (readings : List (Option Instant)) (first new : ClosingStream S) →
      LingersBy to_give taken calls readings first new → new.closes_at ≡ first.closes_at
  since_bound [] first new h = ap (λ (c : ClosingStream S). c.closes_at) h
  since_bound (now ∷ readings) first new h = step_bound now h.0 new h.2 ∙ since_bound readings first h.0 h.1

  -- so it is not past at any reading at which the stream was advanced
  since_before : (bound : Instant) (most : ℕ) → instant_nanos bound ≡ most → (readings : List (Option Instant))
      (first new : ClosingStream S) → LingersBy to_give taken calls readings first new → first.closes_at ≡ Some bound →
      All (λ reading. (now : Instant) → reading ≡ Some now → instant_nanos now < most) readings
  since_before bound most exact [] first new h is =
      All-nil (λ (reading : Option Instant). (now : Instant) → reading ≡ Some now → instant_nanos now < most)
  since_before bound most exact (last ∷ readings) first new h is =
      All-cons (λ (reading : Option Instant). (now : Instant) → reading ≡ Some now → instant_nanos now < most) last readings
      own (since_before bound most exact readings first h.0 h.1 is)
    where
      own : (now : Instant) → last ≡ Some now → instant_nanos now < most
      own now e =
          let moment : h.0.closes_at ≡ Some bound = since_bound readings first h.0 h.1 ∙ is in
          let late : is_past (Some now) (Some bound) ≡ false =
          subst (λ (m : Option Instant). is_past (Some now) m ≡ false) moment
          (subst (λ (r : Option Instant). is_past r h.0.closes_at ≡ false) e h.2.1.0) in
          let yet = not_past_yet now bound late in
          omega (arith, yet, exact)

  pub in_time : (clock : List (Option Instant)) (closing : ClosingStream S) → Since clock closing →
      IsClosingInTime to_give taken calls stall clock closing
  in_time clock closing own =
      record { since = since; by_clock = own.1; overdue = few; deadline = deadline; bound = within }
    where
      since : ClosesSince to_give taken calls (Some stall) closing
      since = own.0

      set : IsSet since.first
      set = writes_set since.start (begins_closing (Some stall) since.bound since.key since.known since.stream) since.first since.begins refl

      few : overdue_looks to_give taken calls since.readings since.first closing since.looks ≤ 1
      few =
          let most = left_most since.first in
          let all = since_left since.readings since.first closing since.looks set in
          omega (arith, most, all)

      begun : (at : Instant) → IsReadingFor stall since.start at → IsDue at since.first
      begun at r =
          writes_due since.start at (begins_closing (Some stall) since.bound since.key since.known since.stream) since.first since.begins refl r
          (λ moment e. absurd (cc))

      deadline : (last : Instant) → ReadingsGoOn stall since.start since.readings last → (due : Instant)
          × (closing_due closing ≡ Some due) × (instant_nanos due ≤ instant_nanos last + max (as_nanos stall) end_time)
      deadline last clock = first_there (stage_due closing) closing.closes_at (instant_nanos last + max (as_nanos stall) end_time)
          (⊎_elim
          (λ (d : IsWriting closing.stream × IsThereBy closing.stalls_at (instant_nanos last + as_nanos stall)).
          let most = d.1.2 in (d.1.0, due_writing closing d.0 ∙ d.1.1, omega (arith, most)))
          (λ (d : IsWritingOver closing.stream × IsThereBy closing.released_at (instant_nanos last + end_time)).
          let most = d.1.2 in (d.1.0, due_over closing d.0 ∙ d.1.1, omega (arith, most)))
          (since_due since.start since.readings last since.first closing since.looks set clock begun))

      within : (begun : Instant) → since.start ≡ Some begun → FitsClock (bound_of stall begun) →
          IsWithinBound to_give taken calls stall begun since.readings closing
      within begun is fits =
          let there = after_there begun (as_nanos stall + end_time) since.bound fits
          (subst (λ (o : Option Instant). IsAfter o (as_nanos stall + end_time) since.bound) is since.bounded) in
          let exact = there.2 in
          let first = since.begins.closes_at ∙ there.1 in
          record {
            before = since_before there.0 (bound_of stall begun) exact since.readings since.first closing since.looks first;
            due = second_there (stage_due closing) closing.closes_at (bound_of stall begun) (
              there.0,
              since_bound since.readings since.first closing since.looks ∙ first,
              omega (arith, exact),
            );
          }

  -- ---- along the calls of a run

  module _ (clock : List (Option Instant)) where
    abbrev Own : ClosingStream S → Type 0
    Own = Since clock

    -- each closing stream has begun so, and so will each further one
    abbrev pub AllSince : ClosingList S → Type 0
    AllSince list = All Own list.streams × (list.stall_time ≡ Some stall)

    one_more : (now : Option Instant) (old new : ClosingStream S) → Contains clock now →
        Lingers to_give taken calls now old new → Own old → Own new
    one_more now old new there step own =
        let since = own.0 in
        let In : Option Instant → Type 0 = λ reading. Contains clock reading in (
          record {
            start = since.start;
            key = since.key;
            known = since.known;
            stream = since.stream;
            first = since.first;
            bound = since.bound;
            bounded = since.bounded;
            begins = since.begins;
            readings = now ∷ since.readings;
            looks = (old, since.looks, step);
          },
          All-cons In since.start (now ∷ since.readings) (All-head In since.start since.readings own.1)
              (All-cons In now since.readings there (All-tail In since.start since.readings own.1)),
        )

    each_since : (now : Option Instant) (seen moved : List (ClosingStream S)) → Contains clock now →
        LooksAtEach to_give taken calls now seen moved → All Own seen → All Own moved
    each_since now [] moved there h all = All-same Own moved [] h all
    each_since now (stream ∷ seen) moved there h all = by (each_since now seen h.0 there h.1 (All-tail Own stream seen all)) h.2
      where
        by : All Own h.0 → IsLookedAt to_give taken calls now stream h.0 moved → All Own moved
        by rest (inl stays) = All-same Own moved (stays.0 ∷ h.0) stays.1
            (All-cons Own stays.0 h.0 (one_more now stream stays.0 there stays.2 (All-head Own stream seen all)) rest)
        by rest (inr leaves) = All-same Own moved h.0 leaves.0 rest

    front_part : (xs ys : List (ClosingStream S)) → All Own (xs ++ ys) → All Own xs
    front_part [] ys all = All-nil Own
    front_part (x ∷ xs) ys all =
        All-cons Own x xs (All-head Own x (xs ++ ys) all) (front_part xs ys (All-tail Own x (xs ++ ys) all))

    back_part : (xs ys : List (ClosingStream S)) → All Own (xs ++ ys) → All Own ys
    back_part [] ys all = all
    back_part (x ∷ xs) ys all = back_part xs ys (All-tail Own x (xs ++ ys) all)

    pass_since : (old : ClosingList S) → AllSince old → AllSince (in_pass old)
    pass_since old all = by (nat_eq old.next old.pass_end)
      where
        by : (b : Bool) → AllSince (if b then record old { next = 0; pass_end = length old.streams } else old)
        by true = all
        by false = all

    pub round_since : (now : Option Instant) (old new : ClosingList S) → Contains clock now →
        LooksAround to_give taken calls now (in_pass old) new → AllSince old → AllSince new
    round_since now old new there h all =
        let pass = pass_since old all in
        let looked = h.looked in
        let parts = All-same Own (looked.front ++ looked.seen ++ looked.rest) (in_pass old).streams (sym looked.before) pass.0 in
        let first = front_part (looked.front ++ looked.seen) looked.rest parts in (
          All-same Own new.streams (looked.front ++ looked.moved ++ looked.rest) looked.after
              (All-append Own (looked.front ++ looked.moved) looked.rest
              (All-append Own looked.front looked.moved (front_part looked.front looked.seen first)
              (each_since now looked.seen looked.moved there looked.looked (back_part looked.front looked.seen first)))
              (back_part (looked.front ++ looked.seen) looked.rest parts)),
          h.stall_time ∙ pass.1,
        )

    without_first : (xs : List (ClosingStream S)) → All Own xs → All Own (remove xs 0)
    without_first [] all = all
    without_first (x ∷ xs) all = All-tail Own x xs all

    room_since : (old : ClosingList S) → AllSince old → AllSince (with_room old)
    room_since old all = by (nat_lt (length old.streams) 256)
      where
        by : (b : Bool) → AllSince (if b then old
            else record old { streams = remove old.streams 0; next = old.next - 1; pass_end = old.pass_end - 1 })
        by true = all
        by false = (without_first old.streams all.0, all.1)

    closes_since : (reading : Option Instant) (old : ClosingList S) (stream : Buffer S) (new : ClosingList S) →
        Contains clock reading → ClosesAt to_give taken calls reading old stream new → AllSince old → AllSince new
    closes_since reading old stream new there at all =
        let room = room_since old all in
        let In : Option Instant → Type 0 = λ moment. Contains clock moment in
        let own : Own at.last = (
          record {
            start = reading;
            key = at.key;
            known = at.known;
            stream = with_stream stream at.moved;
            first = at.last;
            bound = at.bound;
            bounded = subst (λ (t : Option Duration). IsClosingBound reading t at.bound) all.1 at.bounded;
            begins = subst (λ (t : Option Duration).
                WritesOut to_give taken calls reading (begins_closing t at.bound at.key at.known (with_stream stream at.moved)) at.last) all.1 at.writes;
            readings = [];
            looks = refl;
          },
          All-cons In reading [] there (All-nil In),
        ) in (
          All-same Own new.streams ((with_room old).streams ++ at.last ∷ []) (ap (λ (l : ClosingList S). l.streams) at.now)
              (All-push Own (with_room old).streams at.last room.0 own),
          ap (λ (l : ClosingList S). l.stall_time) at.now ∙ room.1,
        )

    pub same_since : (old new : ClosingList S) → new ≡ old → AllSince old → AllSince new
    same_since old new e all = subst AllSince (sym e) all

    module _ {N P : Type 0} (pair : P → Paired S) where
      abbrev Step : RunState N S → SystemCall P → RunState N S → Type 0
      Step = ClosesByClock to_give taken calls pair

      call_since : (call : SystemCall P) (old new : RunState N S) → Contains clock old.table.reading →
          Contains clock new.table.reading → Step old call new → AllSince old.closing → AllSince new.closing
      call_since (Polls may_block woken orders) old new here there h all =
          round_since new.table.reading old.closing new.closing there h all
      call_since (Shows ports status) old new here there h all = same_since old.closing new.closing h all
      call_since (BeginsTurn place account before after) old new here there h all = same_since old.closing new.closing h all
      call_since (Rests place ports rests) old new here there h all = same_since old.closing new.closing h all
      call_since (Accepts place came) old new here there h all = same_since old.closing new.closing h all
      call_since (Connects place (Ready ports)) old new here there h all = same_since old.closing new.closing h all
      call_since (Connects place Failed) old new here there h all =
          closes_since old.table.reading old.closing h.0 new.closing here h.1 all
      call_since (Connects place Pending) old new here there h all = same_since old.closing new.closing h all
      call_since (Retires place ports end) old new here there h all =
          closes_since old.table.reading h.0 (pair ports).server new.closing here h.2
          (closes_since old.table.reading old.closing (pair ports).bot h.0 here h.1 all)
      call_since (Notifies notice) old new here there h all = same_since old.closing new.closing h all

      abbrev readings : (trace : List (SystemCall P)) (old new : RunState N S) → TransitsBy Step old trace new →
          List (Option Instant)
      readings = readings_of Step

      -- the first reading is that of the table
      first_reading : (trace : List (SystemCall P)) (old new : RunState N S) (h : TransitsBy Step old trace new) →
          Contains (readings trace old new h) old.table.reading
      first_reading [] old new h = (0, omega arith, refl)
      first_reading (call ∷ trace) old new h = (0, omega arith, refl)

      pub calls_since : (trace : List (SystemCall P)) (old new : RunState N S) (h : TransitsBy Step old trace new) →
          ((reading : Option Instant) → Contains (readings trace old new h) reading → Contains clock reading) →
          AllSince old.closing → AllSince new.closing
      calls_since [] old new h within all =
          same_since old.closing new.closing (ap (λ (s : RunState N S). s.closing) h) all
      calls_since (call ∷ trace) old new h within all =
          let later : (reading : Option Instant) → Contains (readings trace h.0 new h.2) reading → Contains clock reading =
          λ reading c. within reading (later_contains old.table.reading (readings trace h.0 new h.2) reading c) in
          calls_since trace h.0 new h.2 later
          (call_since call old h.0 (within old.table.reading (0, omega arith, refl))
          (later h.0.table.reading (first_reading trace h.0 new h.2)) h.1 all)

pub closing_sockets_leave : {N P S : Type 0} (to_give taken : S → Option (List ℕ)) (calls : S → Option (List StreamCall)) →
    ClosingSocketsLeave to_give taken calls N P
closing_sockets_leave to_give taken calls = λ pair old new trace stall none set goes.
    let clock = readings_of (ClosesByClock to_give taken calls pair) trace old new goes in
    let Own = Since to_give taken calls stall clock in
    All-weaker Own (IsClosingInTime to_give taken calls stall clock) (in_time to_give taken calls stall clock)
    new.closing.streams
    (calls_since to_give taken calls stall clock pair trace old new goes (λ reading c. c)
    (All-same Own old.closing.streams [] none (All-nil Own), set)).0
