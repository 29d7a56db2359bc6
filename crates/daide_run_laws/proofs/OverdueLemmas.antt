-- Each turn that begins at or past the deadline of its session takes one of the timeouts that are left, unless a peer takes
-- a byte late.
use Rattle.std.proofs.Common.{◌≡◌, ◌⊎◌, ℕ, ◌+◌, ◌≤◌, Bool, true, false, List, [], ◌∷◌, refl, sym, ap, ◌∙◌, subst, arith, inl, inr, ⊎_elim}
use Rattle.std.proofs.Common.{Option, Some, None}
use Rattle.std.specs.Prelude.{◌||◌, ◌&&◌, not, nat_le, nat_lt, is_some, if◌then◌else◌}
use Rattle.std.proofs.lemmas.Bool.{leb-true, le-leb, ltb-false}
use Rattle.std.specs.Time.{instant_nanos}
use Rattle.std.specs.declared.time.Duration.{Duration}
use Rattle.std.specs.declared.time.Instant.{Instant}
use Rattle.daide_frame.specs.declared.side.Side.{Side}
use Rattle.daide_frame.specs.declared.side.Side.TheVariants.{Bot, Server}
use Rattle.daide_io.specs.declared.ports.ClockEvent.{ClockEvent}
use Rattle.daide_io.specs.declared.ports.Pull.{Pull}
use Rattle.daide_io.specs.declared.ports.Put.{Put}
use Rattle.daide_io.specs.Network.{NetworkCall}
use Rattle.daide_io.specs.ReadyQueue.{one_if}
use Rattle.daide_io.specs.Ports.{PortCall, TurnBegins, Clock, Pulled, Offered, EvolvesBy}
use Rattle.daide_sockets.specs.declared.socket.Socket.{Socket}
use Rattle.daide_sockets.specs.Clock.{due_after, next_deadline, earlier, IsStallEnd, has_stalled, is_past}
use Rattle.daide_sockets.specs.Timers.{SessionTimers, BeginsAt, BeginsInTime, PullsInTime, KeepsTimers, SetsTimers, is_got}
use Rattle.daide_sockets.specs.Wakeups.{session_due}
use Rattle.daide_run_laws.specs.FreedPlaces.{IsLater, ClockGoesOn, peer_timeouts_left, timeouts_left}
use Rattle.daide_run_laws.specs.FreedPlaces.{held_len, takes_late, is_overdue, overdue_turns, deliveries, DeadlinesPassSeldom}
use Rattle.daide_run_laws.proofs.BegunSessions.{begun_with}
use Rattle.daide_run_laws.proofs.TimedSessions.{PortsSetTimers, own, KeepsStall, step_stall}

-- ---- counts

at_most_one : (b : Bool) → one_if b ≤ 1
at_most_one true = omega arith
at_most_one false = omega arith

-- what is late counts unless a byte was taken
none_counted : (late : Bool) → one_if (late && not true) ≡ 0
none_counted true = refl
none_counted false = refl

all_counted : (late : Bool) → one_if (late && not false) ≡ one_if late
all_counted true = refl
all_counted false = refl

late_counted : (all bot server im bot_took server_took : Bool) → one_if all ≤ one_if bot + one_if server + one_if im →
    one_if (all && not (bot_took || server_took))
    ≤ one_if (bot && not bot_took) + one_if (server && not server_took) + one_if im
late_counted all bot server im true server_took h = let none = none_counted all in omega (arith, none)
late_counted all bot server im false true h = let none = none_counted all in omega (arith, none)
late_counted all bot server im false false h =
    let own = all_counted all in
    let first = all_counted bot in
    let second = all_counted server in
    omega (arith, own, first, second, h)

-- ---- the nearest of some moments

past_one : (reading one other : Option Instant) → is_past reading (earlier one other) ≡ true →
    (is_past reading one ≡ true) ⊎ (is_past reading other ≡ true)
past_one reading None other e = inr e
past_one reading (Some a) None e = inl e
past_one reading (Some a) (Some b) e = by (nat_le (instant_nanos a) (instant_nanos b)) refl
  where
    by : (t : Bool) → nat_le (instant_nanos a) (instant_nanos b) ≡ t →
        (is_past reading (Some a) ≡ true) ⊎ (is_past reading (Some b) ≡ true)
    by true n = inl (ap (λ (c : Bool). is_past reading (if c then Some a else Some b)) (sym n) ∙ e)
    by false n = inr (ap (λ (c : Bool). is_past reading (if c then Some a else Some b)) (sym n) ∙ e)

none_past : (reading : Option Instant) → is_past reading None ≡ false
none_past None = refl
none_past (Some now) = refl

-- one past moment among two counts at least as often as the nearest
past_counted : (reading one other : Option Instant) →
    one_if (is_past reading (earlier one other)) ≤ one_if (is_past reading one) + one_if (is_past reading other)
past_counted reading one other = by (is_past reading (earlier one other)) refl
  where
    by : (b : Bool) → is_past reading (earlier one other) ≡ b →
        one_if (is_past reading (earlier one other)) ≤ one_if (is_past reading one) + one_if (is_past reading other)
    by false e = let none = ap one_if e in omega (arith, none)
    by true e =
        let most = at_most_one (is_past reading (earlier one other)) in
        ⊎_elim (λ (p : is_past reading one ≡ true). let is = ap one_if p in omega (arith, is, most))
        (λ (p : is_past reading other ≡ true). let is = ap one_if p in omega (arith, is, most))
        (past_one reading one other e)

-- ---- one timeout

-- none if it is past
abbrev unless : Bool → Option Instant → Option Instant
unless past due = if past then None else due

-- a deadline that expires once: it is gone in the turn that finds it past
once_left : (reading due : Option Instant) →
    one_if (is_some (due_after reading due)) + one_if (is_past reading due) ≤ one_if (is_some due)
once_left reading None = by (is_past reading None) refl
  where
    by : (b : Bool) → is_past reading None ≡ b → one_if (is_some (unless b None)) + one_if b ≤ 0
    by true e = let other = none_past reading in absurd (cc)
    by false e = omega arith
once_left reading (Some due) = by (is_past reading (Some due))
  where
    by : (b : Bool) → one_if (is_some (unless b (Some due))) + one_if b ≤ 1
    by true = omega arith
    by false = omega arith

past_later : (before now moment : Instant) → instant_nanos before ≤ instant_nanos now →
    is_past (Some before) (Some moment) ≡ true → is_past (Some now) (Some moment) ≡ true
past_later before now moment order e =
    let was = leb-true (instant_nanos moment) (instant_nanos before) e in
    le-leb (instant_nanos moment) (instant_nanos now) (omega (arith, was, order))

-- the silence of a peer at a later reading
silence_left : (before now : Instant) (moment : Option Instant) → instant_nanos before ≤ instant_nanos now →
    one_if (is_some (due_after (Some now) moment)) + one_if (is_past (Some now) (due_after (Some before) moment))
    ≤ one_if (is_some (due_after (Some before) moment))
silence_left before now None order = omega arith
silence_left before now (Some moment) order = by (is_past (Some before) (Some moment)) refl (is_past (Some now) (Some moment)) refl
  where
    by : (was : Bool) → is_past (Some before) (Some moment) ≡ was → (is : Bool) → is_past (Some now) (Some moment) ≡ is →
        one_if (is_some (unless (is_past (Some now) (Some moment)) (Some moment)))
        + one_if (is_past (Some now) (unless (is_past (Some before) (Some moment)) (Some moment)))
        ≤ one_if (is_some (unless (is_past (Some before) (Some moment)) (Some moment)))
    by true e true f = rw (e, f) (omega arith)
    by true e false f = let later = past_later before now moment order e in absurd (cc)
    by false e true f = rw (e, f) (omega arith)
    by false e false f = rw (e, f) (omega arith)

-- a stall timeout may be left: writes have not failed, or one runs
abbrev may_stall : Bool → Option Instant → Bool
may_stall failed moment = not failed || is_some moment

module _ {S : Type 0} where
  -- a peer has a stall timeout, or never one that runs
  abbrev MayStall : Socket S → Type 0
  MayStall socket = ((time : Duration) × (socket.stall_time ≡ Some time))
      ⊎ ((socket.stall_time ≡ None) × (socket.stalls_at ≡ None))

  may_stall_then : (reading : Option Instant) (old new : Socket S) → KeepsStall reading old new → MayStall old → MayStall new
  may_stall_then reading old new k set = ⊎_elim
      (λ (t : (time : Duration) × (old.stall_time ≡ Some time)). inl (t.0, k.stall_time ∙ t.1))
      (λ (never : (old.stall_time ≡ None) × (old.stalls_at ≡ None)).
      inr (
        k.stall_time ∙ never.0,
        ⊎_elim (λ (same : new.stalls_at ≡ old.stalls_at). same ∙ never.1)
            (λ (other : (new.stalls_at ≡ None) ⊎ IsStallEnd reading old.stall_time new.stalls_at).
            ⊎_elim (λ (none : new.stalls_at ≡ None). none)
            (λ (end : IsStallEnd reading old.stall_time new.stalls_at).
            subst (λ (t : Option Duration). IsStallEnd reading t new.stalls_at) never.0 end) other) k.stall,
      )) set

  may_stall_from : (time : Option Duration) (socket : Socket S) → socket.stall_time ≡ time → socket.stalls_at ≡ None →
      MayStall socket
  may_stall_from None socket e none = inr (e, none)
  may_stall_from (Some time) socket e none = inl (time, e)

  begins_stall : (start : Option Instant) (times : Option Duration × Option Duration) (session : SessionTimers S) →
      BeginsAt start times session → (side : Side) → MayStall (own session side)
  begins_stall start times session h side = may_stall_from times.1 (own session side) (h.stall_time side) (h.stalls_at side)

  abbrev stall_left : Socket S → ℕ
  stall_left socket = one_if (not socket.stream.has_failed || is_some socket.stalls_at)

  -- a peer that is given up stays so, and has no stall timeout unless it had one
  stall_kept : (old new : Socket S) → (old.stream.has_failed ≡ true →
      (new.stream.has_failed ≡ true) × ((new.stalls_at ≡ old.stalls_at) ⊎ (new.stalls_at ≡ None))) →
      stall_left new ≤ stall_left old
  stall_kept old new h = by old.stream.has_failed refl
    where
      by : (failed : Bool) → old.stream.has_failed ≡ failed → stall_left new ≤ stall_left old
      by false e =
          let most = at_most_one (not new.stream.has_failed || is_some new.stalls_at) in
          let full : stall_left old ≡ 1 = ap (λ (f : Bool). one_if (may_stall f old.stalls_at)) e in
          omega (arith, most, full)
      by true e =
          let after = h e in
          let was : stall_left old ≡ one_if (is_some old.stalls_at) = ap (λ (f : Bool). one_if (may_stall f old.stalls_at)) e in
          let is : stall_left new ≡ one_if (is_some new.stalls_at) =
          ap (λ (f : Bool). one_if (may_stall f new.stalls_at)) after.0 in
          ⊎_elim (λ (same : new.stalls_at ≡ old.stalls_at).
          let equal = ap (λ (m : Option Instant). one_if (is_some m)) same in omega (arith, was, is, equal))
          (λ (none : new.stalls_at ≡ None).
          let zero_left = ap (λ (m : Option Instant). one_if (is_some m)) none in omega (arith, was, is, zero_left)) after.1

  -- a turn that begins at a stall timeout or past it gives up a peer that takes no byte
  stall_begun : (reading : Option Instant) (old new : Socket S) → MayStall old → BeginsInTime reading old new →
      takes_late reading old new ≡ false → stall_left new + one_if (is_past reading old.stalls_at) ≤ stall_left old
  stall_begun reading old new set h none = by (is_past reading old.stalls_at) refl old.stalls_at refl
    where
      by : (past : Bool) → is_past reading old.stalls_at ≡ past → (moment : Option Instant) → old.stalls_at ≡ moment →
          stall_left new + one_if (is_past reading old.stalls_at) ≤ stall_left old
      by false e moment m =
          let none = ap one_if e in
          let kept = stall_kept old new h.kept.failed in omega (arith, none, kept)
      by true e None m =
          let never = ap (λ (x : Option Instant). is_past reading x) m ∙ none_past reading in absurd (cc)
      by true e (Some moment) m =
          let time = time_of moment m in
          let stalled : has_stalled old.stall_time reading old.stalls_at ≡ true =
          ap (λ (t : Option Duration). has_stalled t reading old.stalls_at) time.1 ∙ e in
          let over = h.gives_up stalled (none_taken e) in
          let is : stall_left new ≡ one_if (is_some new.stalls_at) = ap (λ (f : Bool). one_if (may_stall f new.stalls_at)) over.0 in
          let zero_left = ap (λ (x : Option Instant). one_if (is_some x)) over.1 in
          let one = ap one_if e in
          let was = held old.stream.has_failed moment m in
          omega (arith, is, zero_left, one, was)
        where
          none_taken : is_past reading old.stalls_at ≡ true → held_len old ≤ held_len new
          none_taken past =
              ltb-false (held_len new) (held_len old)
              (ap (λ (p : Bool). p && nat_lt (held_len new) (held_len old)) (sym past) ∙ none)

          time_of : (moment : Instant) → old.stalls_at ≡ Some moment → (time : Duration) × (old.stall_time ≡ Some time)
          time_of moment m = ⊎_elim (λ (t : (time : Duration) × (old.stall_time ≡ Some time)). t)
              (λ (never : (old.stall_time ≡ None) × (old.stalls_at ≡ None)). let none = never.1 in absurd (cc)) set

          held : (failed : Bool) (moment : Instant) → old.stalls_at ≡ Some moment → one_if (may_stall failed old.stalls_at) ≡ 1
          held false moment m = refl
          held true moment m = ap (λ (x : Option Instant). one_if (is_some x)) m

  -- ---- the timeouts of one peer

  peer_begun : (before now : Instant) (old_reading new_reading : Option Instant) (old new : Socket S) →
      old_reading ≡ Some before → new_reading ≡ Some now → instant_nanos before ≤ instant_nanos now →
      MayStall old → BeginsInTime new_reading old new →
      peer_timeouts_left new_reading new + one_if (is_past new_reading (next_deadline old_reading old.stalls_at old.silent_from)
      && not (takes_late new_reading old new)) ≤ peer_timeouts_left old_reading old
  peer_begun before now old_reading new_reading old new was is order set h = by (takes_late new_reading old new) refl
    where
      is_late : Bool
      is_late = is_past new_reading (next_deadline old_reading old.stalls_at old.silent_from)

      silence : one_if (is_some (due_after new_reading new.silent_from))
          + one_if (is_past new_reading (due_after old_reading old.silent_from))
          ≤ one_if (is_some (due_after old_reading old.silent_from))
      silence =
          subst (λ (r : Option Instant). one_if (is_some (due_after r new.silent_from))
          + one_if (is_past r (due_after old_reading old.silent_from)) ≤ one_if (is_some (due_after old_reading old.silent_from))) (sym is)
          (subst (λ (r : Option Instant). one_if (is_some (due_after (Some now) new.silent_from))
          + one_if (is_past (Some now) (due_after r old.silent_from)) ≤ one_if (is_some (due_after r old.silent_from))) (sym was)
          (subst (λ (m : Option Instant). one_if (is_some (due_after (Some now) m))
          + one_if (is_past (Some now) (due_after (Some before) old.silent_from)) ≤ one_if (is_some (due_after (Some before) old.silent_from)))
          (sym h.kept.silent_from) (silence_left before now old.silent_from order)))

      by : (took : Bool) → takes_late new_reading old new ≡ took →
          peer_timeouts_left new_reading new + one_if (is_late && not (takes_late new_reading old new))
          ≤ peer_timeouts_left old_reading old
      by true e =
          let zero_late = ap (λ (t : Bool). one_if (is_late && not t)) e ∙ none_counted is_late in
          let stalls = stall_kept old new h.kept.failed in
          omega (arith, zero_late, stalls, silence)
      by false e =
          let most = ap (λ (t : Bool). one_if (is_late && not t)) e ∙ all_counted is_late in
          let stalls = stall_begun new_reading old new set h e in
          let both = past_counted new_reading old.stalls_at (due_after old_reading old.silent_from) in
          omega (arith, most, stalls, both, silence)

  -- a socket that was not pulled
  peer_kept : (old_reading new_reading : Option Instant) (old new : Socket S) → new_reading ≡ old_reading →
      KeepsTimers old_reading old new → peer_timeouts_left new_reading new ≤ peer_timeouts_left old_reading old
  peer_kept old_reading new_reading old new same h =
      let stalls = stall_kept old new h.failed in
      let silence : one_if (is_some (due_after new_reading new.silent_from)) ≡ one_if (is_some (due_after old_reading old.silent_from)) =
      ap (λ (r : Option Instant). one_if (is_some (due_after r new.silent_from))) same
      ∙ ap (λ (m : Option Instant). one_if (is_some (due_after old_reading m))) h.silent_from in
      omega (arith, stalls, silence)

  -- one that was
  peer_pulled : (old_reading new_reading : Option Instant) (time : Option Duration) (pull : Pull) (old new : Socket S) →
      new_reading ≡ old_reading → PullsInTime old_reading time pull old new →
      peer_timeouts_left new_reading new ≤ peer_timeouts_left old_reading old + one_if (is_got pull)
  peer_pulled old_reading new_reading time pull old new same h =
      let stalls = stall_kept old new (λ f. (h.failed ∙ f, inl h.stalls_at)) in
      let silence = by (is_got pull) refl in
      omega (arith, stalls, silence)
    where
      by : (got : Bool) → is_got pull ≡ got → one_if (is_some (due_after new_reading new.silent_from))
          ≤ one_if (is_some (due_after old_reading old.silent_from)) + one_if (is_got pull)
      by true e =
          let most = at_most_one (is_some (due_after new_reading new.silent_from)) in
          let one = ap one_if e in omega (arith, most, one)
      by false e =
          let equal : one_if (is_some (due_after new_reading new.silent_from)) ≡ one_if (is_some (due_after old_reading old.silent_from)) =
          ap (λ (r : Option Instant). one_if (is_some (due_after r new.silent_from))) same
          ∙ ap (λ (m : Option Instant). one_if (is_some (due_after old_reading m))) (h.goes_on e) in
          omega (arith, equal)

  -- ---- one call

  im_kept : (old new : SessionTimers S) → new.sockets.im_due ≡ old.sockets.im_due →
      one_if (is_some new.sockets.im_due) ≡ one_if (is_some old.sockets.im_due)
  im_kept old new same = ap (λ (m : Option Instant). one_if (is_some m)) same

  begun_left : (idle stall : Duration) (old new : SessionTimers S) → ((side : Side) → MayStall (own old side)) →
      IsLater idle stall old.sockets.reading new.sockets.reading → SetsTimers TurnBegins old new →
      timeouts_left new + one_if (is_past new.sockets.reading (session_due old.sockets)
      && not (takes_late new.sockets.reading old.sockets.sides.bot new.sockets.sides.bot
      || takes_late new.sockets.reading old.sockets.sides.server new.sockets.sides.server)) ≤ timeouts_left old
  begun_left idle stall old new set later h =
      let due = λ (socket : Socket S). next_deadline old.sockets.reading socket.stalls_at socket.silent_from in
      let bot = peer_begun later.before later.now old.sockets.reading new.sockets.reading old.sockets.sides.bot new.sockets.sides.bot
      later.was later.is.read later.order (set Bot) (h.3 Bot) in
      let server = peer_begun later.before later.now old.sockets.reading new.sockets.reading old.sockets.sides.server new.sockets.sides.server
      later.was later.is.read later.order (set Server) (h.3 Server) in
      let im : one_if (is_some new.sockets.im_due) + one_if (is_past new.sockets.reading old.sockets.im_due)
      ≤ one_if (is_some old.sockets.im_due) =
      subst (λ (m : Option Instant). one_if (is_some m) + one_if (is_past new.sockets.reading old.sockets.im_due)
      ≤ one_if (is_some old.sockets.im_due)) (sym h.2) (once_left new.sockets.reading old.sockets.im_due) in
      let all = past_counted new.sockets.reading (earlier (due old.sockets.sides.bot) (due old.sockets.sides.server)) old.sockets.im_due in
      let peers = past_counted new.sockets.reading (due old.sockets.sides.bot) (due old.sockets.sides.server) in
      let late = late_counted (is_past new.sockets.reading (session_due old.sockets))
      (is_past new.sockets.reading (due old.sockets.sides.bot)) (is_past new.sockets.reading (due old.sockets.sides.server))
      (is_past new.sockets.reading old.sockets.im_due)
      (takes_late new.sockets.reading old.sockets.sides.bot new.sockets.sides.bot)
      (takes_late new.sockets.reading old.sockets.sides.server new.sockets.sides.server) (omega (arith, all, peers)) in
      omega (arith, bot, server, im, late)

  clock_left : (event : ClockEvent) (old new : SessionTimers S) → SetsTimers (Clock event) old new →
      timeouts_left new ≤ timeouts_left old
  clock_left event old new h = let same = ap timeouts_left h.1 in omega (arith, same)

  pulled_left : (side : Side) (room : ℕ) (pull : Pull) (bytes : List ℕ) (old new : SessionTimers S) →
      SetsTimers (Pulled side room pull bytes) old new → timeouts_left new ≤ timeouts_left old + one_if (is_got pull)
  pulled_left Bot room pull bytes old new h =
      let bot = peer_pulled old.sockets.reading new.sockets.reading old.idle_time pull old.sockets.sides.bot new.sockets.sides.bot h.0.reading h.1 in
      let server = peer_kept old.sockets.reading new.sockets.reading old.sockets.sides.server new.sockets.sides.server h.0.reading h.2.kept in
      let im = im_kept old new h.0.im_due in omega (arith, bot, server, im)
  pulled_left Server room pull bytes old new h =
      let server = peer_pulled old.sockets.reading new.sockets.reading old.idle_time pull old.sockets.sides.server new.sockets.sides.server h.0.reading h.1 in
      let bot = peer_kept old.sockets.reading new.sockets.reading old.sockets.sides.bot new.sockets.sides.bot h.0.reading h.2.kept in
      let im = im_kept old new h.0.im_due in omega (arith, bot, server, im)

  offered_left : (side : Side) (bytes : List ℕ) (put : Put) (old new : SessionTimers S) →
      SetsTimers (Offered side bytes put) old new → timeouts_left new ≤ timeouts_left old
  offered_left Bot bytes put old new h =
      let bot = peer_kept old.sockets.reading new.sockets.reading old.sockets.sides.bot new.sockets.sides.bot h.0.reading h.1.kept in
      let server = peer_kept old.sockets.reading new.sockets.reading old.sockets.sides.server new.sockets.sides.server h.0.reading h.2.kept in
      let im = im_kept old new h.0.im_due in omega (arith, bot, server, im)
  offered_left Server bytes put old new h =
      let server = peer_kept old.sockets.reading new.sockets.reading old.sockets.sides.server new.sockets.sides.server h.0.reading h.1.kept in
      let bot = peer_kept old.sockets.reading new.sockets.reading old.sockets.sides.bot new.sockets.sides.bot h.0.reading h.2.kept in
      let im = im_kept old new h.0.im_due in omega (arith, bot, server, im)

  at_most_five : (session : SessionTimers S) → timeouts_left session ≤ 5
  at_most_five session =
      let a = at_most_one (is_some (due_after session.sockets.reading session.sockets.sides.bot.silent_from)) in
      let b = at_most_one (is_some (due_after session.sockets.reading session.sockets.sides.server.silent_from)) in
      let c = at_most_one (not session.sockets.sides.bot.stream.has_failed || is_some session.sockets.sides.bot.stalls_at) in
      let d = at_most_one (not session.sockets.sides.server.stream.has_failed || is_some session.sockets.sides.server.stalls_at) in
      let e = at_most_one (is_some session.sockets.im_due) in
      omega (arith, a, b, c, d, e)

-- ---- a history

module _ {P S : Type 0} (port_transition : P → PortCall → P → Type 0) (timers : P → SessionTimers S)
    (keeps : PortsSetTimers port_transition timers) (idle stall : Duration) where
  abbrev left : P → ℕ
  left ports = timeouts_left (timers ports)

  -- each peer of a session has a stall timeout, or never one that runs
  abbrev IsSet : P → Type 0
  IsSet ports = (side : Side) → MayStall (own (timers ports) side)

  -- the call that begins a turn
  begins_left : (a b : P) → port_transition a TurnBegins b → IsSet a →
      IsLater idle stall (timers a).sockets.reading (timers b).sockets.reading →
      left b + one_if (is_overdue port_transition timers a b) ≤ left a
  begins_left a b h set later = begun_left idle stall (timers a) (timers b) set later (keeps a b TurnBegins h)

  set_then : (call : PortCall) (a b : P) → port_transition a call b → IsSet a → IsSet b
  set_then call a b h set side =
      may_stall_then (timers b).sockets.reading (own (timers a) side) (own (timers b) side)
      (step_stall call (timers a) (timers b) (keeps a b call h) side) (set side)

  set_by : (calls : List PortCall) (a b : P) → EvolvesBy port_transition a calls b → IsSet a → IsSet b
  set_by [] a b h set = λ side. subst (λ (ports : P). MayStall (own (timers ports) side)) (sym h) (set side)
  set_by (call ∷ calls) a b h set = set_by calls h.0 b h.2 (set_then call a h.0 h.1 set)

  overdue_left : (calls : List PortCall) (a b : P) (h : EvolvesBy port_transition a calls b) →
      ClockGoesOn port_transition timers idle stall calls a b h → IsSet a →
      overdue_turns port_transition timers calls a b h + left b ≤ left a + deliveries calls
  overdue_left [] a b h clock set = let same = ap left h in omega (arith, same)
  overdue_left (TurnBegins ∷ calls) a b h clock set =
      let first = begins_left a h.0 h.1 set clock.0 in
      let rest = overdue_left calls h.0 b h.2 clock.1 (set_then TurnBegins a h.0 h.1 set) in
      omega (arith, first, rest)
  overdue_left (Clock event ∷ calls) a b h clock set =
      let first = clock_left event (timers a) (timers h.0) (keeps a h.0 (Clock event) h.1) in
      let rest = overdue_left calls h.0 b h.2 clock (set_then (Clock event) a h.0 h.1 set) in
      omega (arith, first, rest)
  overdue_left (Pulled side room pull bytes ∷ calls) a b h clock set =
      let first = pulled_left side room pull bytes (timers a) (timers h.0) (keeps a h.0 (Pulled side room pull bytes) h.1) in
      let rest = overdue_left calls h.0 b h.2 clock (set_then (Pulled side room pull bytes) a h.0 h.1 set) in
      omega (arith, first, rest)
  overdue_left (Offered side bytes put ∷ calls) a b h clock set =
      let first = offered_left side bytes put (timers a) (timers h.0) (keeps a h.0 (Offered side bytes put) h.1) in
      let rest = overdue_left calls h.0 b h.2 clock (set_then (Offered side bytes put) a h.0 h.1 set) in
      omega (arith, first, rest)

pub deadlines_pass_seldom : {P S N C : Type 0} (port_transition : P → PortCall → P → Type 0) (timers : P → SessionTimers S) →
    PortsSetTimers port_transition timers → (network : N → NetworkCall C → N → Type 0) →
    DeadlinesPassSeldom port_transition timers network
deadlines_pass_seldom port_transition timers keeps network =
    λ settings trace mid late place idle stall begun last from sessions clock.
    let at = begun_with network timers from.session.place from.session.ports trace begun last sessions from.session.came in (
      overdue_left port_transition timers keeps idle stall late mid place.ports from.since clock
          (set_by port_transition timers keeps idle stall from.early from.session.ports mid from.before
          (begins_stall at.0 begun.times (timers from.session.ports) at.1)),
      at_most_five (timers mid),
    )
