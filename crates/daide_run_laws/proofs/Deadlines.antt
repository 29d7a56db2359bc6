-- Each session at rest that is timed has a deadline.
use Rattle.std.proofs.Common.{◌≡◌, ◌⊎◌, ℕ, zero, suc, ◌+◌, ◌<◌, ◌≤◌, Bool, true, false, List, [], ◌∷◌, length, get_or}
use Rattle.std.proofs.Common.{refl, sym, ap, ◌∙◌, subst, arith, inl, inr, ⊎_elim, Option, Some, None}
use Rattle.std.specs.Prelude.{nat_le, nat_lt, max, All, if◌then◌else◌}
use Rattle.std.specs.Duration.{as_nanos}
use Rattle.std.specs.Time.{instant_nanos}
use Rattle.std.specs.declared.time.Duration.{Duration}
use Rattle.std.specs.declared.time.Instant.{Instant}
use Rattle.std.proofs.lemmas.Bool.{lt-leb}
use Rattle.std.proofs.lemmas.List.Elements.{All-head, All-tail}
use Rattle.daide_frame.specs.declared.side.Side.{Side}
use Rattle.daide_frame.specs.declared.side.Side.TheVariants.{Bot, Server}
use Rattle.daide_frame.specs.Side.{other}
use Rattle.daide_buffered_io.proofs.StreamLemmas.{of_both}
use Rattle.daide_io.specs.declared.ports.Pull.{Pull}
use Rattle.daide_io.specs.declared.ports.Pull.TheVariants.{Got, Idle, Ended}
use Rattle.daide_io.specs.declared.ports.Put.{Put}
use Rattle.daide_io.specs.declared.ports.Put.TheVariants.{Took}
use Rattle.daide_io.specs.Streams.{StreamCall}
use Rattle.daide_io.specs.Ports.{PortCall, TurnBegins, Clock, Pulled, Offered, EvolvesBy}
use Rattle.daide_event_loop.specs.Waiting.{MakesNoProgress, IsOfTurn}
use Rattle.daide_sockets.specs.declared.socket.Socket.{Socket}
use Rattle.daide_sockets.specs.Clock.{due_after, next_deadline, earlier, IsStallEnd, StallsNext, has_stalled, is_past}
use Rattle.daide_sockets.specs.Timers.{SessionTimers, StallGoesOn, PullsInTime, PutsInTime, SetsTimers, SameClock}
use Rattle.daide_sockets.specs.Wakeups.{IsOffered, session_due}
use Rattle.daide_run_laws.proofs.TurnSettled.{AreSettled}
use Rattle.daide_run_laws.proofs.TimedSessions.{own, KeepsStall, step_stall, step_silence, step_idle_time, IsTimedNow, end_there}

-- ---- moments

-- a moment no later than this many nanoseconds of the clock
abbrev IsBy : Option Instant → ℕ → Type 0
IsBy None most = ⊥
IsBy (Some moment) most = instant_nanos moment ≤ most

earlier_left : (one other : Option Instant) (most : ℕ) → IsBy one most → IsBy (earlier one other) most
earlier_left None other most h = absurd h
earlier_left (Some a) None most h = h
earlier_left (Some a) (Some b) most h = by (nat_le (instant_nanos a) (instant_nanos b)) refl
  where
    by : (t : Bool) → nat_le (instant_nanos a) (instant_nanos b) ≡ t → IsBy (if t then Some a else Some b) most
    by true e = h
    by false e = grind (arith, e, h)

earlier_right : (one other : Option Instant) (most : ℕ) → IsBy other most → IsBy (earlier one other) most
earlier_right None other most h = h
earlier_right (Some a) None most h = absurd h
earlier_right (Some a) (Some b) most h = by (nat_le (instant_nanos a) (instant_nanos b)) refl
  where
    by : (t : Bool) → nat_le (instant_nanos a) (instant_nanos b) ≡ t → IsBy (if t then Some a else Some b) most
    by true e = grind (arith, e, h)
    by false e = h

is_by_there : (moment : Option Instant) (most : ℕ) → IsBy moment most →
    (due : Instant) × (moment ≡ Some due) × (instant_nanos due ≤ most)
is_by_there None most h = absurd h
is_by_there (Some due) most h = (due, refl, h)

-- an idle timeout that is not over is a deadline
awake_due : (reading moment : Option Instant) (most : ℕ) → is_past reading moment ≡ false → IsBy moment most →
    IsBy (due_after reading moment) most
awake_due reading moment most e h = subst (λ (b : Bool). IsBy (if b then None else moment) most) (sym e) h

-- ---- one timeout

abbrev AwakeAt : Option Duration → Option Instant → Option Instant → Type 0
AwakeAt time reading moment = (has_stalled time reading moment ≡ false) ⊎ IsStallEnd reading time moment

awake_as : (old_time new_time : Option Duration) (old_reading new_reading old new : Option Instant) → new_time ≡ old_time →
    new_reading ≡ old_reading → new ≡ old → AwakeAt old_time old_reading old → AwakeAt new_time new_reading new
awake_as old_time new_time old_reading new_reading old new t r m h =
    subst (λ (x : Option Duration). AwakeAt x new_reading new) (sym t)
    (subst (λ (x : Option Instant). AwakeAt old_time x new) (sym r)
    (subst (λ (x : Option Instant). AwakeAt old_time old_reading x) (sym m) h))

stalling_next : (time : Option Duration) (now before after : Option Instant) (took : Bool) →
    StallsNext time now before took after → ((moment : Instant) × (after ≡ Some moment)) ⊎ IsStallEnd now time after
stalling_next time now None after took h = inr h
stalling_next time now (Some moment) after true h = inr h
stalling_next time now (Some moment) after false h = inl (moment, h)

-- ---- the silence of a side

module _ {S : Type 0} where
  -- the idle timeout of a side is not over at the reading of the turn, or starts at it
  abbrev pub IsAwake : Side → SessionTimers S → Type 0
  IsAwake side session = (has_stalled session.idle_time session.sockets.reading (own session side).silent_from ≡ false)
      ⊎ IsStallEnd session.sockets.reading session.idle_time (own session side).silent_from

  pulled_awake : (reading : Option Instant) (time : Option Duration) (pull : Pull) (old new : Socket S) →
      PullsInTime reading time pull old new → (pull ≡ Idle) ⊎ (pull ≡ Got 0) → AwakeAt time reading new.silent_from
  pulled_awake reading time Idle old new h none = by (has_stalled time reading old.silent_from) refl
    where
      by : (late : Bool) → has_stalled time reading old.silent_from ≡ late → AwakeAt time reading new.silent_from
      by true e = absurd (h.late e refl)
      by false e = inl (ap (λ (m : Option Instant). has_stalled time reading m) (h.goes_on refl) ∙ e)
  pulled_awake reading time (Got n) old new h none = inr (h.starts refl)
  pulled_awake reading time Ended old new h none =
      ⊎_elim (λ (e : Ended ≡ Idle). absurd (cc)) (λ (e : Ended ≡ Got 0). absurd (cc)) none

  step_reading : (call : PortCall) (old new : SessionTimers S) → IsOfTurn call → SetsTimers call old new →
      new.sockets.reading ≡ old.sockets.reading
  step_reading TurnBegins old new made h = absurd made
  step_reading (Clock event) old new made h = ap (λ (s : SessionTimers S). s.sockets.reading) h.1
  step_reading (Pulled side room pull bytes) old new made h = h.0.reading
  step_reading (Offered side bytes put) old new made h = h.0.reading

  pub awake_found : (side : Side) (room : ℕ) (pull : Pull) (bytes : List ℕ) (old new : SessionTimers S) →
      SetsTimers (Pulled side room pull bytes) old new → (pull ≡ Idle) ⊎ (pull ≡ Got 0) → IsAwake side new
  awake_found side room pull bytes old new h none =
      awake_as old.idle_time new.idle_time old.sockets.reading new.sockets.reading (own new side).silent_from
      (own new side).silent_from h.0.idle_time h.0.reading refl
      (pulled_awake old.sockets.reading old.idle_time pull (own old side) (own new side) h.1 none)

  pub awake_stays : (side : Side) (call : PortCall) (old new : SessionTimers S) → IsOfTurn call → SetsTimers call old new →
      IsAwake side old → IsAwake side new
  awake_stays side call old new made h awake = ⊎_elim
      (λ (same : (own new side).silent_from ≡ (own old side).silent_from).
      awake_as old.idle_time new.idle_time old.sockets.reading new.sockets.reading (own old side).silent_from
      (own new side).silent_from (step_idle_time call old new h) (step_reading call old new made h) same awake)
      (λ (starts : IsStallEnd new.sockets.reading old.idle_time (own new side).silent_from).
      inr (subst (λ (t : Option Duration). IsStallEnd new.sockets.reading t (own new side).silent_from)
      (sym (step_idle_time call old new h)) starts))
      (step_silence call old new h side)

  -- ---- the bytes that wait for a side

  abbrev pub IsStalling : Option Instant → Socket S → Type 0
  IsStalling reading socket = ((moment : Instant) × (socket.stalls_at ≡ Some moment))
      ⊎ IsStallEnd reading socket.stall_time socket.stalls_at

  -- a side is not writable, and its stall timeout runs; or something must be tried again
  abbrev pub IsHeld : Side → SessionTimers S → Type 0
  IsHeld side session = ((own session side).tries_again ≡ true)
      ⊎ (((own session side).readiness.may_write ≡ false) × IsStalling session.sockets.reading (own session side))

  -- one that goes on
  stalling_on : (reading : Option Instant) (old new : Socket S) → KeepsStall reading old new → StallGoesOn old new →
      IsStalling reading old → IsStalling reading new
  stalling_on reading old new k on h = ⊎_elim
      (λ (there : (moment : Instant) × (old.stalls_at ≡ Some moment)). inl (there.0, on there.0 there.1))
      (λ (end : IsStallEnd reading old.stall_time old.stalls_at). by old.stalls_at refl end) h
    where
      as_old : (moment : Option Instant) → new.stalls_at ≡ moment → IsStallEnd reading old.stall_time moment →
          IsStalling reading new
      as_old moment e end =
          inr (subst (λ (t : Option Duration). IsStallEnd reading t new.stalls_at) (sym k.stall_time)
          (subst (λ (m : Option Instant). IsStallEnd reading old.stall_time m) (sym e) end))

      by : (moment : Option Instant) → old.stalls_at ≡ moment → IsStallEnd reading old.stall_time old.stalls_at →
          IsStalling reading new
      by (Some moment) e end = inl (moment, on moment e)
      by None e end =
          let none : IsStallEnd reading old.stall_time None = subst (λ (m : Option Instant). IsStallEnd reading old.stall_time m) e end in
          ⊎_elim (λ (same : new.stalls_at ≡ old.stalls_at). as_old None (same ∙ e) none)
          (λ (other : (new.stalls_at ≡ None) ⊎ IsStallEnd reading old.stall_time new.stalls_at).
          ⊎_elim (λ (gone : new.stalls_at ≡ None). as_old None gone none)
          (λ (starts : IsStallEnd reading old.stall_time new.stalls_at). as_old new.stalls_at refl starts) other) k.stall

  held_by : (old new : SessionTimers S) (side : Side) (call : PortCall) → IsOfTurn call → SetsTimers call old new →
      ((own old side).tries_again ≡ true → (own new side).tries_again ≡ true) →
      ((own old side).readiness.may_write ≡ false → ((own new side).readiness.may_write ≡ false)
      × StallGoesOn (own old side) (own new side)) → IsHeld side old → IsHeld side new
  held_by old new side call made h tries on held = ⊎_elim (λ (t : (own old side).tries_again ≡ true). inl (tries t))
      (λ (k : ((own old side).readiness.may_write ≡ false) × IsStalling old.sockets.reading (own old side)).
      let goes = on k.0 in
      inr (
        goes.0,
        stalling_on new.sockets.reading (own old side) (own new side) (step_stall call old new h side) goes.1
            (subst (λ (r : Option Instant). IsStalling r (own old side)) (sym (step_reading call old new made h)) k.1),
      )) held

  put_held : {streams : S → Option (List StreamCall)} (old new : SessionTimers S) (side : Side) (bytes : List ℕ) → SameClock old new →
      IsOffered streams bytes (Took 0) (own old side) (own new side) →
      PutsInTime old.sockets.reading bytes (Took 0) (own old side) (own new side) → 0 < length bytes → IsHeld side new
  put_held old new side bytes clock offered times some = by (own new side).tries_again refl
    where
      next : IsStalling new.sockets.reading (own new side)
      next = ⊎_elim (λ (there : (moment : Instant) × ((own new side).stalls_at ≡ Some moment)). inl there)
          (λ (end : IsStallEnd old.sockets.reading (own old side).stall_time (own new side).stalls_at).
          inr (subst (λ (t : Option Duration). IsStallEnd new.sockets.reading t (own new side).stalls_at) (sym times.kept.stall_time)
          (subst (λ (r : Option Instant). IsStallEnd r (own old side).stall_time (own new side).stalls_at) (sym clock.reading) end)))
          (stalling_next (own old side).stall_time old.sockets.reading (own old side).stalls_at (own new side).stalls_at
          (nat_lt (length (own new side).stream.write_buffer) (length (own old side).stream.write_buffer + 0))
          (times.stall.0 (inl some)))

      by : (tries : Bool) → (own new side).tries_again ≡ tries → IsHeld side new
      by true e = inl e
      by false e = inr (offered.none_taken refl some e, next)

  abbrev pub SettlesTimers : PortCall → SessionTimers S → SessionTimers S → Type 0
  SettlesTimers call old new = AreSettled call old.sockets.sides new.sockets.sides

  pub held_found : (side : Side) (bytes : List ℕ) (old new : SessionTimers S) →
      SettlesTimers (Offered side bytes (Took 0)) old new → SetsTimers (Offered side bytes (Took 0)) old new → 0 < length bytes →
      IsHeld side new
  held_found side bytes old new s h some = put_held old new side bytes h.0 s.1.0 h.1 some

  none_put : (side : Side) (bytes : List ℕ) (put : Put) (old new : SessionTimers S) → put ≡ Took 0 →
      SettlesTimers (Offered side bytes put) old new → SetsTimers (Offered side bytes put) old new → 0 < length bytes → IsHeld side new
  none_put side bytes put old new e s h some =
      held_found side bytes old new (subst (λ (p : Put). SettlesTimers (Offered side bytes p) old new) e s)
      (subst (λ (p : Put). SetsTimers (Offered side bytes p) old new) e h) some

  pub held_stays : (call : PortCall) (old new : SessionTimers S) → SettlesTimers call old new → SetsTimers call old new →
      MakesNoProgress call → IsOfTurn call → (side : Side) → IsHeld side old → IsHeld side new
  held_stays TurnBegins old new s h still made = absurd made
  held_stays (Clock event) old new s h still made =
      λ side held. subst (λ (t : SessionTimers S). IsHeld side t) (sym h.1) held
  held_stays (Pulled side room pull bytes) old new s h still made =
      of_both (λ (one : Side). IsHeld one old → IsHeld one new) side
      (held_by old new side (Pulled side room pull bytes) made h s.1.0.tries_again
      (λ shut. (s.1.0.writes ∙ shut, λ moment e. h.1.stalls_at ∙ e)))
      (held_by old new (other side) (Pulled side room pull bytes) made h s.1.1.tries_again
      (λ shut. (s.1.1.full shut, h.2.full shut)))
  held_stays (Offered side bytes put) old new s h still made =
      of_both (λ (one : Side). IsHeld one old → IsHeld one new) side (λ held. none_put side bytes put old new still s h made)
      (held_by old new (other side) (Offered side bytes put) made h s.1.1.tries_again
      (λ shut. (s.1.1.full shut, h.2.full shut)))

  -- ---- the nearest deadline

  silence_due : (idle stall : Duration) (side : Side) (session : SessionTimers S) → (t : IsTimedNow idle stall session) →
      IsAwake side session → IsBy (due_after session.sockets.reading (own session side).silent_from)
      (instant_nanos t.now + max (as_nanos idle) (as_nanos stall))
  silence_due idle stall side session t awake =
      let at = t.silence side in
      let most = at.2 in
      awake_due session.sockets.reading (own session side).silent_from
      (instant_nanos t.now + max (as_nanos idle) (as_nanos stall)) not_past
      (subst (λ (m : Option Instant). IsBy m (instant_nanos t.now + max (as_nanos idle) (as_nanos stall))) (sym at.1)
      (omega (arith, most)))
    where
      later : (moment : Instant) → (own session side).silent_from ≡ Some moment → nat_le (instant_nanos moment) (instant_nanos t.now) ≡ false →
          is_past session.sockets.reading (own session side).silent_from ≡ false
      later moment is e = ap (λ (r : Option Instant). is_past r (own session side).silent_from) t.reading.read
          ∙ ap (λ (m : Option Instant). is_past (Some t.now) m) is ∙ e

      not_past : is_past session.sockets.reading (own session side).silent_from ≡ false
      not_past = ⊎_elim
          (λ (e : has_stalled session.idle_time session.sockets.reading (own session side).silent_from ≡ false).
          ap (λ (d : Option Duration). has_stalled d session.sockets.reading (own session side).silent_from) (sym t.timeouts.idle_time) ∙ e)
          (λ (e : IsStallEnd session.sockets.reading session.idle_time (own session side).silent_from).
          let at = end_there session.sockets.reading session.idle_time t.now idle (own session side).silent_from t.reading.read
          t.timeouts.idle_time t.reading.idle_fits e in
          let exact = at.2 in
          let lasts = t.timeouts.idle_lasts in
          later at.0 at.1 (lt-leb (instant_nanos at.0) (instant_nanos t.now) (omega (arith, exact, lasts))))
          awake

  stall_due : (idle stall : Duration) (side : Side) (session : SessionTimers S) → (t : IsTimedNow idle stall session) →
      IsStalling session.sockets.reading (own session side) → IsBy (own session side).stalls_at
      (instant_nanos t.now + max (as_nanos idle) (as_nanos stall))
  stall_due idle stall side session t stalling =
      let at = there in
      let most = t.stalls side at.0 at.1 in
      subst (λ (m : Option Instant). IsBy m (instant_nanos t.now + max (as_nanos idle) (as_nanos stall))) (sym at.1)
      (omega (arith, most))
    where
      there : (moment : Instant) × ((own session side).stalls_at ≡ Some moment)
      there = ⊎_elim (λ (h : (moment : Instant) × ((own session side).stalls_at ≡ Some moment)). h)
          (λ (e : IsStallEnd session.sockets.reading (own session side).stall_time (own session side).stalls_at).
          let at = end_there session.sockets.reading (own session side).stall_time t.now stall (own session side).stalls_at
          t.reading.read (t.timeouts.stall_time side) t.reading.stall_fits e in
          (at.0, at.1)) stalling

  side_due : (side : Side) (session : SessionTimers S) (most : ℕ) →
      IsBy (next_deadline session.sockets.reading (own session side).stalls_at (own session side).silent_from) most →
      IsBy (session_due session.sockets) most
  side_due Bot session most h =
      let bot = next_deadline session.sockets.reading session.sockets.sides.bot.stalls_at session.sockets.sides.bot.silent_from in
      let server = next_deadline session.sockets.reading session.sockets.sides.server.stalls_at session.sockets.sides.server.silent_from in
      earlier_left (earlier bot server) session.sockets.im_due most (earlier_left bot server most h)
  side_due Server session most h =
      let bot = next_deadline session.sockets.reading session.sockets.sides.bot.stalls_at session.sockets.sides.bot.silent_from in
      let server = next_deadline session.sockets.reading session.sockets.sides.server.stalls_at session.sockets.sides.server.silent_from in
      earlier_left (earlier bot server) session.sockets.im_due most (earlier_right bot server most h)

  -- with an idle timeout that is not over, or a stall timeout that runs, there is a deadline
  pub due_there : (idle stall : Duration) (session : SessionTimers S) → (t : IsTimedNow idle stall session) →
      (((side : Side) × IsAwake side session) ⊎ ((side : Side) × IsStalling session.sockets.reading (own session side))) →
      (due : Instant) × (session_due session.sockets ≡ Some due)
      × (instant_nanos due ≤ instant_nanos t.now + max (as_nanos idle) (as_nanos stall))
  due_there idle stall session t some =
      let most = instant_nanos t.now + max (as_nanos idle) (as_nanos stall) in
      is_by_there (session_due session.sockets) most (⊎_elim
      (λ (a : (side : Side) × IsAwake side session).
      side_due a.0 session most (earlier_right (own session a.0).stalls_at
      (due_after session.sockets.reading (own session a.0).silent_from) most (silence_due idle stall a.0 session t a.1)))
      (λ (w : (side : Side) × IsStalling session.sockets.reading (own session side)).
      side_due w.0 session most (earlier_left (own session w.0).stalls_at
      (due_after session.sockets.reading (own session w.0).silent_from) most (stall_due idle stall w.0 session t w.1)))
      some)

-- ---- the calls of a turn

module _ {P : Type 0} (port_transition : P → PortCall → P → Type 0) (K : P → Type 0)
    (stays : (call : PortCall) (a b : P) → port_transition a call b → MakesNoProgress call → IsOfTurn call → K a → K b) where
  kept_later : (calls : List PortCall) (a b : P) → EvolvesBy port_transition a calls b → All MakesNoProgress calls →
      All IsOfTurn calls → K a → K b
  kept_later [] a b h still made k = subst K (sym h) k
  kept_later (call ∷ calls) a b h still made k =
      kept_later calls h.0 b h.2 (All-tail MakesNoProgress call calls still) (All-tail IsOfTurn call calls made)
      (stays call a h.0 h.1 (All-head MakesNoProgress call calls still) (All-head IsOfTurn call calls made) k)

  -- a call of a turn brings it about, and no later one ends it
  pub kept_from : (one : PortCall) → ((a b : P) → port_transition a one b → MakesNoProgress one → IsOfTurn one → K b) →
      (calls : List PortCall) (k : ℕ) → k < length calls → get_or calls k one ≡ one → (a b : P) →
      EvolvesBy port_transition a calls b → All MakesNoProgress calls → All IsOfTurn calls → K b
  kept_from one comes [] k less is a b h still made = absurd (omega (arith, less))
  kept_from one comes (call ∷ calls) zero less is a b h still made =
      kept_later calls h.0 b h.2 (All-tail MakesNoProgress call calls still) (All-tail IsOfTurn call calls made)
      (comes a h.0 (subst (λ (c : PortCall). port_transition a c h.0) is h.1)
      (subst MakesNoProgress is (All-head MakesNoProgress call calls still))
      (subst IsOfTurn is (All-head IsOfTurn call calls made)))
  kept_from one comes (call ∷ calls) (suc k) less is a b h still made =
      kept_from one comes calls k (omega (arith, less)) is h.0 b h.2 (All-tail MakesNoProgress call calls still)
      (All-tail IsOfTurn call calls made)
