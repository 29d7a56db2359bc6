-- The timers of a session, by the calls of its ports.
use Rattle.std.proofs.Common.{◌≡◌, ◌⊎◌, ℕ, ◌+◌, ◌≤◌, ◌<◌, Bool, true, false, List, [], ◌∷◌, refl, sym, ap, ◌∙◌, subst, arith, inl, inr, ⊎_elim}
use Rattle.std.proofs.Common.{Option, Some, None}
use Rattle.std.specs.Duration.{as_nanos}
use Rattle.std.specs.Time.{instant_nanos, FitsClock}
use Rattle.std.specs.declared.time.Duration.{Duration}
use Rattle.std.specs.declared.time.Instant.{Instant}
use Rattle.daide_frame.specs.declared.side.Side.{Side}
use Rattle.daide_frame.specs.Side.{other}
use Rattle.daide_buffered_io.proofs.StreamLemmas.{of_both}
use Rattle.daide_io.specs.declared.ports.Pull.{Pull}
use Rattle.daide_io.specs.Ports.{PortCall, TurnBegins, Clock, Pulled, Offered, EvolvesBy}
use Rattle.daide_sockets.specs.declared.socket.Socket.{Socket}
use Rattle.daide_sockets.specs.Timers.{SessionTimers, BeginsAt, FlushesInTime, KeepsTimers, PullsInTime, SetsTimers, is_got}
use Rattle.daide_sockets.specs.Clock.{IsAfter, IsStallEnd}
use Rattle.daide_sockets.specs.Wakeups.{socket_at}
use Rattle.daide_run_laws.specs.FreedPlaces.{HasTimeouts, IsReading, IsLater, ClockGoesOn}

-- the calls of ports do to the timers of their session what `SetsTimers` says
abbrev pub PortsSetTimers : {P S : Type 0} → (P → PortCall → P → Type 0) → (P → SessionTimers S) → Type 0
PortsSetTimers {P} port_transition timers = (old new : P) (call : PortCall) → port_transition old call new →
    SetsTimers call (timers old) (timers new)

-- ---- one call

module _ {S : Type 0} where
  abbrev pub own : SessionTimers S → Side → Socket S
  own session side = socket_at session.sockets side

  -- the stall timeout after a call
  pub record KeepsStall (reading : Option Instant) (old new : Socket S) : Type 0 where
    pub stall_time : new.stall_time ≡ old.stall_time
    pub stall : (new.stalls_at ≡ old.stalls_at) ⊎ ((new.stalls_at ≡ None) ⊎ IsStallEnd reading old.stall_time new.stalls_at)
    pub failed : old.stream.has_failed ≡ true →
        (new.stream.has_failed ≡ true) × ((new.stalls_at ≡ old.stalls_at) ⊎ (new.stalls_at ≡ None))

  -- the idle timeout after a call
  abbrev pub KeepsSilence : Option Instant → Option Duration → Socket S → Socket S → Type 0
  KeepsSilence reading time old new = (new.silent_from ≡ old.silent_from) ⊎ IsStallEnd reading time new.silent_from

  kept_stall : (reading : Option Instant) (old new : Socket S) → KeepsTimers reading old new → KeepsStall reading old new
  kept_stall reading old new h = record { stall_time = h.stall_time; stall = h.stall; failed = h.failed }

  pulled_stall : (reading : Option Instant) (time : Option Duration) (pull : Pull) (old new : Socket S) →
      PullsInTime reading time pull old new → KeepsStall reading old new
  pulled_stall reading time pull old new h = record {
    stall_time = h.stall_time;
    stall = inl h.stalls_at;
    failed = λ f. (h.failed ∙ f, inl h.stalls_at);
  }

  same_stall : (reading : Option Instant) (old new : Socket S) → new ≡ old → KeepsStall reading old new
  same_stall reading old new e = record {
    stall_time = ap (λ (s : Socket S). s.stall_time) e;
    stall = inl (ap (λ (s : Socket S). s.stalls_at) e);
    failed = λ f. (ap (λ (s : Socket S). s.stream.has_failed) e ∙ f, inl (ap (λ (s : Socket S). s.stalls_at) e));
  }

  pulled_silence : (reading : Option Instant) (time : Option Duration) (pull : Pull) (old new : Socket S) →
      PullsInTime reading time pull old new → KeepsSilence reading time old new
  pulled_silence reading time pull old new h = by (is_got pull) refl
    where
      by : (got : Bool) → is_got pull ≡ got → KeepsSilence reading time old new
      by true e = inr (h.starts e)
      by false e = inl (h.goes_on e)

  -- the clock of a call that begins no turn is the one before
  at_stall : (one other : Option Instant) (old new : Socket S) → other ≡ one → KeepsStall one old new →
      KeepsStall other old new
  at_stall one other old new e h = subst (λ (r : Option Instant). KeepsStall r old new) (sym e) h

  -- the side that a call does not name
  flushed_stall : (side : Side) (old new : SessionTimers S) → new.sockets.reading ≡ old.sockets.reading →
      FlushesInTime old.sockets.reading (own old (other side)) (own new (other side)) →
      KeepsStall new.sockets.reading (own old (other side)) (own new (other side))
  flushed_stall side old new same h =
      at_stall old.sockets.reading new.sockets.reading (own old (other side)) (own new (other side)) same
      (kept_stall old.sockets.reading (own old (other side)) (own new (other side)) h.kept)

  pub step_stall : (call : PortCall) (old new : SessionTimers S) → SetsTimers call old new → (side : Side) →
      KeepsStall new.sockets.reading (own old side) (own new side)
  step_stall TurnBegins old new h = λ side. kept_stall new.sockets.reading (own old side) (own new side) (h.3 side).kept
  step_stall (Clock event) old new h = λ side.
      same_stall new.sockets.reading (own old side) (own new side) (ap (λ (s : SessionTimers S). own s side) h.1)
  step_stall (Pulled side room pull bytes) old new h =
      of_both (λ (one : Side). KeepsStall new.sockets.reading (own old one) (own new one)) side
      (at_stall old.sockets.reading new.sockets.reading (own old side) (own new side) h.0.reading
      (pulled_stall old.sockets.reading old.idle_time pull (own old side) (own new side) h.1))
      (flushed_stall side old new h.0.reading h.2)
  step_stall (Offered side bytes put) old new h =
      of_both (λ (one : Side). KeepsStall new.sockets.reading (own old one) (own new one)) side
      (at_stall old.sockets.reading new.sockets.reading (own old side) (own new side) h.0.reading
      (kept_stall old.sockets.reading (own old side) (own new side) h.1.kept))
      (flushed_stall side old new h.0.reading h.2)

  at_silence : (one other : Option Instant) (time : Option Duration) (old new : Socket S) → other ≡ one →
      KeepsSilence one time old new → KeepsSilence other time old new
  at_silence one other time old new e h = subst (λ (r : Option Instant). KeepsSilence r time old new) (sym e) h

  pub step_silence : (call : PortCall) (old new : SessionTimers S) → SetsTimers call old new → (side : Side) →
      KeepsSilence new.sockets.reading old.idle_time (own old side) (own new side)
  step_silence TurnBegins old new h = λ side. inl (h.3 side).kept.silent_from
  step_silence (Clock event) old new h = λ side. inl (ap (λ (s : SessionTimers S). (own s side).silent_from) h.1)
  step_silence (Pulled side room pull bytes) old new h =
      of_both (λ (one : Side). KeepsSilence new.sockets.reading old.idle_time (own old one) (own new one)) side
      (at_silence old.sockets.reading new.sockets.reading old.idle_time (own old side) (own new side) h.0.reading
      (pulled_silence old.sockets.reading old.idle_time pull (own old side) (own new side) h.1))
      (inl h.2.kept.silent_from)
  step_silence (Offered side bytes put) old new h =
      of_both (λ (one : Side). KeepsSilence new.sockets.reading old.idle_time (own old one) (own new one)) side
      (inl h.1.kept.silent_from) (inl h.2.kept.silent_from)

  pub step_idle_time : (call : PortCall) (old new : SessionTimers S) → SetsTimers call old new → new.idle_time ≡ old.idle_time
  step_idle_time TurnBegins old new h = h.0
  step_idle_time (Clock event) old new h = ap (λ (s : SessionTimers S). s.idle_time) h.1
  step_idle_time (Pulled side room pull bytes) old new h = h.0.idle_time
  step_idle_time (Offered side bytes put) old new h = h.0.idle_time

  pub step_timeouts : (idle stall : Duration) (call : PortCall) (old new : SessionTimers S) → SetsTimers call old new →
      HasTimeouts idle stall old → HasTimeouts idle stall new
  step_timeouts idle stall call old new h k = record {
    idle_time = step_idle_time call old new h ∙ k.idle_time;
    idle_lasts = k.idle_lasts;
    stall_time = λ side. (step_stall call old new h side).stall_time ∙ k.stall_time side;
  }

  -- ---- the deadlines of a session

  -- a timed session: its deadlines are no later than its timeouts after the reading of its last turn
  pub record IsTimedNow (idle stall : Duration) (session : SessionTimers S) : Type 0 where
    pub timeouts : HasTimeouts idle stall session
    pub now : Instant
    pub reading : IsReading idle stall session.sockets.reading now
    pub silence : (side : Side) → (moment : Instant) × ((own session side).silent_from ≡ Some moment)
        × (instant_nanos moment ≤ instant_nanos now + as_nanos idle)
    pub stalls : (side : Side) (moment : Instant) → (own session side).stalls_at ≡ Some moment →
        instant_nanos moment ≤ instant_nanos now + as_nanos stall

-- a moment within the range of the clock is there
pub after_there : (now : Instant) (time : ℕ) (moment : Option Instant) → FitsClock (instant_nanos now + time) →
    IsAfter (Some now) time moment → (at : Instant) × (moment ≡ Some at) × (instant_nanos at ≡ instant_nanos now + time)
after_there now time None fits h = absurd (h fits)
after_there now time (Some at) fits h = (at, refl, h)

-- a timeout that starts at a reading
pub end_there : (reading : Option Instant) (set : Option Duration) (now : Instant) (time : Duration) (moment : Option Instant) →
    reading ≡ Some now → set ≡ Some time → FitsClock (instant_nanos now + as_nanos time) → IsStallEnd reading set moment →
    (at : Instant) × (moment ≡ Some at) × (instant_nanos at ≡ instant_nanos now + as_nanos time)
end_there reading set now time moment read is fits h =
    after_there now (as_nanos time) moment fits
    (subst (λ (t : Option Duration). IsStallEnd (Some now) t moment) is
    (subst (λ (r : Option Instant). IsStallEnd r set moment) read h))

same_instant : (a b : Instant) (reading : Option Instant) → reading ≡ Some a → reading ≡ Some b → a ≡ b
same_instant a b reading e f = cc

-- a session as it begins, at a reading of the clock, with both timeouts
pub record BeginsTimed {S : Type 0} (idle stall : Duration) (session : SessionTimers S) : Type 0 where
  pub idle_lasts : 0 < as_nanos idle
  pub now : Instant
  pub reading : IsReading idle stall session.sockets.reading now
  pub begins : BeginsAt (Some now) (Some idle, Some stall) session

module _ {S : Type 0} (idle stall : Duration) where
  begins_set : (session : SessionTimers S) → BeginsTimed idle stall session → HasTimeouts idle stall session
  begins_set session h = record {
    idle_time = h.begins.idle_time;
    idle_lasts = h.idle_lasts;
    stall_time = h.begins.stall_time;
  }

  pub begins_timed : (session : SessionTimers S) → BeginsTimed idle stall session → IsTimedNow idle stall session
  begins_timed session h = record {
    timeouts = begins_set session h;
    now = h.now;
    reading = h.reading;
    silence = λ side. let own_end = after_there h.now (as_nanos idle) (own session side).silent_from h.reading.idle_fits
        (h.begins.silent_from side) in
        let is = own_end.2 in (own_end.0, own_end.1, omega (arith, is));
    stalls = λ side moment e. let none = h.begins.stalls_at side in absurd (cc);
  }

  -- after a call, by the reading of its turn
  timed_by : (old new : SessionTimers S) → IsTimedNow idle stall old → IsLater idle stall old.sockets.reading new.sockets.reading →
      HasTimeouts idle stall new → ((side : Side) → KeepsStall new.sockets.reading (own old side) (own new side)) →
      ((side : Side) → KeepsSilence new.sockets.reading old.idle_time (own old side) (own new side)) →
      IsTimedNow idle stall new
  timed_by old new k later timeouts stalled silent = record {
    timeouts = timeouts;
    now = later.now;
    reading = later.is;
    silence = silence;
    stalls = stalls;
  }
    where
      order : instant_nanos k.now ≤ instant_nanos later.now
      order = subst (λ (i : Instant). instant_nanos i ≤ instant_nanos later.now)
          (same_instant later.before k.now old.sockets.reading later.was k.reading.read) later.order

      silence : (side : Side) → (moment : Instant) × ((own new side).silent_from ≡ Some moment)
          × (instant_nanos moment ≤ instant_nanos later.now + as_nanos idle)
      silence side = ⊎_elim
          (λ (e : (own new side).silent_from ≡ (own old side).silent_from).
          let was = k.silence side in
          let least = was.2 in
          (was.0, e ∙ was.1, omega (arith, least, order)))
          (λ (e : IsStallEnd new.sockets.reading old.idle_time (own new side).silent_from).
          let at = end_there new.sockets.reading old.idle_time later.now idle (own new side).silent_from later.is.read
          k.timeouts.idle_time later.is.idle_fits e in
          let is = at.2 in
          (at.0, at.1, omega (arith, is)))
          (silent side)

      stalls : (side : Side) (moment : Instant) → (own new side).stalls_at ≡ Some moment →
          instant_nanos moment ≤ instant_nanos later.now + as_nanos stall
      stalls side moment is = ⊎_elim
          (λ (e : (own new side).stalls_at ≡ (own old side).stalls_at).
          let least = k.stalls side moment (sym e ∙ is) in omega (arith, least, order))
          (λ (other : ((own new side).stalls_at ≡ None)
          ⊎ IsStallEnd new.sockets.reading (own old side).stall_time (own new side).stalls_at). ⊎_elim
          (λ (e : (own new side).stalls_at ≡ None). absurd (cc))
          (λ (e : IsStallEnd new.sockets.reading (own old side).stall_time (own new side).stalls_at).
          let at = end_there new.sockets.reading (own old side).stall_time later.now stall (own new side).stalls_at later.is.read
          (k.timeouts.stall_time side) later.is.stall_fits e in
          let same = same_instant moment at.0 (own new side).stalls_at is at.1 in
          let exact = at.2 in
          let nanos = ap instant_nanos same in omega (arith, exact, nanos)) other)
          (stalled side).stall

  pub timed_step : (call : PortCall) (old new : SessionTimers S) → SetsTimers call old new → IsTimedNow idle stall old →
      IsLater idle stall old.sockets.reading new.sockets.reading → IsTimedNow idle stall new
  timed_step call old new h k later =
      timed_by old new k later (step_timeouts idle stall call old new h k.timeouts) (step_stall call old new h)
      (step_silence call old new h)

  -- within a turn the reading is the same
  same_later : (old new : SessionTimers S) → IsTimedNow idle stall old → new.sockets.reading ≡ old.sockets.reading →
      IsLater idle stall old.sockets.reading new.sockets.reading
  same_later old new k e = record {
    before = k.now;
    now = k.now;
    was = k.reading.read;
    is = record { read = e ∙ k.reading.read; idle_fits = k.reading.idle_fits; stall_fits = k.reading.stall_fits };
    order = omega arith;
  }

  -- ---- a history

  module _ {P : Type 0} (port_transition : P → PortCall → P → Type 0) (timers : P → SessionTimers S)
      (keeps : PortsSetTimers port_transition timers) where
    pub history_timed : (calls : List PortCall) (a b : P) (h : EvolvesBy port_transition a calls b) →
        ClockGoesOn port_transition timers idle stall calls a b h → IsTimedNow idle stall (timers a) →
        IsTimedNow idle stall (timers b)
    history_timed [] a b h clock k = subst (λ (ports : P). IsTimedNow idle stall (timers ports)) (sym h) k
    history_timed (TurnBegins ∷ calls) a b h clock k =
        history_timed calls h.0 b h.2 clock.1
        (timed_step TurnBegins (timers a) (timers h.0) (keeps a h.0 TurnBegins h.1) k clock.0)
    history_timed (Clock event ∷ calls) a b h clock k =
        history_timed calls h.0 b h.2 clock
        (subst (λ (s : SessionTimers S). IsTimedNow idle stall s) (sym (keeps a h.0 (Clock event) h.1).1) k)
    history_timed (Pulled side room pull bytes ∷ calls) a b h clock k =
        let t = keeps a h.0 (Pulled side room pull bytes) h.1 in
        history_timed calls h.0 b h.2 clock
        (timed_step (Pulled side room pull bytes) (timers a) (timers h.0) t k (same_later (timers a) (timers h.0) k t.0.reading))
    history_timed (Offered side bytes put ∷ calls) a b h clock k =
        let t = keeps a h.0 (Offered side bytes put) h.1 in
        history_timed calls h.0 b h.2 clock
        (timed_step (Offered side bytes put) (timers a) (timers h.0) t k (same_later (timers a) (timers h.0) k t.0.reading))
