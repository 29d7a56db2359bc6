-- Each session of a run began with the timeouts of the run.
use Rattle.std.proofs.Common.{◌≡◌, ◌≢◌, ℕ, zero, suc, ◌<◌, List, [], ◌∷◌, length, get_or, refl, sym, ap, ◌∙◌, subst, arith}
use Rattle.std.proofs.Common.{Option, Some, None}
use Rattle.std.specs.Prelude.{Contains}
use Rattle.std.specs.Duration.{as_nanos}
use Rattle.std.specs.declared.time.Duration.{Duration}
use Rattle.std.specs.declared.time.Instant.{Instant}
use Rattle.daide_io.specs.Network.{NetworkCall}
use Rattle.daide_io.specs.System.{SystemCall, Polls, Shows, Accepts, Connects, BeginsTurn, Rests, Retires, Notifies, TransitsBy}
use Rattle.daide_io.specs.declared.system.Connect.TheVariants.{Ready, Failed, Pending}
use Rattle.daide_sockets.specs.Scheduling.{RunState, SameTimes, Schedules}
use Rattle.daide_sockets.specs.Timers.{SessionTimers, BeginsAt}
use Rattle.daide_sockets.specs.Clock.{IsIdleTime, IsSeconds}
use Rattle.daide_run_laws.specs.FreedPlaces.{IsReading}
use Rattle.daide_run_laws.proofs.TimedSessions.{BeginsTimed}

-- a timeout that the settings have
pub set_time : (seconds : ℕ) (time : Option Duration) → IsIdleTime seconds time → seconds ≢ 0 →
    (set : Duration) × (time ≡ Some set) × IsSeconds seconds set
set_time seconds None h some = absurd (some h)
set_time seconds (Some time) h some = (time, refl, h.1)

-- it lasts
pub seconds_last : (seconds : ℕ) (time : Duration) → IsSeconds seconds time → seconds ≢ 0 → 0 < as_nanos time
seconds_last zero time h some = absurd (some refl)
seconds_last (suc more) time h some = omega (arith, h)

module _ {N C P S : Type 0} (network : N → NetworkCall C → N → Type 0) (timers : P → SessionTimers S) where
  abbrev Begun : P → Option Duration × Option Duration → Type 0
  Begun ports times = (start : Option Instant) × BeginsAt start times (timers ports)

  -- no call changes the timeouts of the run
  same_times : (old new : RunState N S) → SameTimes old new → new.times ≡ old.times
  same_times old new h =
      ap (λ (t : Option Duration). (t, new.times.1)) h.0 ∙ ap (λ (t : Option Duration). (old.times.0, t)) h.1

  times_kept : (call : SystemCall P) (old new : RunState N S) → Schedules network timers old call new → new.times ≡ old.times
  times_kept (Polls may_block woken orders) old new h = same_times old new h.0
  times_kept (Accepts place came) old new h = same_times old new h.0
  times_kept (Connects place (Ready ports)) old new h = same_times old new h.0.0
  times_kept (Connects place Failed) old new h = same_times old new h.0
  times_kept (Connects place Pending) old new h = same_times old new h.0.0
  times_kept (Shows ports status) old new h = same_times old new h.0
  times_kept (BeginsTurn place account before after) old new h = same_times old new h.0
  times_kept (Rests place ports rests) old new h = same_times old new h.0
  times_kept (Retires place ports end) old new h = same_times old new h.0
  times_kept (Notifies notice) old new h = same_times old new h.0

  begun_at : (place : ℕ) (ports : P) (calls : List (SystemCall P)) (old new : RunState N S) →
      TransitsBy (Schedules network timers) old calls new → (i : ℕ) → i < length calls →
      get_or calls i (Connects place (Ready ports)) ≡ Connects place (Ready ports) → Begun ports old.times
  begun_at place ports [] old new h i less is = absurd (omega (arith, less))
  begun_at place ports (call ∷ calls) old new h zero less is =
      let own = subst (λ (c : SystemCall P). Schedules network timers old c h.0) is h.1 in
      (old.table.reading, own.1)
  begun_at place ports (call ∷ calls) old new h (suc i) less is =
      subst (Begun ports) (times_kept call old h.0 h.1) (begun_at place ports calls h.0 new h.2 i (omega (arith, less)) is)

  -- the ports of each connect of a run began with its timeouts
  pub begun_with : (place : ℕ) (ports : P) (calls : List (SystemCall P)) (old new : RunState N S) →
      TransitsBy (Schedules network timers) old calls new → Contains calls (Connects place (Ready ports)) →
      (start : Option Instant) × BeginsAt start old.times (timers ports)
  begun_with place ports calls old new h there = begun_at place ports calls old new h there.0 there.1 there.2

-- at a reading of the clock, with both timeouts
pub begins_with_both : {S : Type 0} (idle stall : Duration) (times : Option Duration × Option Duration)
    (start : Option Instant) (now : Instant) (session : SessionTimers S) → times ≡ (Some idle, Some stall) → 0 < as_nanos idle →
    IsReading idle stall session.sockets.reading now → BeginsAt start times session → BeginsTimed idle stall session
begins_with_both idle stall times start now session both lasts reading h = record {
  idle_lasts = lasts;
  now = now;
  reading = reading;
  begins = subst (λ (s : Option Instant). BeginsAt s (Some idle, Some stall) session) (sym h.reading ∙ reading.read)
      (subst (λ (t : Option Duration × Option Duration). BeginsAt start t session) both h);
}
