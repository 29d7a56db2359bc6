-- The clock of a run: what a deadline is and how it is set, when it is past, and until when a poll may block. (own)
use Rattle.std.specs.Prelude.{◌≡◌, ◌≢◌, ◌≤◌, ℕ, ◌+◌, ◌-◌, ◌*◌, ⊤, if◌then◌else◌, nat_le, Bool, true, false, Option, Some, None}
use Rattle.std.specs.Duration.{as_nanos}
use Rattle.std.specs.Time.{instant_nanos, FitsClock}
use Rattle.std.specs.declared.time.Duration.{Duration}
use Rattle.std.specs.declared.time.Instant.{Instant}

-- ---- times, which the settings give in seconds

-- exactly this many seconds
abbrev pub IsSeconds : ℕ → Duration → Type 0
IsSeconds seconds time = as_nanos time ≡ seconds * 1000000000

-- the timeout of a peer in seconds: 0 is no timeout
abbrev pub IsIdleTime : ℕ → Option Duration → Type 0
IsIdleTime seconds None = seconds ≡ 0
IsIdleTime seconds (Some time) = (seconds ≢ 0) × IsSeconds seconds time

-- ---- a deadline is set

-- the moment this many nanoseconds after a reading of the clock: none without a reading, or if the moment is out of
-- range
abbrev pub IsAfter : Option Instant → ℕ → Option Instant → Type 0
IsAfter None time moment = moment ≡ None
IsAfter (Some now) time None = FitsClock (instant_nanos now + time) → ⊥
IsAfter (Some now) time (Some moment) = instant_nanos moment ≡ instant_nanos now + time

-- the moment at which a stall timeout expires if bytes are queued from this reading of the clock on: none for never
abbrev pub IsStallEnd : Option Instant → Option Duration → Option Instant → Type 0
IsStallEnd now None moment = moment ≡ None
IsStallEnd now (Some time) moment = IsAfter now (as_nanos time) moment

-- The moment after a write that leaves bytes queued, by the moment before it. The timeout starts again if the peer took
-- a byte, or if no byte was queued before.
abbrev pub StallsNext : Option Duration → Option Instant → Option Instant → Bool → Option Instant → Type 0
StallsNext time now None took new = IsStallEnd now time new
StallsNext time now (Some moment) true new = IsStallEnd now time new
StallsNext time now (Some moment) false new = new ≡ Some moment

-- ---- a deadline is past

-- whether a moment is past at a reading of the clock; false if either is missing
abbrev pub is_past : Option Instant → Option Instant → Bool
is_past None moment = false
is_past (Some now) None = false
is_past (Some now) (Some moment) = nat_le (instant_nanos moment) (instant_nanos now)

-- whether a time that ends at this moment is over; true without a moment
abbrev pub is_time_over : Option Instant → Option Instant → Bool
is_time_over now None = true
is_time_over now (Some moment) = is_past now (Some moment)

-- whether a peer is stalled at a reading of the clock: it has a timeout, and its moment is past
abbrev pub has_stalled : Option Duration → Option Instant → Option Instant → Bool
has_stalled None now moment = false
has_stalled (Some time) now moment = is_past now moment

-- the deadline of a timer after a turn that began at this reading of the clock: none once it is past
abbrev pub due_after : Option Instant → Option Instant → Option Instant
due_after now due = if is_past now due then None else due

-- ---- several deadlines

-- the earlier of two moments
abbrev pub earlier : Option Instant → Option Instant → Option Instant
earlier None other = other
earlier (Some one) None = Some one
earlier (Some one) (Some other) = if nat_le (instant_nanos one) (instant_nanos other) then Some one else Some other

-- a deadline is none, or is not before the nearest one
abbrev pub IsNotBefore : Option Instant → Option Instant → Type 0
IsNotBefore nearest None = ⊤
IsNotBefore None (Some due) = ⊥
IsNotBefore (Some nearest) (Some due) = instant_nanos nearest ≤ instant_nanos due

-- The next deadline of a peer's timeouts. An idle timeout that is over is none, since the next pull reports it.
abbrev pub next_deadline : Option Instant → Option Instant → Option Instant → Option Instant
next_deadline now stalls_at silent_from = earlier stalls_at (due_after now silent_from)

-- ---- until when a poll may block

-- the time from a reading of the clock until a moment: none without either
abbrev pub IsUntil : Option Instant → Option Instant → Option Duration → Type 0
IsUntil None moment time = time ≡ None
IsUntil (Some now) None time = time ≡ None
IsUntil (Some now) (Some moment) None = ⊥
IsUntil (Some now) (Some moment) (Some time) = as_nanos time ≡ instant_nanos moment - instant_nanos now

-- no time at all
abbrev pub IsNoTime : Option Duration → Type 0
IsNoTime None = ⊥
IsNoTime (Some time) = as_nanos time ≡ 0

-- a time of at most this many nanoseconds
abbrev pub IsAtMost : Option Duration → ℕ → Type 0
IsAtMost None nanos = ⊥
IsAtMost (Some time) nanos = as_nanos time ≤ nanos

-- A poll of this time is in time for something that it watches with this nearest deadline, and with work or without it: it
-- lasts at most until the deadline, and takes no time if there is work. Others may have been watched before it and after it.
pub record IsInTimeFor (reading : Option Instant) (time : Option Duration) (has_work : Bool) (due : Option Instant) :
    Type 0 where
  pub deadline : (now moment : Instant) → reading ≡ Some now → due ≡ Some moment →
      IsAtMost time (instant_nanos moment - instant_nanos now)
  pub work : has_work ≡ true → IsNoTime time
