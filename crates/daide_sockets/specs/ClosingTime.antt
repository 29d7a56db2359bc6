-- How long a stream closes: its deadlines since its closing began, and how often they pass. (own)
use Rattle.std.specs.Prelude.{◌≡◌, ◌≤◌, ◌<◌, ℕ, ◌+◌, ◌&&◌, not, nat_lt, max, if◌then◌else◌, Bool, List, [], ◌∷◌, length, Option, Some, All, Contains}
use Rattle.std.specs.Duration.{as_nanos}
use Rattle.std.specs.Time.{instant_nanos, FitsClock}
use Rattle.std.specs.declared.time.Duration.{Duration}
use Rattle.std.specs.declared.time.Instant.{Instant}
use Rattle.daide_buffered_io.specs.Buffers.{Buffer}
use Rattle.daide_buffered_io.specs.declared.readiness.Readiness.{Readiness}
use Rattle.daide_io.specs.Streams.{StreamCall}
use Rattle.daide_io.specs.System.{SystemCall, TransitsBy}
use Rattle.daide_sockets.specs.PollTimes.{closing_due}
use Rattle.daide_sockets.specs.Lingering.{ClosingStream, IsClosingBound, begins_closing, WritesOut, Lingers, end_time}
use Rattle.daide_sockets.specs.Pairing.{Paired}
use Rattle.daide_sockets.specs.Scheduling.{RunState, ClosesByClock}
use Rattle.daide_sockets.specs.Clock.{is_past}

-- ---- the premise

-- a reading of the clock after which the stall timeout and the time for the peer's end are within the clock's range
pub record IsReadingFor (stall : Duration) (reading : Option Instant) (now : Instant) : Type 0 where
  pub read : reading ≡ Some now
  pub stall_fits : FitsClock (instant_nanos now + as_nanos stall)
  pub end_fits : FitsClock (instant_nanos now + end_time)

-- The clock goes on: these readings, the last one first, are each not before the one before it, and the first of all is
-- not before the start.
abbrev pub ReadingsGoOn : Duration → Option Instant → List (Option Instant) → Instant → Type 0
ReadingsGoOn stall start [] last = IsReadingFor stall start last
ReadingsGoOn stall start (reading ∷ readings) last = (before : Instant) × ReadingsGoOn stall start readings before
    × IsReadingFor stall reading last × (instant_nanos before ≤ instant_nanos last)

-- the readings of the clock that the table of a run had, before each of these calls and after the last
abbrev pub readings_of : {N P S : Type 0} (transition : RunState N S → SystemCall P → RunState N S → Type 0)
    (trace : List (SystemCall P)) (old new : RunState N S) → TransitsBy transition old trace new → List (Option Instant)
readings_of transition [] old new by = old.table.reading ∷ []
readings_of transition (call ∷ trace) old new by =
    old.table.reading ∷ readings_of transition trace by.0 new by.2

-- ---- a closing stream

-- The bound of a stream whose closing began at this moment, in nanoseconds: the stall timeout and the second for the peer's
-- end later.
abbrev pub bound_of : Duration → Instant → ℕ
bound_of stall begun = instant_nanos begun + (as_nanos stall + end_time)

-- the peer of a stream took a byte of what was buffered for it
abbrev pub takes_byte : {S : Type 0} → ClosingStream S → ClosingStream S → Bool
takes_byte old new = nat_lt (length new.stream.write_buffer) (length old.stream.write_buffer)

module _ {S : Type 0} (to_give taken : S → Option (List ℕ)) (calls : S → Option (List StreamCall)) where
  -- a stream was advanced at these readings of the clock, the last one first, and stayed each time
  abbrev pub LingersBy : List (Option Instant) → ClosingStream S → ClosingStream S → Type 0
  LingersBy [] first new = new ≡ first
  LingersBy (now ∷ readings) first new =
      (mid : ClosingStream S) × LingersBy readings first mid × Lingers to_give taken calls now mid new

  -- how often it was advanced at or past the deadline that it had, while its peer took no byte
  abbrev pub overdue_looks : (readings : List (Option Instant)) → (first new : ClosingStream S) → LingersBy readings first new → ℕ
  overdue_looks [] first new by = 0
  overdue_looks (now ∷ readings) first new by =
      (if is_past now (closing_due by.0) && not (takes_byte by.0 new) then 1 else 0) + overdue_looks readings first by.0 by.1

  -- a stream whose closing began, with this stall timeout of its peer, and which was advanced since
  pub record ClosesSince (stall_time : Option Duration) (closing : ClosingStream S) : Type 0 where
    pub start : Option Instant
    pub key : ℕ
    pub known : Readiness
    pub stream : Buffer S
    pub first : ClosingStream S
    pub bound : Option Instant
    pub bounded : IsClosingBound start stall_time bound
    pub begins : WritesOut to_give taken calls start (begins_closing stall_time bound key known stream) first
    pub readings : List (Option Instant)
    pub looks : LingersBy readings first closing

  -- A stream that still closes, and began at this moment. At each reading of the clock at which it was advanced since, it was
  -- within its bound: the stall timeout and a second after that moment. Its deadline is not after its bound.
  pub record IsWithinBound (stall : Duration) (begun : Instant) (readings : List (Option Instant)) (closing : ClosingStream S) :
      Type 0 where
    pub before : All (λ reading. (now : Instant) → reading ≡ Some now → instant_nanos now < bound_of stall begun) readings
    pub due : (due : Instant) × (closing_due closing ≡ Some due) × (instant_nanos due ≤ bound_of stall begun)

  -- A stream that still closes, of which the peer has a stall timeout. It began, and was advanced since, at readings of this
  -- clock. It was advanced at most once at or past a deadline while its peer took no byte. While the clock goes on it has a
  -- deadline, at most the stall timeout or a second after it was advanced last. Whether or not the clock goes on, it is
  -- within its bound.
  pub record IsClosingInTime (stall : Duration) (clock : List (Option Instant)) (closing : ClosingStream S) : Type 0 where
    pub since : ClosesSince (Some stall) closing
    pub by_clock : All (λ reading. Contains clock reading) (since.start ∷ since.readings)
    pub overdue : overdue_looks since.readings since.first closing since.looks ≤ 1
    pub deadline : (last : Instant) → ReadingsGoOn stall since.start since.readings last → (due : Instant)
        × (closing_due closing ≡ Some due) × (instant_nanos due ≤ instant_nanos last + max (as_nanos stall) end_time)
    pub bound : (begun : Instant) → since.start ≡ Some begun → FitsClock (bound_of stall begun) →
        IsWithinBound stall begun since.readings closing

  -- Sockets of a run of which none closed, after any trace of system calls: each closing stream is in time, by the readings
  -- of the clock that the table of the run had. `pair` is the content of ports.
  abbrev pub ClosingSocketsLeave : Type 0 → Type 0 → Type 0
  ClosingSocketsLeave N P = (pair : P → Paired S) (old new : RunState N S) (trace : List (SystemCall P)) (stall : Duration) →
      old.closing.streams ≡ [] → old.closing.stall_time ≡ Some stall →
      (by : TransitsBy (ClosesByClock to_give taken calls pair) old trace new) →
      All (IsClosingInTime stall (readings_of (ClosesByClock to_give taken calls pair) trace old new by)) new.closing.streams
