-- Streams that close in stages: the buffered bytes are written, writing ends, the bytes received are dropped, and the
-- stream is released. (own)
use Rattle.std.specs.Prelude.{◌≡◌, ◌⊎◌, ℕ, zero, suc, ◌+◌, ◌<◌, ◌≤◌, ◌||◌, min, nat_eq, nat_lt, if◌then◌else◌, Bool, true, false}
use Rattle.std.specs.Prelude.{List, [], ◌∷◌, ◌++◌, length, Option, Some, None, slice_get, slice_set, remove}
use Rattle.std.specs.Duration.{as_nanos}
use Rattle.std.specs.declared.time.Duration.{Duration}
use Rattle.std.specs.declared.time.Instant.{Instant}
use Rattle.daide_io.specs.declared.ports.Pull.{Pull}
use Rattle.daide_io.specs.declared.ports.Pull.TheVariants.{Got}
use Rattle.daide_buffered_io.specs.declared.readiness.Readiness.{Readiness}
use Rattle.daide_buffered_io.specs.Buffers.{Buffer, Passes, ReadsNothing, WritesNothing, IsBufferedPull, IsFlushed}
use Rattle.daide_buffered_io.specs.Calls.{is_last_piece}
use Rattle.daide_io.specs.Streams.{StreamCall}
use Rattle.daide_sockets.specs.Sockets.{write_if}
use Rattle.daide_sockets.specs.Table.{merged}
use Rattle.daide_sockets.specs.Clock.{IsAfter, StallsNext, has_stalled, is_past, is_time_over}

-- a closing stream: the key of its row; what is known of it without a call; its peer's stall timeout, and when that
-- expires; how many more bytes may be dropped; the deadline of its release, none before its writing is over; and the bound
-- of its closing, none without a stall timeout
pub record ClosingStream (S : Type 0) : Type 0 where
  pub stream : Buffer S
  pub key : ℕ
  pub known : Readiness
  pub stall_time : Option Duration
  pub stalls_at : Option Instant
  pub quota : ℕ
  pub released_at : Option Instant
  pub closes_at : Option Instant

-- The closing streams, oldest first. A pass advances each stream that was closing when it began: those before `next`
-- were advanced, those from there to `pass_end` are next, and those after it came since. Each has this stall timeout.
pub record ClosingList (S : Type 0) : Type 0 where
  pub streams : List (ClosingStream S)
  pub next : ℕ
  pub pass_end : ℕ
  pub stall_time : Option Duration

-- no stream is closing
abbrev pub no_closing : {S : Type 0} → Option Duration → ClosingList S
no_closing time = record { streams = []; next = 0; pass_end = 0; stall_time = time }

-- at most 1 MiB of one stream is dropped
abbrev pub drop_quota : ℕ
drop_quota = 1048576

-- the peer's end is awaited for at most a second, in nanoseconds
abbrev pub end_time : ℕ
end_time = 1000000000

-- The bound of a closing that begins at this reading of the clock: the peer's stall timeout and the second for its end
-- later. There is none without a stall timeout.
abbrev pub IsClosingBound : Option Instant → Option Duration → Option Instant → Type 0
IsClosingBound now None bound = bound ≡ None
IsClosingBound now (Some time) bound = IsAfter now (as_nanos time + end_time) bound

-- a stream whose closing begins, with this bound: its peer's stall timeout starts again
abbrev pub begins_closing : {S : Type 0} → Option Duration → Option Instant → ℕ → Readiness → Buffer S → ClosingStream S
begins_closing time bound key known stream = record {
  stream = stream;
  key = key;
  known = known;
  stall_time = time;
  stalls_at = None;
  quota = drop_quota;
  released_at = None;
  closes_at = bound;
}

-- a stream that took a report of its row
abbrev pub with_report : {S : Type 0} → Readiness → ClosingStream S → ClosingStream S
with_report report closing = record closing { known = merged closing.known report }

-- ---- one step

-- some buffered bytes may still be written
abbrev pub IsWriting : {S : Type 0} → Buffer S → Type 0
IsWriting stream = (stream.has_failed ≡ false) × (0 < length stream.write_buffer)

-- all buffered bytes are written, or a write failed, or the peer was given up as stalled
abbrev pub IsWritingOver : {S : Type 0} → Buffer S → Type 0
IsWritingOver stream = stream.has_failed ≡ false → stream.write_buffer ≡ []

-- nothing was read from a stream or put to it, and the bytes that it took are a prefix of the buffered ones
abbrev pub Flushes : {S : Type 0} → (S → Option (List ℕ)) → (S → Option (List ℕ)) → Buffer S → Buffer S → Type 0
Flushes to_give taken old new = Passes to_give taken old [] [] new × ReadsNothing to_give old new

-- The last try to write to a peer, whose stall timeout is over. The buffered bytes are written once, whatever is known of
-- the stream. If the peer takes none of them, or none is buffered, it is given up: its stream counts as failed. If it takes
-- one, it is not.
pub record TriesLast {S : Type 0} (calls : S → Option (List StreamCall)) (known : Readiness) (old : Buffer S)
    (still : Readiness) (new : Buffer S) : Type 0 where
  pub tried : Buffer S
  pub written : IsWriting old → IsFlushed calls (write_if true known) old still tried
  pub nothing : IsWritingOver old → (tried ≡ old) × (still ≡ write_if true known)
  pub takes : length tried.write_buffer < length old.write_buffer → new ≡ tried
  pub gives_up : length old.write_buffer ≤ length tried.write_buffer → new ≡ record tried { has_failed = true }

-- One try to write, at this reading of the clock. It is the last one once the stall timeout of the peer is over. Before that
-- all buffered bytes are written to the stream once, those that it doesn't take stay buffered, and it fails if the write
-- does. Nothing else gives up.
pub record TriesWriting {S : Type 0} (calls : S → Option (List StreamCall)) (now : Option Instant)
    (old new : ClosingStream S) : Type 0 where
  pub last : has_stalled old.stall_time now old.stalls_at ≡ true →
      TriesLast calls old.known old.stream new.known new.stream
  pub written : has_stalled old.stall_time now old.stalls_at ≡ false → IsWriting old.stream →
      IsFlushed calls old.known old.stream new.known new.stream
  pub nothing : has_stalled old.stall_time now old.stalls_at ≡ false → IsWritingOver old.stream →
      (new.stream ≡ old.stream) × (new.known ≡ old.known)
  pub waits : IsWriting new.stream → StallsNext old.stall_time now old.stalls_at
      (nat_lt (length new.stream.write_buffer) (length old.stream.write_buffer)) new.stalls_at
  pub stall_time : new.stall_time ≡ old.stall_time
  pub key : new.key ≡ old.key

-- Buffered bytes are written. Once all are, or a write failed or counts as failed, the last second begins at this
-- reading of the clock.
pub record WritesOut {S : Type 0} (to_give taken : S → Option (List ℕ)) (calls : S → Option (List StreamCall))
    (now : Option Instant) (old new : ClosingStream S) : Type 0 where
  pub tried : ClosingStream S
  pub tries : TriesWriting calls now old tried
  pub write_buffer : new.stream.write_buffer ≡ tried.stream.write_buffer
  pub failed : new.stream.has_failed ≡ tried.stream.has_failed
  pub key : new.key ≡ tried.key
  pub known : new.known ≡ tried.known
  pub stall_time : new.stall_time ≡ tried.stall_time
  pub stalls_at : new.stalls_at ≡ tried.stalls_at
  pub flushes : Flushes to_give taken old.stream new.stream
  pub quota : new.quota ≡ old.quota
  pub closes_at : new.closes_at ≡ old.closes_at
  pub stage : (IsWriting new.stream × (new.released_at ≡ old.released_at))
      ⊎ (IsWritingOver new.stream × IsAfter now end_time new.released_at)

-- One pull of at most 4,096 bytes drops a piece, within the quota: the bytes read ahead, and the next bytes of the
-- stream. The stream takes nothing more.
pub record Discards {S : Type 0} (to_give taken : S → Option (List ℕ)) (calls : S → Option (List StreamCall))
    (pull : Pull) (old new : ClosingStream S) : Type 0 where
  pub bytes : List ℕ
  pub passes : Passes to_give taken old.stream bytes [] new.stream
  pub unwritten : WritesNothing taken old.stream new.stream
  pub failed : new.stream.has_failed ≡ old.stream.has_failed
  pub quota : old.quota ≡ new.quota + length bytes
  pub key : new.key ≡ old.key
  pub pulled : IsBufferedPull calls (min old.quota 4096) old.known old.stream pull new.known new.stream
  pub ahead : 0 < length old.stream.read_buffer →
      pull ≡ Got (min (length old.stream.read_buffer) (min old.quota 4096))
  pub released_at : new.released_at ≡ old.released_at
  pub closes_at : new.closes_at ≡ old.closes_at

-- After this pull it is released: at the stream's end, at the end of its quota, or if its time is over.
abbrev pub is_released : {S : Type 0} → Option Instant → Pull → ClosingStream S → Bool
is_released now pull stream = is_last_piece pull stream.quota || is_time_over now stream.released_at

-- One step in stages: while bytes are buffered, they are written, and then the bytes received are dropped.
abbrev pub AdvancesOn : {S : Type 0} → (S → Option (List ℕ)) → (S → Option (List ℕ)) → (S → Option (List StreamCall)) →
    Option Instant → ClosingStream S → ClosingStream S → Type 0
AdvancesOn to_give taken calls now old new = (IsWriting old.stream × WritesOut to_give taken calls now old new)
    ⊎ ((pull : Pull) × IsWritingOver old.stream × Discards to_give taken calls pull old new
    × (is_released now pull new ≡ false))

-- The last step in stages, of a stream that is released: not before its writing is over.
abbrev pub IsReleasedNow : {S : Type 0} → (S → Option (List ℕ)) → (S → Option (List ℕ)) → (S → Option (List StreamCall)) →
    Option Instant → ClosingStream S → Type 0
IsReleasedNow {S} to_give taken calls now old = (last : ClosingStream S) × (pull : Pull) × IsWritingOver old.stream
    × Discards to_give taken calls pull old last × (is_released now pull last ≡ true)

-- One step of a stream that stays: its bound is not past at this reading of the clock.
abbrev pub LingersOn : {S : Type 0} → (S → Option (List ℕ)) → (S → Option (List ℕ)) → (S → Option (List StreamCall)) →
    Option Instant → ClosingStream S → ClosingStream S → Type 0
LingersOn to_give taken calls now old new =
    (is_past now old.closes_at ≡ false) × AdvancesOn to_give taken calls now old new

-- The last step of a stream: its bound is past at this reading of the clock, or it is released.
abbrev pub LeavesNow : {S : Type 0} → (S → Option (List ℕ)) → (S → Option (List ℕ)) → (S → Option (List StreamCall)) →
    Option Instant → ClosingStream S → Type 0
LeavesNow to_give taken calls now old =
    (is_past now old.closes_at ≡ true) ⊎ IsReleasedNow to_give taken calls now old

-- a stream takes a report of its row, and then makes a step and stays
abbrev pub Lingers : {S : Type 0} → (S → Option (List ℕ)) → (S → Option (List ℕ)) → (S → Option (List StreamCall)) →
    Option Instant → ClosingStream S → ClosingStream S → Type 0
Lingers to_give taken calls now old new =
    (report : Readiness) × LingersOn to_give taken calls now (with_report report old) new

-- a stream takes a report of its row, and then makes its last step
abbrev pub Leaves : {S : Type 0} → (S → Option (List ℕ)) → (S → Option (List ℕ)) → (S → Option (List StreamCall)) →
    Option Instant → ClosingStream S → Type 0
Leaves to_give taken calls now old = (report : Readiness) × LeavesNow to_give taken calls now (with_report report old)

-- ---- one round

-- a pass whose streams were all advanced is over: the next one has all that are closing
abbrev pub in_pass : {S : Type 0} → ClosingList S → ClosingList S
in_pass old = if nat_eq old.next old.pass_end then record old { next = 0; pass_end = length old.streams } else old

module _ {S : Type 0} (to_give taken : S → Option (List ℕ)) (calls : S → Option (List StreamCall)) where
  -- the first of a list is advanced: it stays in its place, or leaves
  abbrev pub IsLookedAt : Option Instant → ClosingStream S → List (ClosingStream S) → List (ClosingStream S) → Type 0
  IsLookedAt now stream others new =
      ((next : ClosingStream S) × (new ≡ next ∷ others) × Lingers to_give taken calls now stream next)
      ⊎ ((new ≡ others) × Leaves to_give taken calls now stream)

  -- each of a list is advanced, and all keep their order
  abbrev pub LooksAtEach : Option Instant → List (ClosingStream S) → List (ClosingStream S) → Type 0
  LooksAtEach now [] new = new ≡ []
  LooksAtEach now (stream ∷ old) new = (others : List (ClosingStream S)) × LooksAtEach now old others
      × IsLookedAt now stream others new

  -- the one at a position was advanced; this is the position of the next
  abbrev pub LooksAtOne : Option Instant → ℕ → List (ClosingStream S) → ℕ → List (ClosingStream S) → Type 0
  LooksAtOne now at old next new = (one : ClosingStream S) × (slice_get old at ≡ Some one)
      × (((next ≡ at + 1) × ((later : ClosingStream S) × (new ≡ slice_set old at later)
      × Lingers to_give taken calls now one later))
      ⊎ ((next ≡ at) × (new ≡ remove old at) × Leaves to_give taken calls now one))

  -- those from one position up to another were advanced, and the others are unchanged; this is the position of the next
  pub record LooksAlong (now : Option Instant) (from to : ℕ) (old : List (ClosingStream S)) (at : ℕ)
      (new : List (ClosingStream S)) : Type 0 where
    pub front : List (ClosingStream S)
    pub seen : List (ClosingStream S)
    pub moved : List (ClosingStream S)
    pub rest : List (ClosingStream S)
    pub before : old ≡ front ++ seen ++ rest
    pub after : new ≡ front ++ moved ++ rest
    pub start : length front ≡ from
    pub len : from + length seen ≡ to
    pub looked : LooksAtEach now seen moved
    pub end : at ≡ from + length moved

  -- One round advances the next eight of the pass, or those that are left of it, at one reading of the clock. So a pass
  -- over 256 takes at most 32 rounds, and a stream that comes meanwhile is in the next pass.
  pub record LooksAround (now : Option Instant) (pass new : ClosingList S) : Type 0 where
    pub looked : LooksAlong now pass.next (min pass.pass_end (pass.next + 8)) pass.streams new.next new.streams
    pub pass_end : new.pass_end + length pass.streams ≡ pass.pass_end + length new.streams
    pub stall_time : new.stall_time ≡ pass.stall_time

  -- a round, at some reading of the clock
  abbrev pub ClosingsGoOn : ClosingList S → ClosingList S → Type 0
  ClosingsGoOn old new = (now : Option Instant) × LooksAround now (in_pass old) new

  -- this number of rounds
  abbrev pub GoOnFor : ℕ → ClosingList S → ClosingList S → Type 0
  GoOnFor zero old new = new ≡ old
  GoOnFor (suc rounds) old new = (mid : ClosingList S) × GoOnFor rounds old mid × ClosingsGoOn mid new
