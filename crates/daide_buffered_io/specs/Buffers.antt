-- A stream with a read buffer and a write buffer. (own)
use Rattle.std.specs.Prelude.{◌≡◌, ◌≤◌, ℕ, Bool, true, false, List, [], ◌++◌, length, drop, Option, Some, None}
use Rattle.std.specs.Io.KnownBytes.{Consumes, Appends}
use Rattle.daide_io.specs.declared.ports.Pull.{Pull}
use Rattle.daide_io.specs.declared.ports.Pull.TheVariants.{Got, Idle, Ended}
use Rattle.daide_buffered_io.specs.declared.readiness.Readiness.{Readiness}
use Rattle.daide_io.specs.declared.ports.Put.{Put}
use Rattle.daide_io.specs.declared.ports.Put.TheVariants.{Failed}
use Rattle.daide_io.specs.Ports.{IsPutWithin}
use Rattle.daide_buffered_io.specs.Calls.{IsPull, IsPut}
use Rattle.daide_io.specs.Streams.{StreamCall}
use Rattle.daide_buffered_io.specs.Taking.{taken_len, has_put_failed}

-- a stream, the bytes of its read buffer (`read_buffer`) and of its write buffer (`write_buffer`), and whether a write
-- failed
pub record Buffer (S : Type 0) : Type 0 where
  pub stream : S
  pub read_buffer : List ℕ
  pub write_buffer : List ℕ
  pub has_failed : Bool

-- the same buffers over another stream
abbrev pub with_stream : {S : Type 0} → Buffer S → S → Buffer S
with_stream buffer stream = record buffer { stream = stream }

-- A buffered stream returned the bytes `out` and accepted the bytes `over`, in FIFO order: the old read buffer and the
-- bytes read are `out` and the new read buffer; the old write buffer and `over` are the bytes written and the new write
-- buffer.
pub record Passes {S : Type 0} (to_give got : S → Option (List ℕ)) (old : Buffer S) (out over : List ℕ)
    (new : Buffer S) : Type 0 where
  pub came : List ℕ
  pub went : List ℕ
  pub gives : Consumes (to_give old.stream) (to_give new.stream) came
  pub takes : Appends (got old.stream) (got new.stream) went
  pub read_buffer : old.read_buffer ++ came ≡ out ++ new.read_buffer
  pub write_buffer : old.write_buffer ++ over ≡ went ++ new.write_buffer

-- whether two pulls returned the same case: some bytes, nothing yet, or the end
abbrev pub is_alike : Pull → Pull → Bool
is_alike (Got some) (Got more) = true
is_alike Idle Idle = true
is_alike Ended Ended = true
is_alike pull other = false

-- If the read buffer is empty, a pull of a buffered stream is one pull of the stream, into a buffer of at least the
-- same size, and returns the same case.
abbrev pub IsBufferedPull : {S : Type 0} → (S → Option (List StreamCall)) → ℕ → Readiness → Buffer S → Pull → Readiness →
    Buffer S → Type 0
IsBufferedPull calls free_space known old pull still new = old.read_buffer ≡ [] → (more : ℕ) × (free_space ≤ more) × (own : Pull)
    × IsPull calls more known old.stream own still new.stream × (is_alike pull own ≡ true)

-- The write buffer was written once: it keeps what the stream did not accept, and a failure is recorded.
abbrev pub IsFlushed : {S : Type 0} → (S → Option (List StreamCall)) → Readiness → Buffer S → Readiness → Buffer S →
    Type 0
IsFlushed calls known old still new = (put : Put) × IsPut calls old.write_buffer known old.stream put still new.stream
    × (new.write_buffer ≡ drop (taken_len put) old.write_buffer) × (new.has_failed ≡ has_put_failed put)

-- nothing was read from the stream, and the read buffer is unchanged
pub record ReadsNothing {S : Type 0} (to_give : S → Option (List ℕ)) (old new : Buffer S) : Type 0 where
  pub read_buffer : new.read_buffer ≡ old.read_buffer
  pub gives : to_give new.stream ≡ to_give old.stream

-- nothing was written to the stream, and the write buffer is unchanged
pub record WritesNothing {S : Type 0} (got : S → Option (List ℕ)) (old new : Buffer S) : Type 0 where
  pub write_buffer : new.write_buffer ≡ old.write_buffer
  pub takes : got new.stream ≡ got old.stream

-- the largest piece that one call of a drain discards
abbrev pub drop_size : ℕ
drop_size = 4096

-- the capacity of a buffer, in bytes
abbrev pub buffer_size : ℕ
buffer_size = 16384

-- the bytes of one buffer, and the free space after them
pub record Roomful : Type 0 where
  pub bytes : List ℕ
  pub free_space : ℕ

-- an empty buffer
abbrev pub all_room : Roomful
all_room = record { bytes = []; free_space = buffer_size }

-- the bytes of a buffer that may be absent
abbrev pub buffered_bytes : Option Roomful → List ℕ
buffered_bytes None = []
buffered_bytes (Some storage) = storage.bytes

-- A put of these bytes only writes: nothing is read, and what is known of reads is unchanged. Its count is within the bytes,
-- and the write buffer within its capacity. A failure is recorded, and a stream that is not writable stays so.
pub record IsWriteOnly {S : Type 0} (to_give : S → Option (List ℕ)) (known : Readiness) (old : Buffer S) (bytes : List ℕ)
    (put : Put) (still : Readiness) (new : Buffer S) : Type 0 where
  pub within : IsPutWithin put (length bytes)
  pub unread : ReadsNothing to_give old new
  pub few : length new.write_buffer ≤ buffer_size
  pub fails : put ≡ Failed → new.has_failed ≡ true
  pub reads : still.may_read ≡ known.may_read
  pub full : known.may_write ≡ false → still.may_write ≡ false
