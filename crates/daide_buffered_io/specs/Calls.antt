-- The results of a pull and a put, by those of the calls of a non-blocking stream. (own)
use Rattle.std.specs.Prelude.{◌≡◌, ℕ, zero, suc, ◌<◌, ◌⊎◌, ◌==◌, ◌&&◌, not, nat_lt, if◌then◌else◌, Bool, true, false, List, [], ◌∷◌, ◌++◌, length, Option}
use Rattle.std.specs.Prelude.{replicate}
use Rattle.daide_io.specs.Ports.{AppendsTo}
use Rattle.daide_io.specs.Streams.{StreamCall, Read, Written}
use Rattle.daide_io.specs.declared.ports.Pull.{Pull}
use Rattle.daide_io.specs.declared.ports.Pull.TheVariants as Pulls
use Rattle.daide_io.specs.declared.ports.Put.{Put}
use Rattle.daide_io.specs.declared.ports.Put.TheVariants as Puts
use Rattle.daide_io.specs.declared.outcome.IoResult.{IoResult}
use Rattle.daide_buffered_io.specs.declared.readiness.Readiness.{Readiness}
use Rattle.daide_io.specs.declared.outcome.IoResult.TheVariants.{Moved, Interrupted, NotNow, Failed}

-- the maximum number of calls until one is not interrupted
abbrev pub most_tries : ℕ
most_tries = 8

-- A call is repeated while it is interrupted, up to `most_tries` calls in all. The first `before` calls were interrupted; the
-- last one has the outcome.
pub record Tries (call : IoResult → StreamCall) (old : Option (List StreamCall)) (outcome : IoResult)
    (new : Option (List StreamCall)) : Type 0 where
  pub before : ℕ
  pub few : before < most_tries
  pub spent : outcome ≡ Interrupted → suc before ≡ most_tries
  pub appended : AppendsTo old (replicate before (call Interrupted) ++ call outcome ∷ []) new

-- ---- readiness after a call

abbrev pub without_reads : Readiness → Readiness
without_reads known = record { may_read = false; may_write = known.may_write; reads_on = known.reads_on }

abbrev pub without_writes : Readiness → Readiness
without_writes known = record { may_read = known.may_read; may_write = false; reads_on = known.reads_on }

-- After a read that would have blocked, the stream is not readable until the next event. The same holds after a short
-- read, unless an event reported an end, a failure or an urgent byte.
abbrev pub after_read : Readiness → ℕ → IoResult → Readiness
after_read known free_space (Moved zero) = known
after_read known free_space (Moved (suc count)) =
    if (nat_lt (suc count) free_space) && (not known.reads_on) then without_reads known else known
after_read known free_space Interrupted = known
after_read known free_space NotNow = without_reads known
after_read known free_space Failed = known

-- after a write that would have blocked, or a short write, the stream is not writable until the next event
abbrev pub after_write : Readiness → ℕ → IoResult → Readiness
after_write known handed (Moved count) = if nat_lt count handed then without_writes known else known
after_write known handed Interrupted = known
after_write known handed NotNow = without_writes known
after_write known handed Failed = known

-- ---- a pull

-- a read of no byte is the end of the stream, and so is a failed read
abbrev pub pull_of : IoResult → Pull
pull_of (Moved zero) = Pulls.Ended
pull_of (Moved (suc count)) = Pulls.Got (suc count)
pull_of Interrupted = Pulls.Idle
pull_of NotNow = Pulls.Idle
pull_of Failed = Pulls.Ended

-- If the stream is known not to be readable, or there is no room, no call is made. Otherwise it is read into the whole
-- room, and the pull is the one of the outcome.
pub record IsPull {S : Type 0} (calls : S → Option (List StreamCall)) (free_space : ℕ) (known : Readiness) (old : S)
    (pull : Pull) (still : Readiness) (new : S) : Type 0 where
  pub spared : (known.may_read ≡ false) ⊎ (free_space ≡ 0) → (pull ≡ Pulls.Idle) × (new ≡ old) × (still ≡ known)
  pub made : known.may_read ≡ true → 0 < free_space → (outcome : IoResult) × Tries (Read free_space) (calls old) outcome (calls new)
      × (pull ≡ pull_of outcome) × (still ≡ after_read known free_space outcome)

-- whether draining is finished after a piece, with `left` bytes of the budget
abbrev pub is_last_piece : Pull → ℕ → Bool
is_last_piece Pulls.Ended left = true
is_last_piece (Pulls.Got count) left = left == 0
is_last_piece Pulls.Idle left = left == 0

-- ---- a put

abbrev pub put_of : IoResult → Put
put_of (Moved count) = Puts.Took count
put_of Interrupted = Puts.Took 0
put_of NotNow = Puts.Took 0
put_of Failed = Puts.Failed

-- If the stream is known not to be writable, no call is made. Otherwise these bytes are written, and the put is the one
-- of the outcome.
pub record IsPut {S : Type 0} (calls : S → Option (List StreamCall)) (bytes : List ℕ) (known : Readiness) (old : S)
    (put : Put) (still : Readiness) (new : S) : Type 0 where
  pub spared : known.may_write ≡ false → (put ≡ Puts.Took 0) × (new ≡ old) × (still ≡ known)
  pub made : known.may_write ≡ true → (outcome : IoResult) × Tries (Written bytes) (calls old) outcome (calls new)
      × (put ≡ put_of outcome) × (still ≡ after_write known (length bytes) outcome)

-- These puts were made, one after another.
abbrev pub MakesPuts : {S : Type 0} → (S → Option (List StreamCall)) → List (List ℕ) → Readiness → S → Readiness → S →
    Type 0
MakesPuts calls [] known old still new = (still ≡ known) × (new ≡ old)
MakesPuts calls (bytes ∷ more) known old still new = (put : Put) × (after : Readiness) × (between : _)
    × IsPut calls bytes known old put after between × MakesPuts calls more after between still new

-- Of the stream nothing was called but puts, any number of them, and what is known of it is what they leave. So it is not
-- writable any more only after a write that it did not take whole.
abbrev pub OnlyPuts : {S : Type 0} → (S → Option (List StreamCall)) → Readiness → S → Readiness → S → Type 0
OnlyPuts calls known old still new = (offers : List (List ℕ)) × MakesPuts calls offers known old still new

-- Nothing more can be written now: the stream is not writable until the next event, or the last write was interrupted
-- each of the eight times.
abbrev pub IsStopped : {S : Type 0} → (S → Option (List StreamCall)) → Readiness → S → Type 0
IsStopped calls still new = (still.may_write ≡ false)
    ⊎ ((before : Option (List StreamCall)) × (bytes : List ℕ) × Tries (Written bytes) before Interrupted (calls new))
