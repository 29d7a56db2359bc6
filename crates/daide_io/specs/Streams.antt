-- The calls of a non-blocking stream with their results.
use Rattle.std.specs.Prelude.{◌≡◌, ℕ, List, Option, Result, Ok, Err}
use Rattle.std.specs.IoError.{error_kind}
use Rattle.std.specs.declared.io.Error.{Error}
use Rattle.std.specs.declared.io.ErrorKind.{ErrorKind}
use Rattle.std.specs.declared.io.ErrorKind.TheVariants as Kinds
use Rattle.daide_io.specs.declared.outcome.IoResult.{IoResult}
use Rattle.daide_io.specs.declared.outcome.IoResult.TheVariants.{Moved, Interrupted, NotNow, Failed}

-- an error is an interruption, a call that would have blocked, or a failure
abbrev pub outcome_of_kind : ErrorKind → IoResult
outcome_of_kind Kinds.Interrupted = Interrupted
outcome_of_kind Kinds.WouldBlock = NotNow
outcome_of_kind kind = Failed

-- the outcome of a call, by its result
abbrev pub outcome_by : Result ℕ Error → IoResult
outcome_by (Ok count) = Moved count
outcome_by (Err error) = outcome_of_kind (error_kind error)

-- one call in a trace: a read into a buffer of this size, a write of these bytes, or the shutdown of writing
pub data StreamCall : Type 0 where
  Read : ℕ → IoResult → StreamCall
  Written : List ℕ → IoResult → StreamCall
  WritingEnded : StreamCall

-- a stream will still return the same bytes, and it records the same bytes written and the same trace
pub record IsSameStream {S : Type 0} (to_give taken : S → Option (List ℕ)) (calls : S → Option (List StreamCall)) (old new : S) :
    Type 0 where
  pub gives : to_give new ≡ to_give old
  pub takes : taken new ≡ taken old
  pub trace : calls new ≡ calls old
