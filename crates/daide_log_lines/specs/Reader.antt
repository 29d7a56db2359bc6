-- The source of a log: the bytes that are left, and the trace of reads with what the report's writer had before each.
-- (own)
use Rattle.std.specs.Prelude.{◌≡◌, ⊤, ℕ, List, [], ◌∷◌, ◌++◌, take, Option, Some, None, Result, Ok, Err}
use Rattle.std.specs.Io.KnownBytes.{Consumes}

-- a read: the bytes that it returned, none at the end of a log and after a failure; and what the writer had before it,
-- if the writer records that
pub record LogRead : Type 0 where
  pub came : List ℕ
  pub written : Option (List ℕ)

-- the bytes that are left, and the trace of reads, each if the reader records it
pub record Reader : Type 0 where
  pub remaining : Option (List ℕ)
  pub reads : Option (List LogRead)

-- a reader that records no reads
abbrev pub silent : Option (List ℕ) → Reader
silent remaining = record { remaining = remaining; reads = None }

-- the bytes that a read returned in a buffer
abbrev pub read_bytes : {E : Type 0} → Result ℕ E → List ℕ → List ℕ
read_bytes (Ok n) buffer = take n buffer
read_bytes (Err fault) buffer = []

-- a recorded trace of reads is extended by these
abbrev pub AddsReads : Option (List LogRead) → List LogRead → Option (List LogRead) → Type 0
AddsReads None more new = ⊤
AddsReads (Some reads) more None = ⊥
AddsReads (Some reads) more (Some all) = all ≡ reads ++ more

-- all bytes that the reads returned, in order
abbrev pub all_came : List LogRead → List ℕ
all_came [] = []
all_came (read ∷ reads) = read.came ++ all_came reads

-- P holds at each read, for all bytes returned before it and what was written before it
abbrev pub AtEach : (List ℕ → Option (List ℕ) → Type 0) → List ℕ → List LogRead → Type 0
AtEach P before [] = ⊤
AtEach P before (read ∷ reads) = P before read.written × AtEach P (before ++ read.came) reads

-- The reader returned these bytes, and P holds at each of its reads, for what it returned before and what was written.
abbrev pub Gives : (List ℕ → Option (List ℕ) → Type 0) → Reader → Reader → List ℕ → Type 0
Gives P old new given =
    (reads : List LogRead) × (all_came reads ≡ given) × AddsReads old.reads reads new.reads × AtEach P [] reads
    × Consumes old.remaining new.remaining given
