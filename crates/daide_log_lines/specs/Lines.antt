-- Reads of a log, and the lines found in it. (own)
use Rattle.std.specs.Prelude.{◌≡◌, ℕ, ◌+◌, ◌<◌, ◌≤◌, ◌⊎◌, Bool, true, false, List, [], ◌∷◌, ◌++◌, length, take, drop}
use Rattle.std.specs.Prelude.{Option, Some, None, Result, Ok, Err}
use Rattle.std.specs.Io.KnownBytes.{Consumes, Keeps, IsAtEnd}
use Rattle.daide_log_lines.specs.declared.lines.LineEnd.{LineEnd}
use Rattle.daide_log_lines.specs.declared.lines.LineEnd.TheVariants.{Held, Line, Last, End}
use Rattle.daide_log_lines.specs.declared.fault.LogFault.{LogFault}
use Rattle.daide_log_lines.specs.declared.fault.LogFault.TheVariants as Faults
use Rattle.daide_log_lines.specs.Reader.{Reader, AddsReads, Gives}
use Rattle.daide_log_lines.specs.LogLine.{most_lines, longest_line, IsUnbroken, MayBeginLine, without_cr}

-- the most bytes of one read
abbrev pub block_size : ℕ
block_size = 8192

-- One read, when the writer had `written`: these bytes were read, or the log is at its end, or the read failed. Or no
-- read was made, since the report could not be written before it.
abbrev pub ReadsBlock : Option (List ℕ) → Reader → Reader → List ℕ → Result Bool LogFault → Type 0
ReadsBlock written old new bytes (Ok true) =
    AddsReads old.reads (record { came = bytes; written = written } ∷ []) new.reads
    × Consumes old.remaining new.remaining bytes × (0 < length bytes) × (length bytes ≤ block_size)
ReadsBlock written old new bytes (Ok false) =
    AddsReads old.reads (record { came = []; written = written } ∷ []) new.reads
    × Consumes old.remaining new.remaining [] × (bytes ≡ []) × IsAtEnd new.remaining
ReadsBlock written old new bytes (Err Faults.Read) =
    AddsReads old.reads (record { came = []; written = written } ∷ []) new.reads
    × Keeps old.remaining new.remaining × (bytes ≡ [])
ReadsBlock written old new bytes (Err Faults.Write) = new ≡ old
ReadsBlock written old new bytes (Err Faults.Memory) = ⊥
ReadsBlock written old new bytes (Err (Faults.BadLine n)) = ⊥
ReadsBlock written old new bytes (Err (Faults.LineTooLong n)) = ⊥
ReadsBlock written old new bytes (Err Faults.TooManyLines) = ⊥

-- one read, before which the whole report `all` was written
abbrev pub ReadsOn : Option (List ℕ) → Reader → Reader → List ℕ → Result Bool LogFault → Type 0
ReadsOn all old new bytes result = (written : Option (List ℕ)) × ReadsBlock written old new bytes result × Keeps all written

-- The next line, after `count` lines, may begin with the bytes in the block and those read since; and the whole report
-- was written.
abbrev pub IsInLine : Option (List ℕ) → List ℕ → ℕ → List ℕ → Option (List ℕ) → Type 0
IsInLine all buffered count came written = MayBeginLine count (buffered ++ came) × Keeps all written

-- After `count` lines, `bytes` were consumed of those in the block and those read since, and `rest` is in the block.
-- Each read was made within the next line, after the whole report was written.
abbrev pub LooksAt : Option (List ℕ) → Reader → List ℕ → ℕ → List ℕ → Reader → List ℕ → Type 0
LooksAt all old buffered count bytes new rest =
    (given : List ℕ) × Gives (IsInLine all buffered count) old new given × (buffered ++ given ≡ bytes ++ rest)

-- a line with its line feed, within the limit of lines; less than a block is left after it
abbrev pub IsWhole : Option (List ℕ) → Reader → List ℕ → ℕ → List ℕ → Reader → List ℕ → Type 0
IsWhole all old buffered count text new rest =
    (line : List ℕ) × LooksAt all old buffered count (line ++ 10 ∷ []) new rest × IsUnbroken line
    × (length line ≤ longest_line) × (count < most_lines) × (text ≡ without_cr line) × (length rest < block_size)

-- the next line with its line feed, in the block or copied; or the last line without one; or the end; or why there is
-- no line
abbrev pub IsFound : Option (List ℕ) → Reader → List ℕ → ℕ → Result LineEnd LogFault → List ℕ → Reader → List ℕ →
    Type 0
IsFound all old buffered count (Ok (Held n)) text new rest = IsWhole all old buffered count text new rest
IsFound all old buffered count (Ok Line) text new rest = IsWhole all old buffered count text new rest
IsFound all old buffered count (Ok Last) text new rest =
    LooksAt all old buffered count text new rest × (rest ≡ []) × IsAtEnd new.remaining × IsUnbroken text
    × (length text ≤ longest_line) × (0 < length text) × (count < most_lines)
IsFound all old buffered count (Ok End) text new rest =
    LooksAt all old buffered count [] new rest × (rest ≡ []) × IsAtEnd new.remaining
IsFound all old buffered count (Err (Faults.LineTooLong n)) text new rest =
    (line : List ℕ) × LooksAt all old buffered count line new rest × IsUnbroken line × (length line ≡ longest_line + 1)
    × (count < most_lines) × (n ≡ count + 1) × (length rest < block_size)
IsFound all old buffered count (Err Faults.TooManyLines) text new rest =
    LooksAt all old buffered count [] new rest × (0 < length rest) × (count ≡ most_lines) × (length rest ≤ block_size)
IsFound all old buffered count (Err Faults.Read) text new rest =
    (line : List ℕ) × LooksAt all old buffered count line new rest × (rest ≡ []) × MayBeginLine count line
IsFound all old buffered count (Err (Faults.BadLine n)) text new rest = ⊥
IsFound all old buffered count (Err Faults.Write) text new rest =
    (given : List ℕ) × Gives (IsInLine all buffered count) old new given
IsFound all old buffered count (Err Faults.Memory) text new rest = ⊥

-- whether the log ended, and whether this was its last line
abbrev pub is_end_of_log : LineEnd → Bool
is_end_of_log End = true
is_end_of_log (Held n) = false
is_end_of_log Line = false
is_end_of_log Last = false

abbrev pub is_last_line : LineEnd → Bool
is_last_line Last = true
is_last_line (Held n) = false
is_last_line Line = false
is_last_line End = false

-- the index of the first line feed, if there is one
abbrev pub IsLineEnd : List ℕ → Option ℕ → Type 0
IsLineEnd bytes None = IsUnbroken bytes
IsLineEnd bytes (Some n) =
    (n < length bytes) × IsUnbroken (take n bytes) × (bytes ≡ take n bytes ++ 10 ∷ drop (n + 1) bytes)

-- The next line, after `count` lines, is whole in the block: it has `n` bytes, then its line feed. The block has at
-- most `block_size` bytes.
abbrev pub IsHeldLine : List ℕ → ℕ → ℕ → Type 0
IsHeldLine buffered count n =
    (n < length buffered) × IsUnbroken (take n buffered) × (buffered ≡ take n buffered ++ 10 ∷ drop (n + 1) buffered) × (n ≤ longest_line)
    × (count < most_lines) × (length buffered ≤ block_size)

-- Bytes of a line were moved from the block to the text: all up to the line feed, or the whole block, or as many as
-- make the text too long. Less than a block is left, because at least one byte was removed.
abbrev pub Scans : List ℕ → List ℕ → Bool → List ℕ → List ℕ → Type 0
Scans buffered before true rest after =
    (front : List ℕ) × (buffered ≡ front ++ 10 ∷ rest) × IsUnbroken front × (after ≡ before ++ front)
    × (length after ≤ longest_line) × (length rest < block_size)
Scans buffered before false rest after =
    (front : List ℕ) × (buffered ≡ front ++ rest) × IsUnbroken front × (after ≡ before ++ front)
    × ((rest ≡ []) ⊎ (longest_line < length after)) × (length before ≤ longest_line → length rest < block_size)

-- whether another byte follows after the greatest number of lines, in the block or from the reader
abbrev pub HasMore : Option (List ℕ) → Reader → List ℕ → Result Bool LogFault → Reader → List ℕ → Type 0
HasMore all old buffered (Ok true) new rest =
    LooksAt all old buffered most_lines [] new rest × (0 < length rest) × (length rest ≤ block_size)
HasMore all old buffered (Ok false) new rest = LooksAt all old buffered most_lines [] new rest × (rest ≡ []) × IsAtEnd new.remaining
HasMore all old buffered (Err Faults.Read) new rest = LooksAt all old buffered most_lines [] new rest × (rest ≡ [])
HasMore all old buffered (Err (Faults.BadLine n)) new rest = ⊥
HasMore all old buffered (Err (Faults.LineTooLong n)) new rest = ⊥
HasMore all old buffered (Err Faults.TooManyLines) new rest = ⊥
HasMore all old buffered (Err Faults.Write) new rest = new ≡ old
HasMore all old buffered (Err Faults.Memory) new rest = ⊥
