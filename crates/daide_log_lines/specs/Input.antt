-- The buffered reader of a log, and the line that was found. (own)
use Rattle.std.specs.Prelude.{◌≡◌, ℕ, ◌+◌, ◌<◌, ◌≤◌, List, length, take, drop, Option, Some, None, IfSome, Result, Ok, Err}
use Rattle.daide_log_lines.specs.declared.input.Input.{Input}
use Rattle.daide_log_lines.specs.declared.lines.LineEnd.{LineEnd}
use Rattle.daide_log_lines.specs.declared.lines.LineEnd.TheVariants.{Held, Line, Last, End}
use Rattle.daide_log_lines.specs.declared.fault.LogFault.{LogFault}
use Rattle.daide_log_lines.specs.LogLine.{longest_line, without_cr}

-- both have the same reader
abbrev pub IsSameReader : {R : Type 0} → Input R → Input R → Type 0
IsSameReader old new = new.reader.ghost_name ≡ old.reader.ghost_name

-- the number of bytes before the line feed, if the line is in the block and was not copied
abbrev pub held_bytes : LineEnd → Option ℕ
held_bytes (Held n) = Some n
held_bytes Line = None
held_bytes Last = None
held_bytes End = None

-- a line in the block has its line feed there, and is not too long
abbrev pub LiesIn : LineEnd → List ℕ → Type 0
LiesIn found buffered = IfSome (held_bytes found) (λ n. (n < length buffered) × (n ≤ longest_line))

-- a line that was copied is not in the block
abbrev pub IsCopied : LineEnd → Type 0
IsCopied found = held_bytes found ≡ None

-- the bytes before the line feed without a carriage return, or the copied line
abbrev pub front_or : Option ℕ → List ℕ → List ℕ → List ℕ
front_or None buffered text = text
front_or (Some n) buffered text = without_cr (take n buffered)

-- the bytes after the line feed, or all bytes of the block
abbrev pub behind_or_all : Option ℕ → List ℕ → List ℕ
behind_or_all None buffered = buffered
behind_or_all (Some n) buffered = drop (n + 1) buffered

-- the line, and the rest of the block
abbrev pub line_at : LineEnd → List ℕ → List ℕ → List ℕ
line_at found buffered text = front_or (held_bytes found) buffered text

abbrev pub rest_after : LineEnd → List ℕ → List ℕ
rest_after found buffered = behind_or_all (held_bytes found) buffered

-- the same for a search that may have failed
abbrev pub line_in : Result LineEnd LogFault → List ℕ → List ℕ → List ℕ
line_in (Ok found) buffered text = line_at found buffered text
line_in (Err fault) buffered text = text

abbrev pub rest_in : Result LineEnd LogFault → List ℕ → List ℕ
rest_in (Ok found) buffered = rest_after found buffered
rest_in (Err fault) buffered = buffered
