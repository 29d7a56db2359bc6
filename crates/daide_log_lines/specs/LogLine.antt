-- The forms of a log's lines, by their bytes alone: docs/FORMATS.md, "The log". (own)
use Rattle.std.specs.Prelude.{◌≢◌, ℕ, ◌+◌, ◌-◌, ◌*◌, ◌<◌, ◌≤◌, ◌==◌, Bool, true, ◌&&◌, nat_le, if◌then◌else◌}
use Rattle.std.specs.Prelude.{List, [], ◌∷◌, length, take, drop, codes, Option, Some, None, Result, Ok, Err}
use Rattle.std.specs.Str.{bytes_eq}
use Rattle.std.specs.List.{AllByRecursion}
use Rattle.hex.specs.Hex.{decode_of}
use Rattle.hex.specs.declared.error.FromHexError.{FromHexError}
use Rattle.daide_frame.specs.declared.side.Side.{Side}
use Rattle.daide_frame.specs.declared.side.Side.TheVariants.{Bot, Server}

-- the greatest number of lines of a log
abbrev pub most_lines : ℕ
most_lines = 1000000

-- the greatest length of a line, in bytes
abbrev pub longest_line : ℕ
longest_line = 2100

-- the greatest number of a side's bytes in one line
abbrev pub longest_piece : ℕ
longest_piece = 1024

-- the bytes contain no line feed
abbrev pub IsUnbroken : List ℕ → Type 0
IsUnbroken bytes = AllByRecursion (λ b. b ≢ 10) bytes

-- The next line, after `count` lines, may begin with these bytes: they contain no line feed, they are not too long, and
-- there are none if `count` is the limit.
abbrev pub MayBeginLine : ℕ → List ℕ → Type 0
MayBeginLine count bytes =
    IsUnbroken bytes × (length bytes ≤ longest_line) × (0 < length bytes → count < most_lines)

-- the rest of a line after a prefix, if it begins with that prefix
abbrev pub strip_prefix : List ℕ → List ℕ → Option (List ℕ)
strip_prefix prefix line =
    if bytes_eq (take (length prefix) line) prefix then Some (drop (length prefix) line) else None

-- a line without the carriage return at its end
abbrev pub without_cr : List ℕ → List ℕ
without_cr line =
    if bytes_eq (drop (length line - 1) line) (13 ∷ []) then take (length line - 1) line else line

-- ---- the first line

abbrev pub is_name : List ℕ → Bool
is_name line = bytes_eq line (codes "daide-log 1")

-- ---- the parts of a line

-- the 16-bit number n, continued by decimal digits
abbrev pub number_on : ℕ → List ℕ → Option ℕ
number_on n [] = Some n
number_on n (c ∷ cs) =
    if (nat_le 48 c && nat_le c 57) && nat_le (10 * n + (c - 48)) 65535 then number_on (10 * n + (c - 48)) cs
    else None

-- the 16-bit number of decimal digits without a sign and without leading zeros
unfoldable pub plain_number : List ℕ → Option ℕ
plain_number [] = None
plain_number (c ∷ []) = number_on 0 (c ∷ [])
plain_number (c ∷ d ∷ cs) = if c == 48 then None else number_on 0 (c ∷ d ∷ cs)

-- a word, and what follows the space after it
pub record Parted : Type 0 where
  pub word : List ℕ
  pub rest : List ℕ

abbrev pub with_first : ℕ → Option Parted → Option Parted
with_first c None = None
with_first c (Some parted) = Some (record { word = c ∷ parted.word; rest = parted.rest })

-- a text before and after its first space
unfoldable pub parted_at_space : List ℕ → Option Parted
parted_at_space [] = None
parted_at_space (c ∷ cs) = if c == 32 then Some (record { word = []; rest = cs }) else with_first c (parted_at_space cs)

-- ---- every further line

-- the event of a line
pub data LogEvent : Type 0 where
  Received : (side : Side) → (bytes : List ℕ) → LogEvent  -- bytes of a side came
  EndOf : (side : Side) → LogEvent  -- a side's stream ended
  ImTimerLine : LogEvent  -- the time for the IM is over
  StopLine : LogEvent  -- the operator stopped the session
  Silence : LogEvent  -- nothing

abbrev pub decoded : Side → Result (List ℕ) FromHexError → Option LogEvent
decoded side (Ok bytes) = Some (Received side bytes)
decoded side (Err fault) = None

-- hexadecimal digits of either case, two for each byte, for 1 to `longest_piece` bytes
abbrev pub parse_received : Side → List ℕ → Option LogEvent
parse_received side digits =
    if nat_le 2 (length digits) && nat_le (length digits) (2 * longest_piece) then decoded side (decode_of digits) else None

-- a line that is empty or begins with `#`
abbrev pub is_comment : List ℕ → Bool
is_comment [] = true
is_comment (c ∷ cs) = c == 35

abbrev pub event_of_word : List ℕ → Option LogEvent
event_of_word line =
    if is_comment line then Some Silence
    else if bytes_eq line (codes "timer") then Some ImTimerLine
    else if bytes_eq line (codes "stop") then Some StopLine
    else if bytes_eq line (codes "end bot") then Some (EndOf Bot)
    else if bytes_eq line (codes "end server") then Some (EndOf Server)
    else None

abbrev pub event_by : Option (List ℕ) → Option (List ℕ) → List ℕ → Option LogEvent
event_by (Some digits) server line = parse_received Bot digits
event_by None (Some digits) line = parse_received Server digits
event_by None None line = event_of_word line

-- the event of a line: `bot HEX`, `server HEX`, `end bot`, `end server`, `timer`, `stop`, or none; any other line is no
-- log line
unfoldable pub event_of_line : List ℕ → Option LogEvent
event_of_line line = event_by (strip_prefix (codes "bot ") line) (strip_prefix (codes "server ") line) line
