-- The frames of lines of text, as hexadecimal digits. (own)
use Rattle.std.specs.Prelude.{◌≡◌, ◌≢◌, ⊤, ℕ, ◌+◌, ◌*◌, ◌≤◌, ◌<◌, ◌-◌, ◌==◌, ◌⊎◌, if◌then◌else◌, bytes_eq, take, drop}
use Rattle.std.specs.Prelude.{List, [], ◌∷◌, ◌++◌, length, Option, IfSome, Err}
use Rattle.std.specs.Io.KnownBytes.{Appends}
use Rattle.daide_token.specs.Names.{Named}
use Rattle.daide_token.specs.Token.{token_bytes, bytes_of_tokens}
use Rattle.daide_token.specs.HexDigits.{digits_of_byte}
use Rattle.daide_text.specs.Line.{IsReadAs, IsText}
use Rattle.daide_text.specs.declared.frames.TextFault.{TextFault}
use Rattle.daide_text.specs.declared.frames.TextFault.TheVariants.{Read, NotMessage, TooLong, TooManyLines, Memory, Write}

-- the most tokens of a message: a body has at most 65,526 bytes
abbrev pub most_frame_tokens : ℕ
most_frame_tokens = 32763

-- the most bytes of a line before its line feed (own)
abbrev pub longest_text_line : ℕ
longest_text_line = 400000

-- the most lines (own)
abbrev pub most_text_lines : ℕ
most_text_lines = 1000000

-- ---- lines

-- a byte put before some lines, at the start of the first one
abbrev pub before_lines : ℕ → List (List ℕ) → List (List ℕ)
before_lines c [] = (c ∷ []) ∷ []
before_lines c (line ∷ lines) = (c ∷ line) ∷ lines

-- the lines of an input, without their line feeds; an empty rest after the last line feed is not a line
abbrev pub text_lines : List ℕ → List (List ℕ)
text_lines [] = []
text_lines (c ∷ input) = if c == 10 then [] ∷ text_lines input else before_lines c (text_lines input)

-- a line without the carriage return at its end
abbrev pub trimmed : List ℕ → List ℕ
trimmed line = if bytes_eq (drop (length line - 1) line) (13 ∷ []) then take (length line - 1) line else line

-- ---- frames

-- a DM with these tokens as its body: its kind, 0, the length of the body, then the body
abbrev pub message_frame : List ℕ → List ℕ
message_frame ts = 2 ∷ 0 ∷ (token_bytes (2 * length ts) ++ bytes_of_tokens ts)

-- bytes after another one, each with a space before it
abbrev pub more_pairs : List ℕ → List ℕ
more_pairs [] = []
more_pairs (b ∷ bytes) = 32 ∷ (digits_of_byte b ++ more_pairs bytes)

-- bytes as pairs of digits, separated by single spaces
abbrev pub pairs_of : List ℕ → List ℕ
pairs_of [] = []
pairs_of (b ∷ bytes) = digits_of_byte b ++ more_pairs bytes

-- the line of a message: its frame in digits
abbrev pub frame_line : List ℕ → List ℕ
frame_line ts = pairs_of (message_frame ts) ++ 10 ∷ []

-- ---- the result for lines

-- a line is a message, and this is the line of its frame
abbrev pub IsFrameLine : List Named → List ℕ → List ℕ → Type 0
IsFrameLine added line text =
    (length line ≤ longest_text_line)
    × (ts : List ℕ) × IsText added (trimmed line) ts × (length ts ≤ most_frame_tokens) × (text ≡ frame_line ts)

-- each line is a message, and these are the lines of their frames
abbrev pub AreFrameLines : List Named → List (List ℕ) → List ℕ → Type 0
AreFrameLines added [] text = text ≡ []
AreFrameLines added (line ∷ lines) text =
    (first rest : List ℕ) × IsFrameLine added line first × AreFrameLines added lines rest × (text ≡ first ++ rest)

-- a line has too many bytes, or is a text of too many tokens
abbrev pub IsTooLong : List Named → List ℕ → Type 0
IsTooLong added line =
    (longest_text_line < length line)
    ⊎ ((ts : List ℕ) × IsText added (trimmed line) ts × (most_frame_tokens < length ts))

-- there is a next line, and this holds of it
abbrev pub OfNext : (List ℕ → Type 0) → List (List ℕ) → Type 0
OfNext P [] = ⊥
OfNext P (line ∷ lines) = P line

-- A fault of the next lines, after `count` lines that are messages: the number of the line at fault, counted from 1,
-- and the column of the text that is not an item; any reason. A failed read and a refused allocation state nothing about the
-- lines. A write fails only if there is a frame to write.
abbrev pub IsFaultOfNext : List Named → ℕ → List (List ℕ) → TextFault → Type 0
IsFaultOfNext added count next Read = ⊤
IsFaultOfNext added count next (NotMessage number column reason) =
    (number ≡ count + 1)
    × OfNext (λ line. (length line ≤ longest_text_line) × IsReadAs added (trimmed line) (Err column)) next
IsFaultOfNext added count next (TooLong number) = (number ≡ count + 1) × OfNext (IsTooLong added) next
IsFaultOfNext added count next TooManyLines = (count ≡ most_text_lines) × (next ≢ [])
IsFaultOfNext added count next Memory = ⊤
IsFaultOfNext added count next Write = OfNext (λ line. (text : List ℕ) × IsFrameLine added line text) next

-- what happened outside, if a fault says so: a failed read, a refused allocation, a failed write
abbrev pub IsTextCause : Type 0 → Type 0 → Type 0 → TextFault → Type 0
IsTextCause read refused write Read = read
IsTextCause read refused write (NotMessage number column reason) = ⊤
IsTextCause read refused write (TooLong number) = ⊤
IsTextCause read refused write TooManyLines = ⊤
IsTextCause read refused write Memory = refused
IsTextCause read refused write Write = write

-- these are the lines of an input, if the input is known
abbrev pub AreLinesOf : Option (List ℕ) → List (List ℕ) → Type 0
AreLinesOf known lines = IfSome known (λ input. text_lines input ≡ lines)

-- all lines are messages, and the lines of their frames were written
abbrev pub Writes : List Named → Option (List ℕ) → Option (List ℕ) → Option (List ℕ) → Type 0
Writes added input old new =
    (lines : List (List ℕ)) × AreLinesOf input lines
    × (text : List ℕ) × AreFrameLines added lines text × Appends old new text

-- some lines are messages, and the fault followed them: the lines of their frames were written, and nothing else unless
-- the fault is a failed write
abbrev pub WritesUpTo : List Named → Option (List ℕ) → Option (List ℕ) → Option (List ℕ) → TextFault → Type 0
WritesUpTo added input old new fault =
    (before next : List (List ℕ)) × AreLinesOf input (before ++ next)
    × IsFaultOfNext added (length before) next fault
    × (text : List ℕ) × AreFrameLines added before text × (fault ≢ Write → Appends old new text)
