-- What reading a line leaves in a reader. (own)
use Rattle.std.specs.Prelude.{◌≡◌, ⊤, ℕ, ◌≤◌, ◌<◌, ◌==◌, Bool, not, List, [], ◌∷◌, ◌++◌, length, Option, Some, None, IfSome}
use Rattle.std.specs.Io.KnownBytes.{Appends}
use Rattle.daide_token.specs.Names.{Named}
use Rattle.daide_text.specs.Frames.{AreFrameLines, text_lines, longest_text_line}
use Rattle.daide_text.specs.declared.frames.TextFault.{TextFault}
use Rattle.daide_text.specs.declared.frames.TextFault.TheVariants.{Read, NotMessage, TooLong, TooManyLines, Memory, Write}

-- a line was read, and the others are left
abbrev pub LeavesLines : Option (List ℕ) → Option (List ℕ) → List ℕ → Type 0
LeavesLines None new line = ⊤
LeavesLines (Some input) None line = ⊥
LeavesLines (Some input) (Some rest) line = text_lines input ≡ line ∷ text_lines rest

-- the same, and the line is not too long
abbrev pub IsLineFrom : Option (List ℕ) → Option (List ℕ) → List ℕ → Type 0
IsLineFrom old new line = (length line ≤ longest_text_line) × LeavesLines old new line

-- there is no line left
abbrev pub IsNoLine : Option (List ℕ) → Type 0
IsNoLine known = IfSome known (λ input. text_lines input ≡ [])

-- the next line is too long
abbrev pub IsLongLine : Option (List ℕ) → Type 0
IsLongLine known =
    (line : List ℕ) × (lines : List (List ℕ)) × (longest_text_line < length line)
    × IfSome known (λ input. text_lines input ≡ line ∷ lines)

-- a fault of the input, at a line of this number
abbrev pub IsInputFault : Option (List ℕ) → ℕ → TextFault → Type 0
IsInputFault known number Read = ⊤
IsInputFault known number (NotMessage line column reason) = ⊥
IsInputFault known number (TooLong line) = (line ≡ number) × IsLongLine known
IsInputFault known number TooManyLines = ⊥
IsInputFault known number Memory = ⊤
IsInputFault known number Write = ⊥

-- a byte that does not end a line
abbrev pub is_no_end : ℕ → Bool
is_no_end c = not (c == 10)

-- some lines were read, and the others are left
abbrev pub LeaveLines : Option (List ℕ) → Option (List ℕ) → List (List ℕ) → Type 0
LeaveLines None new lines = ⊤
LeaveLines (Some input) None lines = ⊥
LeaveLines (Some input) (Some rest) lines = text_lines input ≡ lines ++ text_lines rest

-- `count` lines were read that are messages, and the lines of their frames were written
pub record AreWritten (added : List Named) (input rest old new : Option (List ℕ)) (count : ℕ) : Type 0 where
  pub lines : List (List ℕ)
  pub text : List ℕ
  pub read : LeaveLines input rest lines
  pub counted : length lines ≡ count
  pub framed : AreFrameLines added lines text
  pub written : Appends old new text
