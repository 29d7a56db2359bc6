-- Parsing one piece, and the faults of a line. (own)
use Rattle.std.specs.Prelude.{◌≡◌, ℕ, ◌+◌, ◌<◌, true, List, ◌∷◌, ◌++◌, length, take, drop, Some, None, Result, Err}
use Rattle.std.specs.List.{list_all}
use Rattle.daide_token.specs.Names.{Named}
use Rattle.daide_text.specs.Line.{IsPieceBefore, IsReadAs, IsReadFrom, Piece, bytes_of_piece, is_in_quote, read_on, tokens_of_piece}
use Rattle.daide_text.specs.declared.line.LineFault.{LineFault}
use Rattle.daide_text.specs.declared.line.LineFault.TheVariants.{NotItem, Memory}

-- the first piece of the rest of a line was parsed, and its tokens were appended
abbrev pub IsTakenPiece : List Named → List ℕ → List ℕ → List ℕ → List ℕ → Type 0
IsTakenPiece added rest after old new =
    (piece : Piece) × (rest ≡ bytes_of_piece piece ++ after) × IsPieceBefore piece after
    × (ts : List ℕ) × (tokens_of_piece added piece ≡ Some ts) × (new ≡ old ++ ts)

-- the first piece is not an item
abbrev pub IsRefusedPiece : List Named → List ℕ → Type 0
IsRefusedPiece added rest =
    (piece : Piece) × (after : List ℕ) × (rest ≡ bytes_of_piece piece ++ after) × IsPieceBefore piece after
    × (tokens_of_piece added piece ≡ None)

-- a fault of a line, or an allocation that was refused
abbrev pub IsLineFault : Type 0 → List Named → List ℕ → LineFault → Type 0
IsLineFault refused added line (NotItem column) = IsReadAs added line (Err column)
IsLineFault refused added line Memory = refused

-- the front of a line was parsed as these tokens; the result for the whole line is these, followed by the result for
-- the rest
pub record IsReadUpTo (added : List Named) (line rest ts : List ℕ) : Type 0 where
  pub front : List ℕ
  pub whole : line ≡ front ++ rest
  pub goes_on : (outcome : Result (List ℕ) ℕ) → IsReadFrom added (length front + 1) rest outcome →
      IsReadAs added line (read_on 0 (Some ts) outcome)

-- the first quote follows this many bytes
abbrev pub EndsQuote : ℕ → List ℕ → Type 0
EndsQuote end bytes =
    (end < length bytes) × (list_all is_in_quote (take end bytes) ≡ true)
    × (bytes ≡ take end bytes ++ 39 ∷ drop (end + 1) bytes)
