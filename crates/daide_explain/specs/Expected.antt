-- What is expected after a prefix. (own) `message` is the set of a side's messages at a level.
use Rattle.std.specs.Prelude.{◌≡◌, ℕ, List, [], ◌∷◌, ◌++◌}
use Rattle.daide_token.specs.Token.{bra}
use Rattle.daide_grammar.specs.Depth.{open_brackets}
use Rattle.daide_reader.specs.ErrorPlace.{IsAllowedPrefix}
use Rattle.daide_reader.specs.Verdict.{IsRelayed}
use Rattle.daide_reader.specs.ViablePrefix.{IsViablePrefix}

-- a token is expected: some message begins with the prefix and the token, and these open at most `max_depth` brackets
abbrev pub IsExpected : (List ℕ → Type 0) → ℕ → List ℕ → ℕ → Type 0
IsExpected message max_depth p t = IsAllowedPrefix message max_depth (p ++ t ∷ [])

-- the end is expected: the prefix is itself a message that is relayed
abbrev pub IsEndExpected : (List ℕ → Type 0) → ℕ → List ℕ → Type 0
IsEndExpected message max_depth p = IsRelayed message max_depth p

-- `max_depth` brackets are open after the prefix, and every message that begins with it continues with BRA
pub record OnlyDeeper (message : List ℕ → Type 0) (max_depth : ℕ) (p : List ℕ) : Type 0 where
  pub full : open_brackets p ≡ max_depth
  pub by_bra : IsViablePrefix message (p ++ bra ∷ [])
  pub only_bra : (t : ℕ) → IsViablePrefix message (p ++ t ∷ []) → t ≡ bra
