-- The first unpaired bracket. (own)
use Rattle.std.specs.Prelude.{◌≡◌, ℕ, ◌<◌, List, ◌∷◌, ◌++◌, length, Some, IsSome}
use Rattle.daide_token.specs.Token.{bra, ket}
use Rattle.daide_grammar.specs.Table.Brackets.{excess_or_none}
use Rattle.daide_explain.specs.declared.brackets.Unpaired.{Unpaired}
use Rattle.daide_explain.specs.declared.brackets.Unpaired.TheVariants.{Ket, Bra, Nothing}

-- m has this token at index i, between the tokens `before` and `after`
pub record IsTokenAt (m : List ℕ) (token i : ℕ) (before after : List ℕ) : Type 0 where
  pub whole : m ≡ before ++ token ∷ after
  pub place : length before ≡ i

-- the token at index i is KET, and all brackets before it are paired: it is the first KET that closes nothing
abbrev pub IsFirstKet : List ℕ → ℕ → Type 0
IsFirstKet m i = (before after : List ℕ) × IsTokenAt m ket i before after × (excess_or_none before ≡ Some 0)

-- the token at index i is BRA, and no KET after it closes it
abbrev pub IsNeverClosed : List ℕ → ℕ → Type 0
IsNeverClosed m i = (before after : List ℕ) × IsTokenAt m bra i before after × IsSome (excess_or_none after)

-- the first KET that closes nothing; else the first BRA that is never closed; else all brackets are paired
abbrev pub IsUnpairedIn : List ℕ → Unpaired → Type 0
IsUnpairedIn m (Ket i) = IsFirstKet m i
IsUnpairedIn m (Bra i) = IsSome (excess_or_none m) × IsNeverClosed m i × ((j : ℕ) → j < i → ¬ IsNeverClosed m j)
IsUnpairedIn m Nothing = excess_or_none m ≡ Some 0
