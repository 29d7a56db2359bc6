-- Balanced brackets, with any other tokens between them: from the verdicts of docs/PROTOCOL.md.
use Rattle.std.specs.Prelude.{◌≢◌, ℕ, List, [], ◌∷◌, ◌++◌}
use Rattle.daide_token.specs.Token.{bra, ket}

-- the least set that contains the empty list and every token except a bracket, and is closed under concatenation and
-- under brackets around a member
pub data IsBalanced : List ℕ → Type 0 where
  empty : IsBalanced []
  plain : (t : ℕ) → t ≢ bra → t ≢ ket → IsBalanced (t ∷ [])
  joined : (a b : List ℕ) → IsBalanced a → IsBalanced b → IsBalanced (a ++ b)
  bracketed : (a : List ℕ) → IsBalanced a → IsBalanced (bra ∷ a ++ ket ∷ [])
