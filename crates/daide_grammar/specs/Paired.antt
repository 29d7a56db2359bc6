-- Messages with paired brackets, including a report of unpaired brackets. (own)
use Rattle.std.specs.Prelude.{◌≡◌, ℕ, ◌==◌, Bool, false, List, [], ◌∷◌, ◌++◌, ◌⊎◌}
use Rattle.daide_token.specs.Token.{bra, ket, prn}
use Rattle.daide_grammar.specs.Balanced.{IsBalanced}

-- the first token is PRN
abbrev pub begins_with_prn : List ℕ → Bool
begins_with_prn [] = false
begins_with_prn (t ∷ m) = t == prn

-- PRN, and any tokens in brackets
abbrev pub IsPrnWrapped : List ℕ → Type 0
IsPrnWrapped m = (x : List ℕ) × (m ≡ prn ∷ bra ∷ x ++ ket ∷ [])

-- a message that begins with PRN is paired if it is a report, any other if its brackets balance
abbrev pub IsPaired : List ℕ → Type 0
IsPaired m = IsPrnWrapped m ⊎ ((begins_with_prn m ≡ false) × IsBalanced m)
