-- The number of open brackets, and its maximum: from the verdicts of docs/PROTOCOL.md.
use Rattle.std.specs.Prelude.{ℕ, ◌-◌, ◌==◌, ◌||◌, Bool, nat_lt, List, [], ◌∷◌, map, max, if◌then◌else◌}
use Rattle.std.specs.List.{count_by, list_any}
use Rattle.daide_token.specs.Token.{bra, ket}
use Rattle.daide_grammar.specs.Paired.{begins_with_prn}

-- the number of BRA, the number of KET
abbrev pub bras : List ℕ → ℕ
bras m = count_by (λ t. t == bra) m

abbrev pub kets : List ℕ → ℕ
kets m = count_by (λ t. t == ket) m

-- the excess of BRA over KET
abbrev pub excess : List ℕ → ℕ
excess m = bras m - kets m

-- the prefixes of a list, from the empty one to the whole
abbrev pub prefixes : List ℕ → List (List ℕ)
prefixes [] = [] ∷ []
prefixes (t ∷ m) = [] ∷ map (λ p. t ∷ p) (prefixes m)

-- some prefix has more KET than BRA
abbrev pub has_unmatched_ket : List ℕ → Bool
has_unmatched_ket m = list_any (λ p. nat_lt (bras p) (kets p)) (prefixes m)

-- the number of open brackets after these tokens: 0 in a message that begins with PRN, and 0 after a KET with nothing
-- open
abbrev pub open_brackets : List ℕ → ℕ
open_brackets p = if begins_with_prn p || has_unmatched_ket p then 0 else excess p

abbrev pub greatest : List ℕ → ℕ
greatest [] = 0
greatest (n ∷ ns) = max n (greatest ns)

-- the greatest excess of BRA over KET of all prefixes; 0 for a message that begins with PRN
abbrev pub depth_of : List ℕ → ℕ
depth_of m = if begins_with_prn m then 0 else greatest (map excess (prefixes m))
