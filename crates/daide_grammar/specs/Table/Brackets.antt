-- Brackets counted from left to right, token by token.
use Rattle.std.specs.Prelude.{ℕ, zero, suc, ◌+◌, ◌==◌, Bool, true, false, List, Option, None, Some, if◌then◌else◌}
use Rattle.daide_token.specs.Token.{bra, ket}
use Rattle.daide_grammar.specs.Depth.{has_unmatched_ket, excess}

-- whether a token is BRA, and whether it is KET
abbrev pub is_bra : ℕ → Bool
is_bra t = t == bra

abbrev pub is_ket : ℕ → Bool
is_ket t = t == ket

-- the number of open brackets, or None after a KET with nothing open
abbrev pub excess_or_none : List ℕ → Option ℕ
excess_or_none p = if has_unmatched_ket p then None else Some (excess p)

-- the new count after one token, by whether it opens a bracket and whether it closes one
abbrev pub count_one : Bool → Bool → Option ℕ → Option ℕ
count_one opens closes None = None
count_one true closes (Some n) = Some (n + 1)
count_one false true (Some zero) = None
count_one false true (Some (suc n)) = Some n
count_one false false (Some n) = Some n
