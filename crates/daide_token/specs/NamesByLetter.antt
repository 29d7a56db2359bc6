-- The tokens by the first letters of their names. (own)
use Rattle.std.specs.Prelude.{ℕ, ◌==◌, Bool, false, bytes_eq, List, [], ◌∷◌, map, option_map, unwrap_or}
use Rattle.std.specs.List.{filter}
use Rattle.daide_token.specs.Names.{Named, name_of, names}

-- the first letter of a name, or 0
abbrev pub first_letter : List ℕ → ℕ
first_letter [] = 0
first_letter (letter ∷ letters) = letter

-- the rows whose names begin with a letter, in the order of the tokens
abbrev pub named_with : ℕ → List Named
named_with letter = filter (λ row. first_letter row.1 == letter) names

-- the tokens of these rows
abbrev pub codes_with : ℕ → List ℕ
codes_with letter = map (λ row. row.0) (named_with letter)

-- whether a token has this name
abbrev pub is_named : List ℕ → ℕ → Bool
is_named name t = unwrap_or (option_map (λ own. bytes_eq own name) (name_of t)) false
