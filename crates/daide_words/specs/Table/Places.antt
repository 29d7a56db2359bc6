-- The index of a token among names. (own)
use Rattle.std.specs.Prelude.{ℕ, suc, ◌==◌, List, [], ◌∷◌, Option, Some, None, if◌then◌else◌}
use Rattle.daide_token.specs.Names.{Named}

-- the index of the first name with a token, if the first of the names has index `place`
abbrev pub place_from : ℕ → List Named → ℕ → Option ℕ
place_from place [] t = None
place_from place (named ∷ names) t = if t == named.0 then Some place else place_from (suc place) names t
