-- The levels of press: 0 without press, 10 to 60 as the protocol numbers them.
use Rattle.std.specs.Prelude.{ℕ, nat_le, min, ℤ, pos, negsuc, List, [], ◌∷◌, Option, Some, None, if◌then◌else◌, ◌==◌}
use Rattle.daide_grammar.specs.declared.level.Level.{Level}
use Rattle.daide_grammar.specs.declared.level.Level.TheVariants.{L0, L10, L20, L30, L40, L50, L60}

-- the number that messages use for the level
abbrev pub level_number : Level → ℕ
level_number L0 = 0
level_number L10 = 10
level_number L20 = 20
level_number L30 = 30
level_number L40 = 40
level_number L50 = 50
level_number L60 = 60

-- the levels except L0, in descending order
abbrev pub levels_down : List Level
levels_down = L60 ∷ L50 ∷ L40 ∷ L30 ∷ L20 ∷ L10 ∷ []

-- the level with exactly this number
abbrev pub level_among : ℕ → List Level → Option Level
level_among n [] = None
level_among n (l ∷ ls) = if level_number l == n then Some l else level_among n ls

abbrev pub level_of_number : ℕ → Option Level
level_of_number n = level_among n (L0 ∷ levels_down)

-- the first of the levels whose number is at most n, or else L0
abbrev pub first_not_above : ℕ → List Level → Level
first_not_above n [] = L0
first_not_above n (l ∷ ls) = if nat_le (level_number l) n then l else first_not_above n ls

-- the greatest level that is at most n and at most the top; L0 if n is negative
abbrev pub greatest_level : ℤ → Level → Level
greatest_level (pos n) top = first_not_above (min n (level_number top)) levels_down
greatest_level (negsuc n) top = L0
