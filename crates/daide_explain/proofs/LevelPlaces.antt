-- The levels with press by their index in ascending order.
use Rattle.daide_explain.proofs.Common.{ℕ, Level, L0, L10, L20, L30, L40, L50, L60}

-- the level's index among those with press; L0 is not among them
abbrev pub level_place : Level → ℕ
level_place L0 = 0
level_place L10 = 0
level_place L20 = 1
level_place L30 = 2
level_place L40 = 3
level_place L50 = 4
level_place L60 = 5
