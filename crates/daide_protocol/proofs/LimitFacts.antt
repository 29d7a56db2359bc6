-- The limits that an operator may set, at their ends and over the whole range around them. Worked out from the
-- documents, so that another number in a definition does not check.
use Rattle.daide_protocol.proofs.Common.{◌≡◌, ℕ, zero, suc, List, [], ◌++◌, map, replicate, refl, Result, Ok, Err}
use Rattle.daide_protocol.proofs.Common.{range_with_len}
use Rattle.daide_grammar.specs.Bounds.{cells_bound}
use Rattle.daide_protocol.specs.Bounds.{greatest_depth, longest_body}
use Rattle.daide_protocol.specs.declared.config.Config.{Config}
use Rattle.daide_protocol.specs.declared.config.ConfigError.{ConfigError}
use Rattle.daide_protocol.specs.declared.config.ConfigError.TheVariants.{Level, Body, Depth}
use Rattle.daide_protocol.specs.Config.{config_fault}

-- the highest level and the longest body, with a depth
abbrev wide : ℕ → Config
wide depth = record { top_level = 60; max_body = longest_body; max_depth = depth }

deepest_is_right : config_fault (wide 254) ≡ Ok tt
deepest_is_right = refl

no_deeper : config_fault (wide 255) ≡ Err Depth
no_deeper = refl

shallowest_is_right : config_fault (wide 4) ≡ Ok tt
shallowest_is_right = refl

no_shallower : config_fault (wide 3) ≡ Err Depth
no_shallower = refl

-- five cells for each open bracket, plus ten
cells_of_the_greatest_depth : cells_bound greatest_depth ≡ 1280
cells_of_the_greatest_depth = refl

-- ---- over their ranges

abbrev right : ℕ → List (Result (Unit {0}) ConfigError)
right n = replicate n (Ok tt)

abbrev wrong : ConfigError → ℕ → List (Result (Unit {0}) ConfigError)
wrong fault n = replicate n (Err fault)

abbrev at_level : ℕ → Result (Unit {0}) ConfigError
at_level level = config_fault (record { top_level = level; max_body = 512; max_depth = 4 })

abbrev limited : ℕ → ℕ → Config
limited body depth = record { top_level = 60; max_body = body; max_depth = depth }

abbrev of_body : ℕ → Result (Unit {0}) ConfigError
of_body body = config_fault (limited body 4)

abbrev of_depth : ℕ → Result (Unit {0}) ConfigError
of_depth depth = config_fault (limited 512 depth)

-- seven levels, ten apart
top_levels : map at_level (range_with_len 0 256) ≡ right 1 ++ wrong Level 9 ++ right 1 ++ wrong Level 9 ++ right 1
    ++ wrong Level 9 ++ right 1 ++ wrong Level 9 ++ right 1 ++ wrong Level 9 ++ right 1 ++ wrong Level 9 ++ right 1
    ++ wrong Level 195
top_levels = refl

-- n even bodies, each followed by an odd one
abbrev evens : ℕ → List (Result (Unit {0}) ConfigError)
evens zero = []
evens (suc n) = right 1 ++ wrong Body 1 ++ evens n

-- even, from 512 to 65,526
bodies : (map of_body (range_with_len 0 512) ≡ wrong Body 512) × (map of_body (range_with_len 512 512) ≡ evens 256)
    × (map of_body (range_with_len 65024 512) ≡ evens 252 ++ wrong Body 8)
bodies = (refl, refl, refl)

-- from 4 to 254
depths : map of_depth (range_with_len 0 512) ≡ wrong Depth 4 ++ right 251 ++ wrong Depth 257
depths = refl
