-- The levels of press over the whole range of their numbers: the number of each level, and the level that an LVL allows
-- under each top level. Written from the protocol's table of press and its session rules. A definition that is right
-- for one number and wrong for the next does not check.
use Rattle.std.proofs.Common.{pos, negsuc, replicate, option_map}
use Rattle.daide_grammar.proofs.Common.{◌≡◌, ℕ, List, [], ◌∷◌, ◌++◌, map, Option, Some, None, refl, range_with_len}
use Rattle.daide_grammar.proofs.Common.{Level, L0, L10, L20, L30, L40, L50, L60, level_number}
use Rattle.daide_token.specs.Token.{number_of}
use Rattle.daide_grammar.specs.Level.{greatest_level, level_of_number}

abbrev levels : List Level
levels = L0 ∷ L10 ∷ L20 ∷ L30 ∷ L40 ∷ L50 ∷ L60 ∷ []

-- ---- the numbers of levels

numbers_of_levels : map level_number levels ≡ 0 ∷ 10 ∷ 20 ∷ 30 ∷ 40 ∷ 50 ∷ 60 ∷ []
numbers_of_levels = refl

-- a level, followed by n numbers without a level
abbrev named : Level → ℕ → List (Option Level)
named level others = Some level ∷ replicate others None

-- of the numbers 0 to 255 seven are levels, ten apart; 70 to 130, the levels of other editions, are not
levels_of_numbers : map level_of_number (range_with_len 0 256)
    ≡ named L0 9 ++ named L10 9 ++ named L20 9 ++ named L30 9 ++ named L40 9 ++ named L50 9 ++ named L60 195
levels_of_numbers = refl

-- the codes of negative numbers name no level: -8192 to -7937 and -256 to -1, and -256 to -1 in sixteen bits
no_levels_of_negative_codes : (map level_of_number (range_with_len 0x2000 256) ≡ replicate 256 None)
    × (map level_of_number (range_with_len 0x3F00 256) ≡ replicate 256 None)
    × (map level_of_number (range_with_len 0xFF00 256) ≡ replicate 256 None)
no_levels_of_negative_codes = (refl, refl, refl)

-- ---- the level that an LVL allows

-- for the numbers 0 to 130, under a top level
abbrev allowed : Level → List Level
allowed top = map (λ n. greatest_level (pos n) top) (range_with_len 0 131)

-- ten numbers for each level, up to the top level
allowed_by_numbers : (allowed L0 ≡ replicate 131 L0)
    × (allowed L10 ≡ replicate 10 L0 ++ replicate 121 L10)
    × (allowed L20 ≡ replicate 10 L0 ++ replicate 10 L10 ++ replicate 111 L20)
    × (allowed L30 ≡ replicate 10 L0 ++ replicate 10 L10 ++ replicate 10 L20 ++ replicate 101 L30)
    × (allowed L40 ≡ replicate 10 L0 ++ replicate 10 L10 ++ replicate 10 L20 ++ replicate 10 L30 ++ replicate 91 L40)
    × (allowed L50 ≡ replicate 10 L0 ++ replicate 10 L10 ++ replicate 10 L20 ++ replicate 10 L30 ++ replicate 10 L40
    ++ replicate 81 L50)
    × (allowed L60 ≡ replicate 10 L0 ++ replicate 10 L10 ++ replicate 10 L20 ++ replicate 10 L30 ++ replicate 10 L40
    ++ replicate 10 L50 ++ replicate 71 L60)
allowed_by_numbers = (refl, refl, refl, refl, refl, refl, refl)

-- the greatest number of a token, and those around it, allow the top level
allowed_by_great_numbers : map (λ top. map (λ n. greatest_level (pos n) top) (range_with_len 0x1F00 512)) levels
    ≡ map (λ top. replicate 512 top) levels
allowed_by_great_numbers = refl

-- a negative number allows only level 0
negative_allows_none : (n : ℕ) (top : Level) → greatest_level (negsuc n) top ≡ L0
negative_allows_none n top = refl

-- the level that the number of a token allows under a top level
abbrev by_token : Level → ℕ → Option Level
by_token top token = option_map (λ n. greatest_level n top) (number_of token)

-- the tokens of -8192 to -7937 and of -256 to -1 allow level 0; the token before them allows the top level, and the one
-- after them is no number
allowed_by_negative_tokens : map (λ top. map (by_token top) (0x1FFF ∷ range_with_len 0x2000 256)) levels
    ≡ map (λ top. Some top ∷ replicate 256 (Some L0)) levels
allowed_by_negative_tokens = refl

allowed_by_last_tokens : map (λ top. map (by_token top) (range_with_len 0x3F00 257)) levels
    ≡ map (λ top. replicate 256 (Some L0) ++ None ∷ []) levels
allowed_by_last_tokens = refl
