-- The level of press that a server's HLO sets, over the whole range of its number, its option and the operator's top
-- level; and the bounds of what is held, from no open bracket to the maximum. Written from the protocol's session
-- rules. A definition that is right for one number and wrong for the next does not check.
use Rattle.daide_protocol.proofs.Common.{◌≡◌, ℕ, zero, suc, ◌+◌, ◌*◌, ◌≤◌, List, [], ◌∷◌, ◌++◌, map, replicate, drop}
use Rattle.daide_protocol.proofs.Common.{refl, range_with_len, parse_head, announced, head_in, Level, L0, L10, L20, L30}
use Rattle.daide_protocol.proofs.Common.{L60, level_reported, Holding}
use Rattle.daide_grammar.specs.declared.level.Level.TheVariants.{L40, L50}
use Rattle.daide_protocol.specs.Weight.{IsKeptSmall}

-- ---- the level

-- HLO ( UNO ) ( 0 ) ( options )
abbrev hlo_with : List ℕ → List ℕ
hlo_with options =
    0x4804 ∷ 0x4000 ∷ 0x490B ∷ 0x4001 ∷ 0x4000 ∷ 0x0000 ∷ 0x4001 ∷ 0x4000 ∷ options ++ 0x4001 ∷ []

-- ( option token )
abbrev option : ℕ → ℕ → List ℕ
option word token = 0x4000 ∷ word ∷ token ∷ 0x4001 ∷ []

abbrev lvl : ℕ → List ℕ
lvl token = option 0x4903 token

-- the level under an operator's top level, after level 30, for each of some options
abbrev levels : Level → List (List ℕ) → List Level
levels top each = map (λ options. level_reported top (hlo_with options) L30) each

-- the tokens of the numbers 0 to 255, 7,936 to 8,191, -8,192 to -7,937 and -256 to -1
abbrev small : List ℕ
small = range_with_len 0x0000 256

abbrev greatest : List ℕ
greatest = range_with_len 0x1F00 256

abbrev negative : List ℕ
negative = range_with_len 0x2000 256 ++ range_with_len 0x3F00 256

-- ten numbers for each level, from 0 on, up to the operator's level
by_numbers : (levels L60 (map lvl small) ≡ replicate 10 L0 ++ replicate 10 L10 ++ replicate 10 L20 ++ replicate 10 L30
    ++ replicate 10 L40 ++ replicate 10 L50 ++ replicate 196 L60)
    × (levels L50 (map lvl small) ≡ replicate 10 L0 ++ replicate 10 L10 ++ replicate 10 L20 ++ replicate 10 L30
    ++ replicate 10 L40 ++ replicate 206 L50)
    × (levels L40 (map lvl small) ≡ replicate 10 L0 ++ replicate 10 L10 ++ replicate 10 L20 ++ replicate 10 L30
    ++ replicate 216 L40)
    × (levels L30 (map lvl small) ≡ replicate 10 L0 ++ replicate 10 L10 ++ replicate 10 L20 ++ replicate 226 L30)
    × (levels L20 (map lvl small) ≡ replicate 10 L0 ++ replicate 10 L10 ++ replicate 236 L20)
    × (levels L10 (map lvl small) ≡ replicate 10 L0 ++ replicate 246 L10)
    × (levels L0 (map lvl small) ≡ replicate 256 L0)
by_numbers = (refl, refl, refl, refl, refl, refl, refl)

by_great_numbers : (levels L60 (map lvl greatest) ≡ replicate 256 L60) × (levels L10 (map lvl greatest) ≡ replicate 256 L10)
by_great_numbers = (refl, refl)

-- a negative number is a number: the level is 0, whatever option follows
by_negative_numbers : (levels L60 (map lvl negative) ≡ replicate 512 L0)
    × (levels L60 (map (λ token. lvl token ++ lvl 20) negative) ≡ replicate 512 L0)
by_negative_numbers = (refl, refl)

-- the first option with a number counts, and one with a token that is no number is skipped: the first token of each
-- category from 40 on
by_the_first : (levels L60 (map (λ token. lvl token ++ lvl 60) (range_with_len 0 60))
    ≡ replicate 10 L0 ++ replicate 10 L10 ++ replicate 10 L20 ++ replicate 10 L30 ++ replicate 10 L40 ++ replicate 10 L50)
    × (levels L60 (map (λ category. lvl (category * 256) ++ lvl 20) (range_with_len 0x40 192)) ≡ replicate 192 L20)
    × (levels L60 (map (λ category. lvl (category * 256)) (range_with_len 0x40 192)) ≡ replicate 192 L0)
by_the_first = (refl, refl, refl)

-- of all parameters only LVL
by_lvl_alone : (levels L60 (map (λ code. option (0x4900 + code) 10) (range_with_len 0 256))
    ≡ replicate 3 L0 ++ L10 ∷ replicate 252 L0)
    × (levels L60 (map (λ code. option (0x4900 + code) 10 ++ lvl 20) (range_with_len 0 256))
    ≡ replicate 3 L20 ++ L10 ∷ replicate 252 L20)
by_lvl_alone = (refl, refl)

-- of all commands only HLO
by_hlo_alone : map (λ code. level_reported L60 ((0x4800 + code) ∷ drop 1 (hlo_with (lvl 20))) L30) (range_with_len 0 256)
    ≡ replicate 4 L30 ++ L20 ∷ replicate 251 L30
by_hlo_alone = refl

-- ---- what is held

-- n opening brackets
abbrev opened : ℕ → List ℕ
opened zero = []
opened (suc n) = 0x40 ∷ 0x00 ∷ opened n

-- a HUH of 1,018 bytes, of which some brackets arrived, with the height of its reader's stack
abbrev huh_of : ℕ → ℕ → Holding
huh_of brackets n = record {
  frame_bytes = 0x02 ∷ 0x00 ∷ 0x03 ∷ 0xFA ∷ 0x48 ∷ 0x06 ∷ opened brackets;
  entries = n;
  total = 0;
  total_before = 0;
  looked_at = 0;
}

-- eight entries for each open bracket, plus sixteen: for none, for one, for 62 and for 254, the maximum
kept_entries : (n : ℕ) → (IsKeptSmall 65526 (huh_of 0 n) → n ≤ 16) × (IsKeptSmall 65526 (huh_of 1 n) → n ≤ 24)
    × (IsKeptSmall 65526 (huh_of 62 n) → n ≤ 512) × (IsKeptSmall 65526 (huh_of 254 n) → n ≤ 2048)
unfolding announced head_in parse_head
kept_entries n = ((λ kept. kept.entries), (λ kept. kept.entries), (λ kept. kept.entries), (λ kept. kept.entries))
