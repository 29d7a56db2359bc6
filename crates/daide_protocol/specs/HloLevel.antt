-- The level of press that a server's HLO sets: HLO ( power ) ( passcode ) ( ( LVL n ) .. ). The rule is that of
-- docs/PROTOCOL.md, "The session".
use Rattle.std.specs.Prelude.{ℕ, ℤ, Bool, false, ◌&&◌, ◌==◌, List, [], ◌∷◌, reverse, get_or, Option, Some, None}
use Rattle.std.specs.Prelude.{if◌then◌else◌}
use Rattle.daide_token.specs.Token.{bra, ket, hlo, lvl, number_of}
use Rattle.daide_grammar.specs.declared.level.Level.{Level}
use Rattle.daide_grammar.specs.declared.level.Level.TheVariants.{L0}
use Rattle.daide_grammar.specs.Level.{greatest_level}
use Rattle.daide_protocol.specs.declared.hlo.LvlScan.{LvlScan}
use Rattle.daide_protocol.specs.declared.hlo.LvlScan.TheVariants.{NoToken, NoHlo, NoNumber, Number}

-- the number of an option ( LVL n ) at the front of these tokens
abbrev pub option_number : List ℕ → Option ℤ
option_number (open_bracket ∷ word ∷ number ∷ close_bracket ∷ tokens) =
    if (open_bracket == bra) && (word == lvl) && (close_bracket == ket) then number_of number else None
option_number tokens = None

abbrev pub or_else : Option ℤ → Option ℤ → Option ℤ
or_else (Some number) later = Some number
or_else None later = later

-- the number of the first option ( LVL n ); one without a number is skipped (own)
abbrev pub first_level : List ℕ → Option ℤ
first_level [] = None
first_level (token ∷ tokens) = or_else (option_number (token ∷ tokens)) (first_level tokens)

-- the greatest level that is at most that number and at most the operator's; level 0 if there is no number
abbrev pub level_by : Level → Option ℤ → Level
level_by top (Some number) = greatest_level number top
level_by top None = L0

abbrev pub level_of_hlo : Level → List ℕ → Level
level_of_hlo top tokens = level_by top (first_level tokens)

abbrev pub begins_with_hlo : List ℕ → Bool
begins_with_hlo [] = false
begins_with_hlo (token ∷ tokens) = token == hlo

-- the level after a relayed message of the server: only an HLO sets it
abbrev pub level_reported : Level → List ℕ → Level → Level
level_reported top tokens level = if begins_with_hlo tokens then level_of_hlo top tokens else level

-- ---- as the tokens arrive

-- the token `places` before the last one; if there are fewer, 0, which is no bracket
abbrev pub before_last : ℕ → List ℕ → ℕ
before_last places tokens = get_or (reverse tokens) places 0

abbrev pub lvl_scan_by : Option ℤ → List ℕ → LvlScan
lvl_scan_by (Some number) tokens = Number number
lvl_scan_by None tokens = NoNumber (before_last 2 tokens) (before_last 1 tokens) (before_last 0 tokens)

-- What the scan of the tokens of a message so far found: whether it is an HLO, and the number of its first option ( LVL
-- n ). Without a number it has the last three tokens, since a later token may complete an option with them.
abbrev pub lvl_scan_of : List ℕ → LvlScan
lvl_scan_of [] = NoToken
lvl_scan_of (token ∷ tokens) = if token == hlo then lvl_scan_by (first_level (token ∷ tokens)) (token ∷ tokens) else NoHlo
