-- Tokens as whole numbers, 0 to FFFF hexadecimal, as in the protocol's token table.
use Rattle.std.specs.Prelude.{ℕ, ℤ, pos, negsuc, ◌-ℤ◌, ◌-◌, nat_lt, if◌then◌else◌, Option, Some, None}
use Rattle.std.specs.Prelude.{◌+◌, ◌*◌, ◌/◌, ◌%◌, List, [], ◌∷◌, ◌++◌, slice_index}

-- BRA, the opening bracket
abbrev pub bra : ℕ
bra = 0x4000

-- KET, the closing bracket
abbrev pub ket : ℕ
ket = 0x4001

-- HLO, with which the server announces a game's variant
abbrev pub hlo : ℕ
hlo = 0x4804

-- HUH, which returns a message with its first error marked
abbrev pub huh : ℕ
huh = 0x4806

-- PRN, which returns a message whose brackets do not match
abbrev pub prn : ℕ
prn = 0x4813

-- ERR, which marks the error in a HUH
abbrev pub err : ℕ
err = 0x4902

-- LVL, the option of a variant that sets the level of press
abbrev pub lvl : ℕ
lvl = 0x4903

-- the number of a token: two's complement in fourteen bits
abbrev pub number_of : ℕ → Option ℤ
number_of t =
    if nat_lt t 0x2000 then Some (pos t) else
    if nat_lt t 0x4000 then Some (pos t -ℤ pos 0x4000) else
    None

-- the token of a number from -8192 to 8191; negsuc n is the number -(n + 1)
abbrev pub token_of_number : ℤ → Option ℕ
token_of_number (pos n) = if nat_lt n 0x2000 then Some n else None
token_of_number (negsuc n) = if nat_lt n 0x2000 then Some (0x3FFF - n) else None

-- a token's two bytes, high byte first
abbrev pub token_bytes : ℕ → List ℕ
token_bytes t = t / 256 ∷ t % 256 ∷ []

-- the token of two bytes
abbrev pub token_of_bytes : List ℕ → ℕ
token_of_bytes bytes = slice_index bytes 0 * 256 + slice_index bytes 1

-- the token at an index of a body
abbrev pub token_at : List ℕ → ℕ → ℕ
token_at body place = slice_index body (2 * place) * 256 + slice_index body (2 * place + 1)

-- the tokens of some bytes, two bytes each, high byte first; an odd last byte is no token
abbrev pub tokens_of : List ℕ → List ℕ
tokens_of (high ∷ low ∷ rest) = (high * 256 + low) ∷ tokens_of rest
tokens_of (byte ∷ []) = []
tokens_of [] = []

-- the bytes of some tokens
abbrev pub bytes_of_tokens : List ℕ → List ℕ
bytes_of_tokens [] = []
bytes_of_tokens (t ∷ ts) = token_bytes t ++ bytes_of_tokens ts
