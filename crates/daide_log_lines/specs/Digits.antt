-- Decoding of hexadecimal digits. (own)
use Rattle.std.specs.Prelude.{⊤, ◌≡◌, ℕ, ◌+◌, ◌*◌, Bool, true, false, List, [], ◌∷◌, Result, Ok, Err, unwrap_or}
use Rattle.hex.specs.Hex.{hex_digit_value}
use Rattle.hex.specs.declared.error.FromHexError.{FromHexError}

-- the value of a digit, of either case
abbrev pub value_of : ℕ → ℕ
value_of digit = unwrap_or (hex_digit_value digit) 0

-- the bytes of pairs of digits, the high one first
abbrev pub bytes_of_hex : List ℕ → List ℕ
bytes_of_hex [] = []
bytes_of_hex (digit ∷ []) = []
bytes_of_hex (high ∷ low ∷ digits) = (value_of high * 16 + value_of low) ∷ bytes_of_hex digits

-- whether all digits are valid, and if so, their bytes
abbrev pub IsRead : Bool → Result (List ℕ) FromHexError → List ℕ → Type 0
IsRead true decoded bytes = decoded ≡ Ok bytes
IsRead false (Ok decoded) bytes = ⊥
IsRead false (Err fault) bytes = ⊤
