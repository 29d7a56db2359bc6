-- Bytes in hexadecimal digits. (own)
use Rattle.std.specs.Prelude.{ℕ, ◌/◌, ◌%◌, List, [], ◌∷◌, codes, slice_index}

-- the upper-case digit of a value from 0 to 15
abbrev pub upper_digit_of : ℕ → ℕ
upper_digit_of n = slice_index (codes "0123456789ABCDEF") n

-- the two digits of a byte, the high one first
abbrev pub digits_of_byte : ℕ → List ℕ
digits_of_byte byte = upper_digit_of (byte / 16) ∷ upper_digit_of (byte % 16) ∷ []
