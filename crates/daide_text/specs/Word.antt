-- The token of a word: a number, a name, or four hexadecimal digits. (own)
use Rattle.std.specs.Prelude.{ℕ, ℤ, pos, neg_ℤ, ◌+◌, ◌-◌, ◌*◌, ◌==◌, nat_le, nat_lt, Bool, ◌&&◌, ◌||◌}
use Rattle.std.specs.Prelude.{if◌then◌else◌, List, [], ◌∷◌, length, bytes_eq, Option, Some, None, option_map}
use Rattle.std.specs.List.{find, list_all}
use Rattle.daide_token.specs.Names.{Named, token_named}
use Rattle.daide_token.specs.Token.{token_of_number}
use Rattle.daide_words.specs.Accepted.{is_capital}

-- a digit from 0 to 9
abbrev pub is_digit : ℕ → Bool
is_digit c = nat_le 48 c && nat_le c 57

-- the number n, continued by decimal digits
abbrev pub value_after : ℕ → List ℕ → ℕ
value_after n [] = n
value_after n (c ∷ digits) = value_after (n * 10 + (c - 48)) digits

-- the greatest number that is parsed; no token has a greater one
abbrev pub greatest_magnitude : ℕ
greatest_magnitude = 9999

-- the number of one or more decimal digits; leading zeros are ignored
abbrev pub magnitude : List ℕ → Option ℕ
magnitude digits =
    if nat_lt 0 (length digits) && (list_all is_digit digits && nat_le (value_after 0 digits) greatest_magnitude)
    then Some (value_after 0 digits)
    else None

-- the token of a number, if it has one
abbrev pub token_of_some : Option ℤ → Option ℕ
token_of_some None = None
token_of_some (Some n) = token_of_number n

-- the token of decimal digits, with an optional minus sign
abbrev pub token_of_decimal : List ℕ → Option ℕ
token_of_decimal [] = None
token_of_decimal (c ∷ digits) =
    if c == 45
    then token_of_some (option_map (λ n. neg_ℤ (pos n)) (magnitude digits))
    else token_of_some (option_map (λ n. pos n) (magnitude (c ∷ digits)))

-- the value of a hexadecimal digit of either case
abbrev pub hex_value : ℕ → Option ℕ
hex_value c =
    if nat_le 48 c && nat_le c 57 then Some (c - 48) else
    if nat_le 65 c && nat_le c 70 then Some (c - 55) else
    if nat_le 97 c && nat_le c 102 then Some (c - 87) else
    None

-- the token of four digits' values, the highest first
abbrev pub token_of_values : Option ℕ → Option ℕ → Option ℕ → Option ℕ → Option ℕ
token_of_values (Some a) (Some b) (Some c) (Some d) = Some (a * 4096 + b * 256 + c * 16 + d)
token_of_values a b c d = None

-- the token of four hexadecimal digits
abbrev pub token_of_hex : List ℕ → Option ℕ
token_of_hex (a ∷ b ∷ c ∷ d ∷ []) = token_of_values (hex_value a) (hex_value b) (hex_value c) (hex_value d)
token_of_hex digits = None

-- the token of the first entry with a name, among names that an operator added
abbrev pub added_token : List Named → List ℕ → Option ℕ
added_token added name = option_map (λ entry. entry.0) (find (λ entry. bytes_eq entry.1 name) added)

-- the first of two options that has a value
abbrev pub first_found : Option ℕ → Option ℕ → Option ℕ
first_found (Some t) other = Some t
first_found None other = other

-- the token of a name in capital letters; names of the protocol take precedence
abbrev pub token_of_name : List Named → List ℕ → Option ℕ
token_of_name added name =
    if list_all is_capital name then first_found (token_named name) (added_token added name) else None

-- the token of a word: four digits after `#`, a number after a digit or a minus sign, else a name
abbrev pub token_of_word : List Named → List ℕ → Option ℕ
token_of_word added [] = None
token_of_word added (c ∷ word) =
    if c == 35 then token_of_hex word else
    if c == 45 || is_digit c then token_of_decimal (c ∷ word) else
    token_of_name added (c ∷ word)
