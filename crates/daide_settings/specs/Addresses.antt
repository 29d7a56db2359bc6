-- The form of an address, `HOST:PORT`: docs/FORMATS.md, "Settings", as definitions. (own)
use Rattle.std.specs.Prelude.{ℕ, ◌+◌, ◌-◌, ◌*◌, ◌&&◌, ◌||◌, ◌==◌, not, nat_le, Bool, true, false, if◌then◌else◌}
use Rattle.std.specs.Prelude.{List, [], ◌∷◌}
use Rattle.std.specs.List.{list_all}

-- the highest port
abbrev pub most_port : ℕ
most_port = 65535

abbrev pub is_port_digit : ℕ → Bool
is_port_digit byte = nat_le 48 byte && nat_le byte 57

-- decimal digits which, after those of `number`, are those of a port
abbrev pub are_port_digits : ℕ → List ℕ → Bool
are_port_digits number [] = true
are_port_digits number (byte ∷ others) =
    is_port_digit byte
    && (nat_le (10 * number + (byte - 48)) most_port && are_port_digits (10 * number + (byte - 48)) others)

-- at least one digit
abbrev pub is_port_number : List ℕ → Bool
is_port_number [] = false
is_port_number (byte ∷ others) = are_port_digits 0 (byte ∷ others)

-- a port: a decimal number, as std reads it: with leading zeros or without, and after a plus or without one
abbrev pub is_port : List ℕ → Bool
is_port [] = false
is_port (byte ∷ others) = if byte == 43 then is_port_number others else is_port_number (byte ∷ others)

-- a port after a colon, which is the last one, since a port has none
abbrev pub ends_in_port : List ℕ → Bool
ends_in_port [] = false
ends_in_port (byte ∷ others) = (byte == 58 && is_port others) || ends_in_port others

abbrev pub is_no_slash : ℕ → Bool
is_no_slash byte = not (byte == 47)

-- an address: a host of at least one byte, a colon and a port, without the slashes of a scheme
abbrev pub is_address : List ℕ → Bool
is_address [] = false
is_address (first ∷ others) = ends_in_port others && list_all is_no_slash (first ∷ others)
