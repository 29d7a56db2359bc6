-- The input of `show`: the bytes of one frame as hexadecimal digits, or as a bytes literal of Python (own).
use Rattle.std.specs.Prelude.{ℕ, ◌≤◌, ◌%◌, ◌==◌, ◌||◌, ◌&&◌, nat_le, nat_lt, Bool, true, false, not, if◌then◌else◌}
use Rattle.std.specs.Prelude.{List, [], ◌∷◌, ◌++◌, length, position, unwrap_or, Option, Result}
use Rattle.std.specs.Io.KnownBytes.{Consumes}
use Rattle.hex.specs.Hex.{decode_of, is_hex_digit}
use Rattle.hex.specs.declared.error.FromHexError.{FromHexError}
use Rattle.daide_token.specs.HexDigits.{digits_of_byte}
use Rattle.daide_show.specs.declared.frame_view.places.Place.{Place}
use Rattle.daide_show.specs.declared.frame_view.places.Place.TheVariants.{Outside, After, Marked, Opened, Quoted, Escaped, High}
use Rattle.daide_show.specs.declared.frame_view.places.Place.TheVariants.{Low}
use Rattle.daide_show.specs.declared.frame_view.places.InputByte.{InputByte}
use Rattle.daide_show.specs.declared.frame_view.places.InputByte.TheVariants.{Nothing, Kept, Byte}

-- the most bytes of an input (own)
abbrev pub limit : ℕ
limit = 200000

-- a space, a tab, a carriage return or a line feed
abbrev pub is_blank : ℕ → Bool
is_blank b = b == 32 || b == 9 || b == 13 || b == 10

-- ---- digits: separators and prefixes are dropped

-- a blank, a comma or a colon
abbrev pub is_separator : ℕ → Bool
is_separator b = is_blank b || (b == 44 || b == 58)

-- an `x` of either case
abbrev pub is_x : ℕ → Bool
is_x b = b == 120 || b == 88

abbrev pub is_no_digit : ℕ → Bool
is_no_digit b = not (is_hex_digit b)

-- the number of digits at the start of some bytes
abbrev pub leading_digits : List ℕ → ℕ
leading_digits bytes = unwrap_or (position is_no_digit bytes) (length bytes)

-- the same after an `x`; 0 without one
abbrev pub digits_after_x : List ℕ → ℕ
digits_after_x [] = 0
digits_after_x (b ∷ bytes) = if is_x b then leading_digits bytes else 0

-- the digits of one byte or more
abbrev pub are_pairs : ℕ → Bool
are_pairs count = nat_lt 0 count && count % 2 == 0

-- the `0` before an `x` and whole bytes, and the backslash before an `x` and one byte
abbrev pub opens_prefix : ℕ → List ℕ → Bool
opens_prefix b rest = b == 48 && are_pairs (digits_after_x rest)

abbrev pub opens_escape : ℕ → List ℕ → Bool
opens_escape b rest = b == 92 && digits_after_x rest == 2

-- ---- a literal: `b` and a text in quotes; with a backslash after the `b`, a text whose quotes a shell has removed

-- `'` and `"`
abbrev pub is_quote : ℕ → Bool
is_quote b = b == 39 || b == 34

-- a byte that is in no prefix and in no literal of its own: not an `x`, a backslash or a quote
abbrev pub is_ordinary : ℕ → Bool
is_ordinary b = not (is_x b || (b == 92 || is_quote b))

-- the first of some bytes is such a byte
abbrev pub first_byte_passes : (ℕ → Bool) → List ℕ → Bool
first_byte_passes test [] = false
first_byte_passes test (b ∷ bytes) = test b

-- the `b` before a quote, and before a backslash
abbrev pub opens_quoted : ℕ → List ℕ → Bool
opens_quoted b rest = b == 98 && first_byte_passes is_quote rest

abbrev pub opens_bare : ℕ → List ℕ → Bool
opens_bare b rest = b == 98 && first_byte_passes (λ c. c == 92) rest

-- from space to tilde
abbrev pub is_in_text : ℕ → Bool
is_in_text b = nat_le 32 b && nat_le b 126

-- what the byte after a backslash means, other than `x`: n, r, t, a backslash or a quote
abbrev pub escaped : ℕ → InputByte
escaped b =
    if b == 110 then Byte 10
    else if b == 114 then Byte 13
    else if b == 116 then Byte 9
    else if b == 92 || is_quote b then Byte b
    else Kept 92

-- ---- both

-- what a byte gives, by its place and the bytes after it. In a literal a printable byte is itself. A byte that is kept
-- must be a digit.
abbrev pub input_byte : Place → ℕ → List ℕ → InputByte
input_byte Outside b rest =
    if is_separator b || (opens_escape b rest || (opens_prefix b rest || (opens_quoted b rest || opens_bare b rest)))
    then Nothing
    else Kept b
input_byte After b rest = if is_separator b || opens_escape b rest then Nothing else Kept b
input_byte Marked b rest = Nothing
input_byte Opened b rest = Nothing
input_byte (Quoted quote) b rest =
    if b == 92 || b == quote then Nothing else if is_in_text b then Byte b else Kept b
input_byte (Escaped quote) b rest = if b == 120 then Nothing else escaped b
input_byte (High quote) b rest = Kept b
input_byte (Low quote) b rest = Kept b

-- the place after a byte outside of a literal
abbrev pub following_place : ℕ → Place
following_place b = if is_hex_digit b then After else Outside

-- the place of the next byte
abbrev pub next_place : Place → ℕ → List ℕ → Place
next_place Outside b rest =
    if opens_escape b rest || opens_prefix b rest then Marked
    else if opens_quoted b rest then Opened
    else if opens_bare b rest then Quoted 92
    else following_place b
next_place After b rest = if opens_escape b rest then Marked else following_place b
next_place Marked b rest = Outside
next_place Opened b rest = Quoted b
next_place (Quoted quote) b rest = if b == 92 then Escaped quote else if b == quote then Outside else Quoted quote
next_place (Escaped quote) b rest = if b == 120 then High quote else Quoted quote
next_place (High quote) b rest = Low quote
next_place (Low quote) b rest = Quoted quote

-- an input may end at this place: no quote is open, and no escape
abbrev pub may_end_at : Place → Bool
may_end_at Outside = true
may_end_at After = true
may_end_at Marked = false
may_end_at Opened = false
may_end_at (Quoted quote) = quote == 92
may_end_at (Escaped quote) = false
may_end_at (High quote) = false
may_end_at (Low quote) = false

abbrev pub digits_of_input_byte : InputByte → List ℕ
digits_of_input_byte Nothing = []
digits_of_input_byte (Kept b) = b ∷ []
digits_of_input_byte (Byte b) = digits_of_byte b

-- the digits of bytes from a place on; an open quote is kept, and so refused
abbrev pub digits_from : Place → List ℕ → List ℕ
digits_from place [] = if may_end_at place then [] else 39 ∷ []
digits_from place (b ∷ rest) = digits_of_input_byte (input_byte place b rest) ++ digits_from (next_place place b rest) rest

-- the digits of an input
abbrev pub digits_of : List ℕ → List ℕ
digits_of input = digits_from Outside input

-- the bytes of an input, two digits each and in either case; an error if there is another character, or half a byte
abbrev pub parse_hex : List ℕ → Result (List ℕ) FromHexError
parse_hex input = decode_of (digits_of input)

-- a part of an input was read: it is what the reader returned, it is not too long, and each turn returned a byte
pub record IsPartlyRead (old now : Option (List ℕ)) (input : List ℕ) (turns : ℕ) : Type 0 where
  pub given : Consumes old now input
  pub fits : length input ≤ limit
  pub each_turn : turns ≤ length input
