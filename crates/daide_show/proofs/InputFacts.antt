-- What is dropped, kept and refused of an input, over all bytes and for each form, written from docs/FORMATS.md, so that
-- a byte mistaken for its neighbour fails to check.
use Rattle.std.proofs.Common.{is_ok}
use Rattle.daide_show.proofs.Common.{◌≡◌, ℕ, true, false, Bool, List, [], ◌∷◌, ◌++◌, codes, map, replicate, refl, not}
use Rattle.daide_show.proofs.Common.{Ok, range_with_len, decode_pairs, limit, is_blank, parse_hex}

-- tab and line feed, carriage return and space; not a vertical tab, a form feed or any other byte
blanks : map is_blank (range_with_len 0 256)
    ≡ replicate 9 false ++ true ∷ true ∷ replicate 2 false ++ true ∷ replicate 18 false ++ true ∷ replicate 223 false
blanks = refl

-- two digits with a byte before, between or after them: a blank, a comma or a colon is dropped
abbrev separator_dropped : List Bool
separator_dropped =
    replicate 9 false ++ true ∷ true ∷ replicate 2 false ++ true ∷ replicate 18 false ++ true ∷ replicate 11 false
    ++ true ∷ replicate 13 false ++ true ∷ replicate 197 false

separators_dropped : (map (λ b. is_ok (parse_hex (b ∷ 48 ∷ 57 ∷ []))) (range_with_len 0 256) ≡ separator_dropped)
    × (map (λ b. is_ok (parse_hex (48 ∷ b ∷ 57 ∷ []))) (range_with_len 0 256) ≡ separator_dropped)
    × (map (λ b. is_ok (parse_hex (48 ∷ 57 ∷ b ∷ []))) (range_with_len 0 256) ≡ separator_dropped)
unfolding decode_pairs
separators_dropped = (refl, refl, refl)

-- digits of either case, in each of a byte's two positions
abbrev digits : List Bool
digits =
    replicate 48 false ++ replicate 10 true ++ replicate 7 false ++ replicate 6 true ++ replicate 26 false
    ++ replicate 6 true ++ replicate 153 false

digits_taken : (map (λ b. is_ok (parse_hex (b ∷ 57 ∷ []))) (range_with_len 0 256) ≡ digits)
    × (map (λ b. is_ok (parse_hex (57 ∷ b ∷ []))) (range_with_len 0 256) ≡ digits)
unfolding decode_pairs
digits_taken = (refl, refl)

-- an input with these bytes
abbrev IsRead : List ℕ → List ℕ → Type 0
IsRead input bytes = parse_hex input ≡ Ok bytes

-- the bytes 02 00 in each form: pairs, prefixes, separators, and a prefix before more than one byte
each_form : IsRead (codes "02 00") (2 ∷ 0 ∷ []) × IsRead (codes "0x02 0x00") (2 ∷ 0 ∷ [])
    × IsRead (codes "0X02,0X00") (2 ∷ 0 ∷ []) × IsRead (codes "0x0200") (2 ∷ 0 ∷ []) × IsRead (codes "02:00") (2 ∷ 0 ∷ [])
    × IsRead (codes "\\x02\\x00") (2 ∷ 0 ∷ [])
    × IsRead (codes "b'\\x02\\x00'") (2 ∷ 0 ∷ []) × IsRead (codes "b\"\\x02\\x00\"") (2 ∷ 0 ∷ [])
    × IsRead (codes "b\\x02\\x00") (2 ∷ 0 ∷ []) × IsRead (codes " b'\\x02' b'\\x00'\n") (2 ∷ 0 ∷ [])
unfolding decode_pairs
each_form = (refl, refl, refl, refl, refl, refl, refl, refl, refl, refl)

-- in a literal a printable byte is itself, also a digit, a blank, a comma, the other quote, and what follows two digits
in_a_literal : IsRead (codes "b'H\\x03@\\x00'") (0x48 ∷ 3 ∷ 0x40 ∷ 0 ∷ [])
    × IsRead (codes "b'\\x00A, \"'") (0 ∷ 0x41 ∷ 0x2C ∷ 0x20 ∷ 0x22 ∷ [])
    × IsRead (codes "b\"it's\"") (0x69 ∷ 0x74 ∷ 0x27 ∷ 0x73 ∷ []) × IsRead (codes "b''") []
    × IsRead (codes "b'\\n\\r\\t\\\\\\'\\\"'") (10 ∷ 13 ∷ 9 ∷ 0x5C ∷ 0x27 ∷ 0x22 ∷ [])
unfolding decode_pairs
in_a_literal = (refl, refl, refl, refl, refl)

abbrev is_refused : List ℕ → Bool
is_refused input = not (is_ok (parse_hex input))

-- a prefix before one digit, before three, before none, right after a digit, and without its `0`; `\x` before one digit
-- and before more than two
refused_prefixes : (map is_refused
    (codes "0x2 0x0" ∷ codes "0x200 0x0" ∷ codes "0x" ∷ codes "10x2010x20" ∷ codes "x02x00" ∷ codes "\\x2 \\x0" ∷ codes "\\x00AB" ∷ codes "\\02" ∷ [])
    ≡ replicate 8 true)
unfolding decode_pairs
refused_prefixes = refl

-- a quote without its `b`, a quote that is not closed, half a byte in a literal, an unknown escape, and a byte that is not
-- printable
refused_literals : (map is_refused
    (codes "'02'" ∷ codes "\"02\"" ∷ codes "b'\\x02" ∷ codes "b'\\x02\"" ∷ codes "b'\\x0'" ∷ codes "b'\\q'" ∷ codes "b'\n'"
    ∷ codes "b'\\" ∷ []) ≡ replicate 8 true)
unfolding decode_pairs
refused_literals = refl

longest_input : limit ≡ 200000
longest_input = refl
