-- Lines of text as tokens, the columns of their faults, and the frames of messages, worked out from docs/FORMATS.md.
use Rattle.std.proofs.Common.{◌≡◌, ◌&&◌, not, nat_lt, ℕ, Bool, true, false, List, [], ◌∷◌, ◌++◌, length, codes, refl}
use Rattle.std.proofs.Common.{Ok, Err, arith, is_some, map, replicate}
use Rattle.std.specs.List.{list_all, range_with_len}
use Rattle.std.proofs.lemmas.Bool.Decides.{nat_tests}
use Rattle.daide_token.specs.Names.{Named, token_named, names}
use Rattle.daide_words.specs.Accepted.{is_capital}
use Rattle.daide_text.specs.Word.{hex_value, is_digit, token_of_word}
use Rattle.daide_text.specs.Line.{IsCut, IsPieceBefore, IsReadAs, read_pieces, bytes_of_piece, is_space, is_sign}
use Rattle.daide_text.specs.Line.{is_printable, is_in_word, is_in_quote, begins_in_word, Piece, Blank, Sign, Word, Quote, Unclosed}
use Rattle.daide_text.specs.Frames.{text_lines, trimmed, frame_line}
use Rattle.daide_text.proofs.Cuts.{both}

-- the text of some pieces
abbrev pub joined : List Piece → List ℕ
joined [] = []
joined (piece ∷ pieces) = bytes_of_piece piece ++ joined pieces

abbrev is_empty : List ℕ → Bool
is_empty [] = true
is_empty (c ∷ bytes) = false

-- whether a piece may precede the rest of its line
abbrev may_be : Piece → List ℕ → Bool
may_be (Blank c) rest = is_space c
may_be (Sign c) rest = is_sign c
may_be (Word word) rest = nat_lt 0 (length word) && (list_all is_in_word word && not (begins_in_word rest))
may_be (Quote characters) rest = list_all is_in_quote characters
may_be (Unclosed characters) rest = list_all is_in_quote characters && is_empty rest

abbrev pub may_all_be : List Piece → Bool
may_all_be [] = true
may_all_be (piece ∷ pieces) = may_be piece (joined pieces) && may_all_be pieces

not_true : (b : Bool) → not b ≡ true → b ≡ false
not_true true e = absurd (cc)
not_true false e = refl

empty : (bytes : List ℕ) → is_empty bytes ≡ true → bytes ≡ []
empty [] e = refl
empty (c ∷ bytes) e = absurd (cc)

before : (piece : Piece) (rest : List ℕ) → may_be piece rest ≡ true → IsPieceBefore piece rest
before (Blank c) rest e = e
before (Sign c) rest e = e
before (Word word) rest e =
    let first = both (nat_lt 0 (length word)) (list_all is_in_word word && not (begins_in_word rest)) e in
    let second = both (list_all is_in_word word) (not (begins_in_word rest)) first.1 in
    let some : nat_lt 0 (length word) ≡ true = first.0 in
    (grind (arith, nat_tests, some), second.0, not_true (begins_in_word rest) second.1)
before (Quote characters) rest e = e
before (Unclosed characters) rest e =
    let parts = both (list_all is_in_quote characters) (is_empty rest) e in (parts.0, empty rest parts.1)

cut : (pieces : List Piece) → may_all_be pieces ≡ true → IsCut (joined pieces) pieces
cut [] e = refl
cut (piece ∷ pieces) e =
    let parts = both (may_be piece (joined pieces)) (may_all_be pieces) e in
    (joined pieces, refl, before piece (joined pieces) parts.0, cut pieces parts.1)

-- the line of these pieces is parsed as they are
pub read : (added : List Named) (pieces : List Piece) → may_all_be pieces ≡ true →
    IsReadAs added (joined pieces) (read_pieces added 1 pieces)
read added pieces e = (pieces, cut pieces e, refl)

-- ---- bytes, over all of them

-- space and tab; the brackets; from space to `~`; decimal digits; hexadecimal digits of either case; capital letters
bytes_of_each_kind : (map is_space (range_with_len 0 256) ≡ replicate 9 false ++ true ∷ replicate 22 false ++ true ∷ replicate 223 false)
    × (map is_sign (range_with_len 0 256) ≡ replicate 40 false ++ replicate 2 true ++ replicate 214 false)
    × (map is_printable (range_with_len 0 256) ≡ replicate 32 false ++ replicate 95 true ++ replicate 129 false)
    × (map is_digit (range_with_len 0 256) ≡ replicate 48 false ++ replicate 10 true ++ replicate 198 false)
    × (map (λ c. is_some (hex_value c)) (range_with_len 0 256)
    ≡ replicate 48 false ++ replicate 10 true ++ replicate 7 false ++ replicate 6 true ++ replicate 26 false ++ replicate 6 true
    ++ replicate 153 false)
    × (map is_capital (range_with_len 0 256) ≡ replicate 65 false ++ replicate 26 true ++ replicate 165 false)
bytes_of_each_kind = (refl, refl, refl, refl, refl, refl)

-- what ends a word: a space, a tab, a bracket or a quote, and nothing else
ends_of_words : map is_in_word (range_with_len 0 256)
    ≡ replicate 9 true ++ false ∷ replicate 22 true ++ false ∷ replicate 6 true ++ replicate 3 false ++ replicate 214 true
ends_of_words = refl

-- of one byte a word is a token if it is a digit, and after a minus sign
words_of_a_byte : (map (λ c. is_some (token_of_word [] (c ∷ []))) (range_with_len 0 256)
    ≡ replicate 48 false ++ replicate 10 true ++ replicate 198 false)
    × (map (λ c. is_some (token_of_word [] (45 ∷ c ∷ []))) (range_with_len 0 256)
    ≡ replicate 48 false ++ replicate 10 true ++ replicate 198 false)
unfolding token_named names
words_of_a_byte = (refl, refl)

-- ---- items

-- no blank beside the brackets, and a tab between them
brackets : IsReadAs [] (codes "GOF(\t)") (Ok (0x4803 ∷ 0x4000 ∷ 0x4001 ∷ []))
unfolding token_named names
brackets = read [] (Word (codes "GOF") ∷ Sign 40 ∷ Blank 9 ∷ Sign 41 ∷ []) refl

-- blanks at both ends, and a number; a line of blanks and an empty line are the empty message
blanks : IsReadAs [] (codes "  TME ( -1 )\t ") (Ok (0x481B ∷ 0x4000 ∷ 0x3FFF ∷ 0x4001 ∷ []))
    × IsReadAs [] (codes " \t ") (Ok []) × IsReadAs [] [] (Ok [])
unfolding token_named names
blanks = (
  read [] (Blank 32 ∷ Blank 32 ∷ Word (codes "TME") ∷ Blank 32 ∷ Sign 40 ∷ Blank 32 ∷ Word (codes "-1") ∷ Blank 32 ∷ Sign 41 ∷ Blank 9 ∷ Blank 32 ∷ []) refl,
  read [] (Blank 32 ∷ Blank 9 ∷ Blank 32 ∷ []) refl,
  read [] [] refl,
)

-- quotes: the first and last allowed characters, an empty text, two texts side by side, and a word on each side
quotes : IsReadAs [] (codes "NME('~ a')") (Ok (0x480C ∷ 0x4000 ∷ 0x4B7E ∷ 0x4B20 ∷ 0x4B61 ∷ 0x4001 ∷ []))
    × IsReadAs [] (codes "''") (Ok []) × IsReadAs [] (codes "YES'a''b'GOF") (Ok (0x481C ∷ 0x4B61 ∷ 0x4B62 ∷ 0x4803 ∷ []))
unfolding token_named names
quotes = (
  read [] (Word (codes "NME") ∷ Sign 40 ∷ Quote (codes "~ a") ∷ Sign 41 ∷ []) refl,
  read [] (Quote [] ∷ []) refl,
  read [] (Word (codes "YES") ∷ Quote (codes "a") ∷ Quote (codes "b") ∷ Word (codes "GOF") ∷ []) refl,
)

-- any token by its digits, including that of a quote
any_token : IsReadAs [] (codes "#4b27 #C0dE") (Ok (0x4B27 ∷ 0xC0DE ∷ []))
any_token = read [] (Word (codes "#4b27") ∷ Blank 32 ∷ Word (codes "#C0dE") ∷ []) refl

-- a word that an operator added
added_word : IsReadAs ((0x48F0, codes "ZZZ") ∷ []) (codes "ZZZ(FRA)") (Ok (0x48F0 ∷ 0x4000 ∷ 0x4102 ∷ 0x4001 ∷ []))
unfolding token_named names
added_word = read ((0x48F0, codes "ZZZ") ∷ []) (Word (codes "ZZZ") ∷ Sign 40 ∷ Word (codes "FRA") ∷ Sign 41 ∷ []) refl

-- ---- faults, at a column counted from 1

-- the first word of a line; the first byte of a word whose later byte is wrong; the first of two faults
columns : IsReadAs [] (codes "gof") (Err 1) × IsReadAs [] (codes "GOF  ( GOFX )") (Err 8)
    × IsReadAs [] (codes "GOF +1 gof") (Err 5) × IsReadAs [] (codes "\tZZZ") (Err 2)
unfolding token_named names
columns = (
  read [] (Word (codes "gof") ∷ []) refl,
  read [] (Word (codes "GOF") ∷ Blank 32 ∷ Blank 32 ∷ Sign 40 ∷ Blank 32 ∷ Word (codes "GOFX") ∷ Blank 32 ∷ Sign 41 ∷ []) refl,
  read [] (Word (codes "GOF") ∷ Blank 32 ∷ Word (codes "+1") ∷ Blank 32 ∷ Word (codes "gof") ∷ []) refl,
  read [] (Blank 9 ∷ Word (codes "ZZZ") ∷ []) refl,
)

-- a quoted text: its opening quote, if it is never closed or has a byte that is not printable
quote_columns : IsReadAs [] (codes "NME ( 'ab )") (Err 7) × IsReadAs [] (codes "NME('ab' '") (Err 10)
    × IsReadAs [] (codes "GOF'a\tb'") (Err 4) × IsReadAs [] (39 ∷ 127 ∷ 39 ∷ []) (Err 1)
    × IsReadAs [] (39 ∷ 31 ∷ 39 ∷ []) (Err 1)
unfolding token_named names
quote_columns = (
  read [] (Word (codes "NME") ∷ Blank 32 ∷ Sign 40 ∷ Blank 32 ∷ Unclosed (codes "ab )") ∷ []) refl,
  read [] (Word (codes "NME") ∷ Sign 40 ∷ Quote (codes "ab") ∷ Blank 32 ∷ Unclosed (codes "") ∷ []) refl,
  read [] (Word (codes "GOF") ∷ Quote (codes "a\tb") ∷ []) refl,
  read [] (Quote (127 ∷ []) ∷ []) refl,
  read [] (Quote (31 ∷ []) ∷ []) refl,
)

-- a CR within a line is a byte of a word
carriage_return : IsReadAs [] (codes "GOF\r OBS") (Err 1)
unfolding token_named names
carriage_return = read [] (Word (codes "GOF\r") ∷ Blank 32 ∷ Word (codes "OBS") ∷ []) refl

-- ---- lines

-- an empty rest after the last LF is not a line; an empty line is one; the last line may lack its LF
lines : (text_lines [] ≡ []) × (text_lines (10 ∷ []) ≡ [] ∷ []) × (text_lines (codes "a\n\nbc\n") ≡ codes "a" ∷ [] ∷ codes "bc" ∷ [])
    × (text_lines (codes "a\nb") ≡ codes "a" ∷ codes "b" ∷ [])
lines = (refl, refl, refl, refl)

-- one CR at the end is removed, and no other
ends : (trimmed (codes "GOF\r") ≡ codes "GOF") × (trimmed (codes "GOF\r\r") ≡ codes "GOF\r")
    × (trimmed (codes "\rGOF") ≡ codes "\rGOF") × (trimmed (codes "\r") ≡ []) × (trimmed [] ≡ [])
ends = (refl, refl, refl, refl, refl)

-- ---- frames

-- the empty message, GOF with a bracket, and a token with a high code
frames : (frame_line [] ≡ codes "02 00 00 00\n") × (frame_line (0x4803 ∷ 0x4000 ∷ []) ≡ codes "02 00 00 04 48 03 40 00\n")
    × (frame_line (0xFFFE ∷ []) ≡ codes "02 00 00 02 FF FE\n")
frames = (refl, refl, refl)
