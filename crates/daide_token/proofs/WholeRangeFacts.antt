-- Printed text, categories and numbers over whole ranges of codes. Written from the protocol's token table and the
-- rules of printed text. Code that is right for one value and wrong for the next does not check.
use Rattle.std.proofs.Common.{slice_index}
use Rattle.daide_token.proofs.Common.{◌≡◌, ℕ, zero, suc, ◌+◌, ◌*◌, true, false, codes, List, [], ◌∷◌, ◌++◌, map, refl}
use Rattle.daide_token.proofs.Common.{replicate, Some, None, pos, negsuc, range_with_len, has_known_category, name_of}
use Rattle.daide_token.proofs.Common.{names, text_of, text_with, number_of}

-- ---- characters

-- the hexadecimal digit of a value from 0 to 15, in lower case
abbrev digit : ℕ → ℕ
digit n = slice_index (codes "0123456789abcdef") n

-- # and four digits, for the text tokens with one high digit of the second byte, from a low digit on
abbrev unquoted : ℕ → ℕ → ℕ → List (List ℕ)
unquoted high low n = map (λ k. codes "#4b" ++ digit high ∷ digit k ∷ []) (range_with_len low n)

-- the same for all low digits, for a range of high digits
abbrev all_unquoted : ℕ → ℕ → List (List ℕ)
all_unquoted high zero = []
all_unquoted high (suc n) = unquoted high 0 16 ++ all_unquoted (suc high) n

-- a range of characters, each in quotes
abbrev quoted : ℕ → ℕ → List (List ℕ)
quoted first n = map (λ c. 39 ∷ c ∷ 39 ∷ []) (range_with_len first n)

-- of the 256 characters, those from space to tilde are quoted, except the quote itself; the double quote is among them
quotable : map (λ c. text_of ((0x4B00 + c) ∷ [])) (range_with_len 0 256)
    ≡ all_unquoted 0 2 ++ quoted 0x20 7 ++ codes "#4b27" ∷ quoted 0x28 87 ++ codes "#4b7f" ∷ all_unquoted 8 8
unfolding text_of name_of names
quotable = refl

-- names that an operator added change the text of no character
quotable_with_names : map (λ c. text_with ((0x4B22, codes "AAA") ∷ (0x4B7F, codes "BBB") ∷ []) ((0x4B00 + c) ∷ []))
    (range_with_len 0x20 95)
    ≡ quoted 0x20 7 ++ codes "#4b27" ∷ quoted 0x28 87
unfolding text_with name_of names
quotable_with_names = refl

-- after another character each of them joins its run, and no other character does
abbrev joined : ℕ → ℕ → List (List ℕ)
joined first n = map (λ c. 39 ∷ 97 ∷ c ∷ 39 ∷ []) (range_with_len first n)

abbrev apart : List (List ℕ) → List (List ℕ)
apart texts = map (λ text. codes "'a' " ++ text) texts

runs : map (λ c. text_of (0x4B61 ∷ (0x4B00 + c) ∷ [])) (range_with_len 0 256)
    ≡ apart (all_unquoted 0 2) ++ joined 0x20 7 ++ codes "'a' #4b27" ∷ joined 0x28 87
    ++ codes "'a' #4b7f" ∷ apart (all_unquoted 8 8)
unfolding text_of name_of names
runs = refl

-- ---- categories

-- the numbers and the categories 40 to 4B and 50 to 57 are known: the first and the last token of each first byte
categories : (map (λ c. has_known_category (c * 256)) (range_with_len 0 256)
    ≡ replicate 0x4C true ++ replicate 4 false ++ replicate 8 true ++ replicate 168 false)
    × (map (λ c. has_known_category (c * 256 + 255)) (range_with_len 0 256)
    ≡ replicate 0x4C true ++ replicate 4 false ++ replicate 8 true ++ replicate 168 false)
categories = (refl, refl)

-- ---- numbers

-- below 2000 a code is its number; from there on the number is the code less 16,384, to -1 at 3FFF; no higher code is a
-- number
numbers : (map number_of (range_with_len 0x0000 256) ≡ map (λ n. Some (pos n)) (range_with_len 0 256))
    × (map number_of (range_with_len 0x1F00 256) ≡ map (λ n. Some (pos n)) (range_with_len 7936 256))
    × (map number_of (0x2000 ∷ 0x2001 ∷ 0x20FF ∷ 0x2100 ∷ 0x3000 ∷ 0x3FFE ∷ 0x3FFF ∷ [])
    ≡ map (λ n. Some (negsuc n)) (8191 ∷ 8190 ∷ 7936 ∷ 7935 ∷ 4095 ∷ 1 ∷ 0 ∷ []))
    × (map number_of (range_with_len 0x4000 256) ≡ replicate 256 None)
    × (map (λ c. number_of (c * 256)) (range_with_len 0x40 192) ≡ replicate 192 None)
numbers = (refl, refl, refl, refl, refl)
