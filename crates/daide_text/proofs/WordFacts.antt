-- Words of text as tokens, worked out from the table of items in docs/FORMATS.md and the tokens of docs/PROTOCOL.md.
use Rattle.std.proofs.Common.{◌≡◌, [], ◌∷◌, codes, Some, None, refl}
use Rattle.daide_token.specs.Names.{token_named, names}
use Rattle.daide_text.specs.Word.{token_of_word}

-- numbers: both ends of their range, one beyond each, leading zeros, minus zero, and words that are not a number
numbers_up : (token_of_word [] (codes "0") ≡ Some 0) × (token_of_word [] (codes "8191") ≡ Some 0x1FFF)
    × (token_of_word [] (codes "8192") ≡ None) × (token_of_word [] (codes "007") ≡ Some 7)
    × (token_of_word [] (codes "00000000000008191") ≡ Some 0x1FFF)
numbers_up = (refl, refl, refl, refl, refl)

numbers_down : (token_of_word [] (codes "-1") ≡ Some 0x3FFF) × (token_of_word [] (codes "-8192") ≡ Some 0x2000)
    × (token_of_word [] (codes "-8193") ≡ None) × (token_of_word [] (codes "-0") ≡ Some 0)
    × (token_of_word [] (codes "-0008192") ≡ Some 0x2000)
numbers_down = (refl, refl, refl, refl, refl)

no_numbers : (token_of_word [] (codes "-") ≡ None) × (token_of_word [] (codes "+1") ≡ None)
    × (token_of_word [] (codes "--1") ≡ None) × (token_of_word [] (codes "1A") ≡ None)
    × (token_of_word [] (codes "1-") ≡ None) × (token_of_word [] (codes "1.5") ≡ None)
no_numbers = (refl, refl, refl, refl, refl, refl)

-- no number of five digits is parsed, even if it is in range modulo 65,536
great_numbers : (token_of_word [] (codes "9999") ≡ None) × (token_of_word [] (codes "10000") ≡ None)
    × (token_of_word [] (codes "65536") ≡ None) × (token_of_word [] (codes "18446744073709551616") ≡ None)
great_numbers = (refl, refl, refl, refl)

-- four digits of either case, the highest first; no fewer, no more, and no other letter
digits : (token_of_word [] (codes "#4803") ≡ Some 0x4803) × (token_of_word [] (codes "#fFfE") ≡ Some 0xFFFE)
    × (token_of_word [] (codes "#0A9f") ≡ Some 0x0A9F) × (token_of_word [] (codes "#0000") ≡ Some 0)
digits = (refl, refl, refl, refl)

no_digits : (token_of_word [] (codes "#") ≡ None) × (token_of_word [] (codes "#480") ≡ None)
    × (token_of_word [] (codes "#48030") ≡ None) × (token_of_word [] (codes "#48G3") ≡ None)
    × (token_of_word [] (codes "#@803") ≡ None) × (token_of_word [] (codes "#480:") ≡ None)
    × (token_of_word [] (codes "#480`") ≡ None)
no_digits = (refl, refl, refl, refl, refl, refl, refl)

-- names of the protocol, including the brackets, but not in small letters
listed_names : (token_of_word [] (codes "GOF") ≡ Some 0x4803) × (token_of_word [] (codes "AUS") ≡ Some 0x4100)
    × (token_of_word [] (codes "BRA") ≡ Some 0x4000) × (token_of_word [] (codes "KET") ≡ Some 0x4001)
    × (token_of_word [] (codes "HLO") ≡ Some 0x4804)
unfolding token_named names
listed_names = (refl, refl, refl, refl, refl)

unlisted_names : (token_of_word [] (codes "gof") ≡ None) × (token_of_word [] (codes "GOf") ≡ None)
    × (token_of_word [] (codes "GO") ≡ None) × (token_of_word [] (codes "GOFF") ≡ None)
    × (token_of_word [] (codes "GO1") ≡ None) × (token_of_word [] (codes "ZZZ") ≡ None) × (token_of_word [] [] ≡ None)
unfolding token_named names
unlisted_names = (refl, refl, refl, refl, refl, refl, refl)

-- an operator's words: a name of the protocol takes precedence, and so does the first of two entries with one name
added_words : (token_of_word ((0x4B7F, codes "ZZZ") ∷ []) (codes "ZZZ") ≡ Some 0x4B7F)
    × (token_of_word ((0x4AF0, codes "GOF") ∷ []) (codes "GOF") ≡ Some 0x4803)
    × (token_of_word ((0x4AF0, codes "ZZY") ∷ (0x4AF1, codes "ZZZ") ∷ (0x4AF2, codes "ZZZ") ∷ []) (codes "ZZZ")
    ≡ Some 0x4AF1)
    × (token_of_word ((0x4AF0, codes "zzz") ∷ []) (codes "zzz") ≡ None)
unfolding token_named names
added_words = (refl, refl, refl, refl)
