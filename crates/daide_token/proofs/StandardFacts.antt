-- Worked examples, computed from the definitions: a wrong table does not check. (SecondListing has every listed token.)
use Rattle.std.specs.Fmt.{digits}
use Rattle.daide_token.proofs.Common.{◌≡◌, codes, None, Some, [], ◌∷◌, false, length, negsuc, pos, refl, true, class_of}
use Rattle.daide_token.proofs.Common.{has_known_category, name_of, names, token_named, text_of, text_with, bra, ket}
use Rattle.daide_token.proofs.Common.{number_of, prn, token_of_number, tokens_of}
use Rattle.daide_token.specs.declared.class.Class.TheVariants as class
use Rattle.daide_token.specs.Token.{err, hlo, huh, lvl}

-- an unlisted token has a class by its category, and no name
unlisted-4002 : (class_of 0x4002 ≡ class.Other) × (name_of 0x4002 ≡ None)
unfolding class_of name_of names
unlisted-4002 = (refl, refl)

unlisted-4401 : (class_of 0x4401 ≡ class.Note) × (name_of 0x4401 ≡ None)
unfolding class_of name_of names
unlisted-4401 = (refl, refl)

unlisted-440f : (class_of 0x440F ≡ class.Note) × (name_of 0x440F ≡ None)
unfolding class_of name_of names
unlisted-440f = (refl, refl)

unlisted-490c : (class_of 0x490C ≡ class.Param) × (name_of 0x490C ≡ None)
unfolding class_of name_of names
unlisted-490c = (refl, refl)

unlisted-4a0d : (class_of 0x4A0D ≡ class.Other) × (name_of 0x4A0D ≡ None)
unfolding class_of name_of names
unlisted-4a0d = (refl, refl)

unlisted-4a12 : (class_of 0x4A12 ≡ class.Other) × (name_of 0x4A12 ≡ None)
unfolding class_of name_of names
unlisted-4a12 = (refl, refl)

unlisted-4b61 : (class_of 0x4B61 ≡ class.Text) × (name_of 0x4B61 ≡ None)
unfolding class_of name_of names
unlisted-4b61 = (refl, refl)

unlisted-5300 : (class_of 0x5300 ≡ class.Province) × (name_of 0x5300 ≡ None)
unfolding class_of name_of names
unlisted-5300 = (refl, refl)

unlisted-4c00 : (class_of 0x4C00 ≡ class.Alien) × (name_of 0x4C00 ≡ None)
unfolding class_of name_of names
unlisted-4c00 = (refl, refl)

unlisted-4fff : (class_of 0x4FFF ≡ class.Alien) × (name_of 0x4FFF ≡ None)
unfolding class_of name_of names
unlisted-4fff = (refl, refl)

unlisted-5800 : (class_of 0x5800 ≡ class.Alien) × (name_of 0x5800 ≡ None)
unfolding class_of name_of names
unlisted-5800 = (refl, refl)

unlisted-ffff : (class_of 0xFFFF ≡ class.Alien) × (name_of 0xFFFF ≡ None)
unfolding class_of name_of names
unlisted-ffff = (refl, refl)

unlisted-10000 : (class_of 0x10000 ≡ class.Alien) × (name_of 0x10000 ≡ None)
unfolding class_of name_of names
unlisted-10000 = (refl, refl)

-- the known categories end at 4B and at 57
categories : (has_known_category 0x4BFF ≡ true) × (has_known_category 0x4C00 ≡ false)
    × (has_known_category 0x4FFF ≡ false) × (has_known_category 0x5000 ≡ true)
    × (has_known_category 0x57FF ≡ true) × (has_known_category 0x5800 ≡ false)
categories = (refl, refl, refl, refl, refl, refl)

-- the tokens that other definitions name
named-constants : (token_named (codes "BRA") ≡ Some bra) × (token_named (codes "KET") ≡ Some ket)
    × (token_named (codes "HLO") ≡ Some hlo) × (token_named (codes "HUH") ≡ Some huh)
    × (token_named (codes "PRN") ≡ Some prn) × (token_named (codes "ERR") ≡ Some err)
    × (token_named (codes "LVL") ≡ Some lvl)
unfolding token_named names
named-constants = (refl, refl, refl, refl, refl, refl, refl)

-- a name is three capital letters
no-names : (token_named [] ≡ None) × (token_named (codes "gof") ≡ None) × (token_named (codes "GO") ≡ None)
    × (token_named (codes "GOFF") ≡ None) × (length names ≡ 198)
unfolding token_named names
no-names = (refl, refl, refl, refl, refl)

-- numbers are negative from 2000 on
numbers : (number_of 0x1FFF ≡ Some (pos 8191)) × (number_of 0x2000 ≡ Some (negsuc 8191))
    × (number_of 0x3FFF ≡ Some (negsuc 0)) × (number_of 0x4000 ≡ None)
    × (token_of_number (pos 8191) ≡ Some 0x1FFF) × (token_of_number (pos 8192) ≡ None)
    × (token_of_number (negsuc 8191) ≡ Some 0x2000) × (token_of_number (negsuc 8192) ≡ None)
numbers = (refl, refl, refl, refl, refl, refl, refl, refl)

-- text: numbers, runs of characters, names, brackets and digits
text-numbers : text_of (tokens_of (0x1F ∷ 0xFF ∷ 0x20 ∷ 0x00 ∷ 0x3F ∷ 0xFF ∷ [])) ≡ codes "8191 -8192 -1"
unfolding text_of name_of names digits
text-numbers = refl

text-runs : text_of (tokens_of (0x4B ∷ 0x49 ∷ 0x4B ∷ 0x27 ∷ 0x4B ∷ 0x6D ∷ [])) ≡ codes "'I' #4b27 'm'"
unfolding text_of name_of names
text-runs = refl

text-quotable :
    text_of (tokens_of (0x4B ∷ 0x1F ∷ 0x4B ∷ 0x20 ∷ 0x4B ∷ 0x7E ∷ 0x4B ∷ 0x7F ∷ [])) ≡ codes "#4b1f ' ~' #4b7f"
unfolding text_of name_of names
text-quotable = refl

text-alien : text_of (tokens_of (0x4B ∷ 0x61 ∷ 0xFF ∷ 0xF0 ∷ 0x41 ∷ 0x06 ∷ 0x48 ∷ [])) ≡ codes "'a' #fff0 TUR"
unfolding text_of name_of names
text-alien = refl

text-words : text_of (tokens_of (0x48 ∷ 0x03 ∷ 0x40 ∷ 0x00 ∷ 0x4A ∷ 0x12 ∷ 0x40 ∷ 0x01 ∷ [])) ≡ codes "GOF ( #4a12 )"
unfolding text_of name_of names
text-words = refl

-- with names that an operator added: the first entry of a token counts; a name of the protocol and a character keep
-- their text
text-added : text_with ((0x4A40, codes "XYZ") ∷ (0x4A40, codes "QQQ") ∷ (0x4803, codes "FOG") ∷ (0x4B61, codes "AAA") ∷ [])
    (0x4A40 ∷ 0x4803 ∷ 0x4B61 ∷ 0x4A41 ∷ []) ≡ codes "XYZ GOF 'a' #4a41"
unfolding text_with name_of names
text-added = refl

text-nothing : text_of [] ≡ []
unfolding text_of
text-nothing = refl
