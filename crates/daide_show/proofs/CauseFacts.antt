-- The values that are right for each field, and the body up to a fault, worked out from docs/PROTOCOL.md.
use Rattle.daide_show.proofs.Common.{◌≡◌, true, false, [], ◌∷◌, ◌++◌, codes, map, replicate, refl, range_with_len, Im, Em}
use Rattle.daide_show.proofs.Common.{longest_body}
use Rattle.daide_token.specs.Class.{is_known_category}
use Rattle.daide_frame.specs.declared.code.Code.TheVariants.{WrongEndian, WrongMagic, WrongVersion, UnknownMessage}
use Rattle.daide_frame.specs.declared.code.Code.TheVariants.{WrongLength, InvalidToken}
use Rattle.daide_frame.specs.Frames.{is_alien}
use Rattle.daide_frame.specs.Head.{has_right_length}
use Rattle.daide_io.specs.declared.fault_field.FaultField.TheVariants.{Kind, Length, Version, MagicNumber, Token}
use Rattle.daide_show.specs.Cause.{expected_value, faulty_body}

-- a length by the type of the header, unless it is above the cap
lengths : (expected_value WrongLength (0 ∷ 0 ∷ 0 ∷ 6 ∷ []) (Length 6) ≡ codes "0004")
    × (expected_value WrongLength (1 ∷ 0 ∷ 0 ∷ 7 ∷ []) (Length 7) ≡ codes "a multiple of 6")
    × (expected_value WrongLength (2 ∷ 0 ∷ 0 ∷ 5 ∷ []) (Length 5) ≡ codes "an even number")
    × (expected_value WrongLength (3 ∷ 0 ∷ 0 ∷ 1 ∷ []) (Length 1) ≡ codes "0000")
    × (expected_value WrongLength (4 ∷ 0 ∷ 2 ∷ 0 ∷ []) (Length 512) ≡ codes "0002")
    × (expected_value WrongEndian (0 ∷ 0 ∷ 4 ∷ 0 ∷ []) (Length 0x0400) ≡ codes "0004")
    × (expected_value UnknownMessage (2 ∷ 0 ∷ 0xFF ∷ 0xFE ∷ []) (Length 0xFFFE) ≡ codes "at most FFF6")
lengths = (refl, refl, refl, refl, refl, refl, refl)

-- these are the lengths that are accepted
right_lengths : (has_right_length Im 4 ≡ true) × (has_right_length Em 2 ≡ true) × (longest_body ≡ 0xFFF6)
right_lengths = (refl, refl, refl)

others : (expected_value UnknownMessage (7 ∷ 0 ∷ 0 ∷ 0 ∷ []) (Kind 7) ≡ codes "00 to 04")
    × (expected_value WrongVersion [] (Version 2) ≡ codes "0001")
    × (expected_value WrongMagic [] (MagicNumber 0x1234) ≡ codes "DA10")
    × (expected_value InvalidToken (2 ∷ 0 ∷ 0 ∷ 2 ∷ []) (Token 0x6000 4) ≡ codes "0000 to 4BFF, or 5000 to 57FF")
others = (refl, refl, refl, refl)

-- the categories that are accepted: 00 to 4B, and 50 to 57
categories : map is_known_category (range_with_len 0 256)
    ≡ replicate 76 true ++ replicate 4 false ++ replicate 8 true ++ replicate 168 false
categories = refl

-- up to the first of two invalid tokens, also if it is the first token; nothing for a fault of the header
bodies : (faulty_body InvalidToken (0x48 ∷ 3 ∷ 0x60 ∷ 0 ∷ 0x61 ∷ 0 ∷ []) ≡ 0x48 ∷ 3 ∷ 0x60 ∷ 0 ∷ [])
    × (faulty_body InvalidToken (0x58 ∷ 0 ∷ 0x61 ∷ 0 ∷ []) ≡ 0x58 ∷ 0 ∷ [])
    × (faulty_body WrongLength (0x60 ∷ 0 ∷ []) ≡ [])
unfolding is_alien
bodies = (refl, refl, refl)
