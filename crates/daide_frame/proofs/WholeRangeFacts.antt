-- Headers and initial messages over the whole range of their bytes. Written from the protocol's table of frames. A rule
-- that is right for one value and wrong for the next does not check.
use Rattle.std.proofs.Common.{◌≡◌, ℕ, zero, suc, ◌+◌, List, [], ◌∷◌, ◌++◌, map, replicate, refl, Result, Ok, Err, codes}
use Rattle.std.specs.List.{range_with_len}
use Rattle.daide_frame.proofs.Common.{Kind, Im, Rm, Dm, Fm, Em, Head, Code, WrongEndian, WrongMagic, WrongVersion}
use Rattle.daide_frame.proofs.Common.{UnknownMessage, WrongLength, InvalidToken, parse_head, im_of}
use Rattle.daide_frame.specs.declared.code.Code.TheVariants.{ImTimeout, ImNotFirst, SecondIm, ImFromServer, DmBeforeRm}
use Rattle.daide_frame.specs.declared.code.Code.TheVariants.{RmNotFirst, SecondRm, RmFromClient}
use Rattle.daide_frame.specs.Code.{code_digits, code_number}

-- ---- headers

-- the reading of a type byte and a length, under the greatest cap
abbrev at_length : ℕ → ℕ → ℕ → Result Head Code
at_length number high low = parse_head (number ∷ 0x00 ∷ high ∷ low ∷ []) 65526

-- the readings of a type byte with each low byte of the length
abbrev lengths : ℕ → ℕ → List (Result Head Code)
lengths number high = map (at_length number high) (range_with_len 0 256)

abbrev whole : Kind → ℕ → List (Result Head Code)
whole kind n = Ok (record { kind = kind; len = n }) ∷ []

abbrev wrong : ℕ → List (Result Head Code)
wrong n = replicate n (Err WrongLength)

abbrev unknown : ℕ → List (Result Head Code)
unknown n = replicate n (Err UnknownMessage)

-- n right lengths from a first one on, each followed by a number of wrong ones
abbrev every : ℕ → Kind → ℕ → ℕ → List (Result Head Code)
every gap kind first zero = []
every gap kind first (suc n) = whole kind first ++ wrong gap ++ every gap kind (first + gap + 1) n

-- the right lengths below 256: 4 for an IM, whole blocks of six bytes or none for an RM, whole tokens or none for a DM,
-- 0 for an FM, 2 for an EM
short_lengths : (lengths 0 0x00 ≡ wrong 4 ++ whole Im 4 ++ wrong 251)
    × (lengths 1 0x00 ≡ every 5 Rm 0 42 ++ whole Rm 252 ++ wrong 3)
    × (lengths 2 0x00 ≡ every 1 Dm 0 128)
    × (lengths 3 0x00 ≡ whole Fm 0 ++ wrong 255)
    × (lengths 4 0x00 ≡ wrong 2 ++ whole Em 2 ++ wrong 253)
unfolding parse_head
short_lengths = (refl, refl, refl, refl, refl)

-- from 1,024 to 1,279: only an IM's 1,024 is the other byte order
middle_lengths : (lengths 0 0x04 ≡ Err WrongEndian ∷ wrong 255)
    × (lengths 1 0x04 ≡ wrong 2 ++ every 5 Rm 1026 42 ++ whole Rm 1278 ++ wrong 1)
    × (lengths 2 0x04 ≡ every 1 Dm 1024 128)
    × (lengths 3 0x04 ≡ wrong 256) × (lengths 4 0x04 ≡ wrong 256)
unfolding parse_head
middle_lengths = (refl, refl, refl, refl, refl)

-- each high byte beside one low byte: only the 1,024 of an IM is the other byte order, and no length of an FM or EM is
high_bytes : (map (λ high. at_length 0 high 0x00) (range_with_len 0 256) ≡ wrong 4 ++ Err WrongEndian ∷ wrong 251)
    × (map (λ high. at_length 0 high 0x04) (range_with_len 0 256) ≡ whole Im 4 ++ wrong 255)
    × (map (λ high. at_length 3 high 0x00) (range_with_len 0 256) ≡ whole Fm 0 ++ wrong 255)
    × (map (λ high. at_length 4 high 0x00) (range_with_len 0 256) ≡ wrong 256)
    × (map (λ high. at_length 4 high 0x02) (range_with_len 0 256) ≡ whole Em 2 ++ wrong 255)
unfolding parse_head
high_bytes = (refl, refl, refl, refl, refl)

-- from 65,280 on: 65,526 is the longest body; a longer one with a right length is unknown
long_lengths : (lengths 0 0xFF ≡ wrong 256)
    × (lengths 1 0xFF ≡ every 5 Rm 65280 41 ++ whole Rm 65526 ++ wrong 5 ++ unknown 1 ++ wrong 3)
    × (lengths 2 0xFF ≡ every 1 Dm 65280 123 ++ whole Dm 65526
    ++ wrong 1 ++ unknown 1 ++ wrong 1 ++ unknown 1 ++ wrong 1 ++ unknown 1 ++ wrong 1 ++ unknown 1 ++ wrong 1)
    × (lengths 3 0xFF ≡ wrong 256) × (lengths 4 0xFF ≡ wrong 256)
unfolding parse_head
long_lengths = (refl, refl, refl, refl, refl)

-- no other type belongs to a frame, at any length: 5 to 255 with each length to 13, and from 65,522 on
other_types : (map (λ n. map (λ t. at_length t 0x00 n) (range_with_len 5 251)) (range_with_len 0 14)
    ≡ replicate 14 (unknown 251))
    × (map (λ n. map (λ t. at_length t 0xFF n) (range_with_len 5 251)) (range_with_len 0xF2 14)
    ≡ replicate 14 (unknown 251))
    × (map (λ t. at_length t 0x04 0x00) (range_with_len 5 251) ≡ unknown 251)
unfolding parse_head
other_types = (refl, refl, refl)

-- the pad is any byte
any_pad : (map (λ pad. parse_head (0x00 ∷ pad ∷ 0x00 ∷ 0x04 ∷ []) 512) (range_with_len 0 256)
    ≡ replicate 256 (Ok (record { kind = Im; len = 4 })))
    × (map (λ pad. parse_head (0x02 ∷ pad ∷ 0x01 ∷ 0x02 ∷ []) 512) (range_with_len 0 256)
    ≡ replicate 256 (Ok (record { kind = Dm; len = 258 })))
unfolding parse_head
any_pad = (refl, refl)

-- the operator's cap: a body as long as the cap, and the next lengths; a wrong length is reported before one above the
-- cap
abbrev round_cap : ℕ → List (Result Head Code)
round_cap number = map (λ low. parse_head (number ∷ 0x00 ∷ 0x02 ∷ low ∷ []) 516) (range_with_len 0 8)

operators_cap : (round_cap 2 ≡ whole Dm 512 ++ wrong 1 ++ whole Dm 514 ++ wrong 1 ++ whole Dm 516 ++ wrong 1
    ++ unknown 1 ++ wrong 1)
    × (round_cap 1 ≡ wrong 4 ++ whole Rm 516 ++ wrong 3) × (round_cap 0 ≡ wrong 8)
    × (parse_head (0x01 ∷ 0x00 ∷ 0x02 ∷ 0x0A ∷ []) 516 ≡ Err UnknownMessage)
    × (parse_head (0x00 ∷ 0x00 ∷ 0x04 ∷ 0x00 ∷ []) 512 ≡ Err WrongEndian)
unfolding parse_head
operators_cap = (refl, refl, refl, refl, refl)

-- ---- initial messages

abbrev right : List (Result (Unit {0}) Code)
right = Ok tt ∷ []

abbrev fault : ℕ → Code → List (Result (Unit {0}) Code)
fault n code = replicate n (Err code)

-- the version is 0001: every other high byte and every other low byte is another version
versions : (map (λ high. im_of (high ∷ 0x01 ∷ 0xDA ∷ 0x10 ∷ [])) (range_with_len 0 256) ≡ right ++ fault 255 WrongVersion)
    × (map (λ low. im_of (0x00 ∷ low ∷ 0xDA ∷ 0x10 ∷ [])) (range_with_len 0 256)
    ≡ fault 1 WrongVersion ++ right ++ fault 254 WrongVersion)
    × (map (λ low. im_of (0x01 ∷ low ∷ 0xDA ∷ 0x10 ∷ [])) (range_with_len 0 256) ≡ fault 256 WrongVersion)
unfolding im_of
versions = (refl, refl, refl)

-- the magic number is DA10, and 10DA is its other byte order: every byte beside the right other byte
magic_numbers : (map (λ high. im_of (0x00 ∷ 0x01 ∷ high ∷ 0x10 ∷ [])) (range_with_len 0 256)
    ≡ fault 0xDA WrongMagic ++ right ++ fault 37 WrongMagic)
    × (map (λ low. im_of (0x00 ∷ 0x01 ∷ 0xDA ∷ low ∷ [])) (range_with_len 0 256)
    ≡ fault 0x10 WrongMagic ++ right ++ fault 239 WrongMagic)
    × (map (λ high. im_of (0x00 ∷ 0x01 ∷ high ∷ 0xDA ∷ [])) (range_with_len 0 256)
    ≡ fault 0x10 WrongMagic ++ fault 1 WrongEndian ++ fault 239 WrongMagic)
    × (map (λ low. im_of (0x00 ∷ 0x01 ∷ 0x10 ∷ low ∷ [])) (range_with_len 0 256)
    ≡ fault 0xDA WrongMagic ++ fault 1 WrongEndian ++ fault 37 WrongMagic)
unfolding im_of
magic_numbers = (refl, refl, refl, refl)

-- and it is judged before the version: with version 0100 the same faults, except for the right magic number
magic_before_versions : (map (λ low. im_of (0x01 ∷ 0x00 ∷ 0xDA ∷ low ∷ [])) (range_with_len 0 256)
    ≡ fault 0x10 WrongMagic ++ fault 1 WrongVersion ++ fault 239 WrongMagic)
    × (map (λ low. im_of (0x01 ∷ 0x00 ∷ 0x10 ∷ low ∷ [])) (range_with_len 0 256)
    ≡ fault 0xDA WrongMagic ++ fault 1 WrongEndian ++ fault 37 WrongMagic)
unfolding im_of
magic_before_versions = (refl, refl)

-- ---- error codes

abbrev all_codes : List Code
all_codes = ImTimeout ∷ ImNotFirst ∷ WrongEndian ∷ WrongMagic ∷ WrongVersion ∷ SecondIm ∷ ImFromServer
    ∷ UnknownMessage ∷ WrongLength ∷ DmBeforeRm ∷ RmNotFirst ∷ SecondRm ∷ RmFromClient ∷ InvalidToken ∷ []

codes_in_order : map code_number all_codes
    ≡ 0x01 ∷ 0x02 ∷ 0x03 ∷ 0x04 ∷ 0x05 ∷ 0x06 ∷ 0x07 ∷ 0x08 ∷ 0x09 ∷ 0x0A ∷ 0x0B ∷ 0x0C ∷ 0x0D ∷ 0x0E ∷ []
codes_in_order = refl

-- as text, with upper-case letters
digits_in_order : map code_digits all_codes ≡ codes "01" ∷ codes "02" ∷ codes "03" ∷ codes "04" ∷ codes "05" ∷ codes "06"
    ∷ codes "07" ∷ codes "08" ∷ codes "09" ∷ codes "0A" ∷ codes "0B" ∷ codes "0C" ∷ codes "0D" ∷ codes "0E" ∷ []
digits_in_order = refl
