-- Notes and odd groups of small inputs, worked out from docs/FORMATS.md.
use Rattle.daide_show.proofs.Common.{◌≡◌, [], ◌∷◌, codes, Some, None, refl, digits, odd_group_of}
use Rattle.daide_show.specs.declared.notes.InputNote.TheVariants.{BadByte, OpenQuote, OddDigits, ShortHeader}
use Rattle.daide_show.specs.declared.notes.InputNote.TheVariants.{ShortBody, AnotherFrame}
use Rattle.daide_show.specs.Note.{byte_text, digits_note, frame_note, note_text}

-- the seventh byte is the letter O; blanks are counted
letter_for_digit : digits_note (codes "02 00 O0") ≡ BadByte 7 79
letter_for_digit = refl

-- a byte that is not a letter, after digits of either case and a comma
first_of_two : digits_note (codes "aF,9;/") ≡ BadByte 5 59
first_of_two = refl

-- a prefix before half a byte, and in a literal an unknown escape, a quote that is not closed, and no digit after `\x`
each_form : (digits_note (codes "0x02 0x2") ≡ BadByte 7 120) × (digits_note (codes "\\x00AB") ≡ BadByte 1 92)
    × (digits_note (codes "b'a\\q'") ≡ BadByte 5 113) × (digits_note (codes "b'\\x02") ≡ OpenQuote)
    × (digits_note (codes "b'\\x0'") ≡ BadByte 6 39) × (digits_note (codes "'02'") ≡ BadByte 1 39)
each_form = (refl, refl, refl, refl, refl, refl)

-- three digits and no bad byte
three_digits : digits_note (codes "0 2\t0") ≡ OddDigits 3
three_digits = refl

-- quoted bytes, from the first printable one to the last
quoted : (byte_text 79 ≡ codes "'O'") × (byte_text 0x21 ≡ codes "'!'") × (byte_text 0x7E ≡ codes "'~'")
quoted = (refl, refl, refl)

by_value : (byte_text 0xC3 ≡ codes "0xC3") × (byte_text 0x7F ≡ codes "0x7F") × (byte_text 0x0B ≡ codes "0x0B")
by_value = (refl, refl, refl)

-- three bytes; a body of four bytes of which two were given; six bytes of a complete frame and one more
short_header : frame_note (2 ∷ 0 ∷ 0 ∷ []) ≡ ShortHeader 3
short_header = refl

short_body : frame_note (2 ∷ 0 ∷ 0 ∷ 4 ∷ 0x48 ∷ 3 ∷ []) ≡ ShortBody 4 2
short_body = refl

long_body : frame_note (2 ∷ 0 ∷ 1 ∷ 2 ∷ 0x48 ∷ 3 ∷ []) ≡ ShortBody 258 2
long_body = refl

another : frame_note (2 ∷ 0 ∷ 0 ∷ 2 ∷ 0x48 ∷ 3 ∷ 3 ∷ []) ≡ AnotherFrame 6
another = refl

-- the texts
texts : (note_text (BadByte 7 79) ≡ codes "byte 7 is 'O'") × (note_text (BadByte 7 0xC3) ≡ codes "byte 7 is 0xC3")
    × (note_text OpenQuote ≡ codes "the quote is not closed")
    × (note_text (OddDigits 3) ≡ codes "the number of digits is odd: 3")
    × (note_text (ShortHeader 3) ≡ codes "a header has 4 bytes, the input has 3")
    × (note_text (ShortBody 4 2) ≡ codes "the header announces 4 bytes, 2 follow")
    × (note_text (AnotherFrame 6) ≡ codes "another frame begins after byte 6")
unfolding digits
texts = (refl, refl, refl, refl, refl, refl, refl)

-- the second group has three digits; empty parts between blanks are not counted
second_group : odd_group_of (codes "  02 \r\n000 048") ≡ Some (record { place = 2; digits = 3 })
second_group = refl

-- even groups, whatever their number; and a group that does not consist of digits
even_groups : (odd_group_of (codes "02 0000 04") ≡ None) × (odd_group_of (codes "0:0 02") ≡ None)
    × (odd_group_of [] ≡ None)
even_groups = (refl, refl, refl)
