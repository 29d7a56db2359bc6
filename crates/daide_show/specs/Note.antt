-- Why an input is not hexadecimal, or not one frame. (own)
use Rattle.std.specs.Prelude.{ℕ, ◌+◌, ◌-◌, ◌/◌, ◌%◌, ◌&&◌, nat_le, nat_lt, Bool, false, not, if◌then◌else◌}
use Rattle.std.specs.Prelude.{List, [], ◌∷◌, ◌++◌, length, codes, slice_index, unwrap_or, Option}
use Rattle.std.specs.Prelude.{Some, None, Result, Ok, Err}
use Rattle.std.specs.Fmt.{decimal}
use Rattle.std.specs.Int.{w16, from_be_bytes}
use Rattle.hex.specs.Hex.{is_hex_digit, upper_digits}
use Rattle.hex.specs.declared.error.FromHexError.{FromHexError}
use Rattle.daide_protocol.specs.Bounds.{longest_body}
use Rattle.daide_show.specs.Input.{limit, digits_of, may_end_at, next_place, parse_hex, input_byte}
use Rattle.daide_show.specs.Shown.{Shown, OneFrame, faulty, whole, not_one, parse_frame}
use Rattle.daide_show.specs.declared.frame_view.ShowFault.{ShowFault}
use Rattle.daide_show.specs.declared.frame_view.ShowFault.TheVariants.{Read, TooLong, NotHex, NotOneFrame}
use Rattle.daide_show.specs.declared.frame_view.ShowFault.TheVariants.{Memory, Write}
use Rattle.daide_show.specs.declared.frame_view.places.Place.{Place}
use Rattle.daide_show.specs.declared.frame_view.places.Place.TheVariants.{Outside}
use Rattle.daide_show.specs.declared.frame_view.places.InputByte.{InputByte}
use Rattle.daide_show.specs.declared.frame_view.places.InputByte.TheVariants.{Nothing, Kept, Byte}
use Rattle.daide_show.specs.declared.notes.InputNote.{InputNote}
use Rattle.daide_show.specs.declared.notes.InputNote.TheVariants.{BadByte, OpenQuote, OddDigits, ShortHeader}
use Rattle.daide_show.specs.declared.notes.InputNote.TheVariants.{ShortBody, AnotherFrame}

-- a byte that is kept and is no digit
abbrev pub is_bad : InputByte → Bool
is_bad Nothing = false
is_bad (Kept b) = not (is_hex_digit b)
is_bad (Byte b) = false

-- from a place on: the first bad byte with its number, or the quote that is open at the end
abbrev pub refusal_from : ℕ → Place → List ℕ → Option InputNote
refusal_from number place [] = if may_end_at place then None else Some OpenQuote
refusal_from number place (b ∷ rest) =
    if is_bad (input_byte place b rest) then Some (BadByte number b)
    else refusal_from (number + 1) (next_place place b rest) rest

-- why an input is not hexadecimal: that, with bytes numbered from 1; if there is none, the number of digits
abbrev pub digits_note : List ℕ → InputNote
digits_note input = unwrap_or (refusal_from 1 Outside input) (OddDigits (length (digits_of input)))

-- the length field of a header: its last two bytes, the high byte first
abbrev pub announced_length : List ℕ → ℕ
announced_length bytes = from_be_bytes w16 (slice_index bytes 2 ∷ slice_index bytes 3 ∷ [])

-- why some bytes are not one frame: the header is incomplete, or the body is, or more bytes follow a complete frame
abbrev pub frame_note : List ℕ → InputNote
frame_note bytes =
    if nat_lt (length bytes) 4 then ShortHeader (length bytes)
    else if nat_lt (length bytes) (4 + announced_length bytes) then ShortBody (announced_length bytes) (length bytes - 4)
    else AnotherFrame (4 + announced_length bytes)

-- only bytes that are not one frame have a note
abbrev pub note_of_frame : OneFrame → List ℕ → Option InputNote
note_of_frame (faulty code) bytes = None
note_of_frame (whole head body) bytes = None
note_of_frame not_one bytes = Some (frame_note bytes)

-- the note of an input by its decoded bytes, or by the error of decoding it
abbrev pub note_of_bytes : List ℕ → Result (List ℕ) FromHexError → Option InputNote
note_of_bytes input (Ok bytes) = note_of_frame (parse_frame longest_body bytes) bytes
note_of_bytes input (Err error) = Some (digits_note input)

-- the note of an input; one that is too long has none
abbrev pub input_note_of : List ℕ → Option InputNote
input_note_of input = if nat_lt limit (length input) then None else note_of_bytes input (parse_hex input)

-- the fault to which a note belongs
abbrev pub fault_of_note : InputNote → ShowFault
fault_of_note (BadByte place b) = NotHex
fault_of_note OpenQuote = NotHex
fault_of_note (OddDigits count) = NotHex
fault_of_note (ShortHeader count) = NotOneFrame
fault_of_note (ShortBody announced count) = NotOneFrame
fault_of_note (AnotherFrame place) = NotOneFrame

-- the fault of an input, if it has a note
abbrev pub noted_fault : Result Shown ShowFault → Option ShowFault
noted_fault (Err NotHex) = Some NotHex
noted_fault (Err NotOneFrame) = Some NotOneFrame
noted_fault (Err Read) = None
noted_fault (Err TooLong) = None
noted_fault (Err Memory) = None
noted_fault (Err Write) = None
noted_fault (Ok shown) = None

-- the text of a byte: in quotes if it is printable ASCII other than a space, else in hexadecimal digits
abbrev pub byte_text : ℕ → List ℕ
byte_text b =
    if nat_le 0x21 b && nat_le b 0x7E then 39 ∷ b ∷ 39 ∷ []
    else codes "0x" ++ slice_index upper_digits (b / 16) ∷ slice_index upper_digits (b % 16) ∷ []

-- the text of a note
abbrev pub note_text : InputNote → List ℕ
note_text (BadByte place b) = codes "byte " ++ decimal place ++ codes " is " ++ byte_text b
note_text OpenQuote = codes "the quote is not closed"
note_text (OddDigits count) = codes "the number of digits is odd: " ++ decimal count
note_text (ShortHeader count) = codes "a header has 4 bytes, the input has " ++ decimal count
note_text (ShortBody announced count) =
    codes "the header announces " ++ decimal announced ++ codes " bytes, " ++ decimal count ++ codes " follow"
note_text (AnotherFrame place) = codes "another frame begins after byte " ++ decimal place
