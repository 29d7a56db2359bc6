-- The field of a frame that a fault is about, by the bytes received. Its value and its place are what an operator and the
-- author of a bot see. (own)
use Rattle.std.specs.Prelude.{ℕ, ◌+◌, ◌-◌, ◌^◌, ◌&&◌, Bool, true, false, not, nat_le, List, [], ◌∷◌, ◌++◌, length, take, drop}
use Rattle.std.specs.Prelude.{codes, slice_index, Option, Some, None, is_some, if◌then◌else◌}
use Rattle.std.specs.Fmt.{decimal, digits, format_spec, padded_integral}
use Rattle.std.specs.Int.{w16, from_be_bytes}
use Rattle.daide_frame.specs.declared.code.Code.{Code}
use Rattle.daide_frame.specs.declared.code.Code.TheVariants.{ImTimeout, ImNotFirst, WrongEndian, WrongMagic}
use Rattle.daide_frame.specs.declared.code.Code.TheVariants.{WrongVersion, SecondIm, ImFromServer, UnknownMessage}
use Rattle.daide_frame.specs.declared.code.Code.TheVariants.{WrongLength, DmBeforeRm, RmNotFirst, SecondRm}
use Rattle.daide_frame.specs.declared.code.Code.TheVariants.{RmFromClient, InvalidToken}
use Rattle.daide_frame.specs.Code.{code_name}
use Rattle.daide_frame.specs.Head.{kind_of}
use Rattle.daide_frame.specs.Frames.{head_in}
use Rattle.daide_protocol.specs.declared.ending.Ending.{Ending}
use Rattle.daide_protocol.specs.declared.ending.Ending.TheVariants.{Ended, Lost, Final, Error, Fault, Stopped}
use Rattle.daide_protocol.specs.Machine.{SessionState, coming, ending_in}
use Rattle.daide_io.specs.declared.fault_field.FaultField.{FaultField}
use Rattle.daide_io.specs.declared.fault_field.FaultField.TheVariants.{Kind, Length, Version, MagicNumber, Token}

-- the two bytes at a place, the high byte first
abbrev pub two_bytes_at : List ℕ → ℕ → Option ℕ
two_bytes_at bytes place =
    if nat_le (place + 2) (length bytes)
    then Some (from_be_bytes w16 (slice_index bytes place ∷ slice_index bytes (place + 1) ∷ []))
    else None

abbrev pub field_with : (ℕ → FaultField) → Option ℕ → Option FaultField
field_with field None = None
field_with field (Some value) = Some (field value)

-- ---- each field

abbrev pub type_field : List ℕ → Option FaultField
type_field [] = None
type_field (kind ∷ header) = Some (Kind kind)

abbrev pub length_field : List ℕ → Option FaultField
length_field header = field_with Length (two_bytes_at header 2)

abbrev pub version_field : List ℕ → Option FaultField
version_field body = field_with Version (two_bytes_at body 0)

abbrev pub magic_field : List ℕ → Option FaultField
magic_field body = field_with MagicNumber (two_bytes_at body 2)

-- the last two bytes: a fault is at the second byte of the first invalid token
abbrev pub token_field : List ℕ → Option FaultField
token_field body =
    let place = length body - 2 in
    field_with (λ value. Token value (4 + place)) (two_bytes_at body place)

-- ---- the field of each fault

-- an IM whose length is in the other byte order is refused before its body, and then its magic number is looked at
abbrev pub byte_order_field : List ℕ → List ℕ → Option FaultField
byte_order_field header [] = length_field header
byte_order_field header (byte ∷ body) = magic_field (byte ∷ body)

abbrev pub has_known_type : List ℕ → Bool
has_known_type [] = false
has_known_type (kind ∷ header) = is_some (kind_of kind)

-- A frame is unknown by its type, or since its length is above the cap. By itself the header of the latter is refused
-- too, and that of an RM before the IM is not.
abbrev pub unknown_field : Bool → List ℕ → Option FaultField
unknown_field is_good header =
    if not is_good && has_known_type header then length_field header else type_field header

-- By the code of the fault, whether the header is accepted by itself, and the header and the body so far. An IM that did
-- not arrive in time has none. A frame that is not permitted now has its type.
abbrev pub fault_field : Code → Bool → List ℕ → List ℕ → Option FaultField
fault_field ImTimeout is_good header body = None
fault_field ImNotFirst is_good header body = type_field header
fault_field WrongEndian is_good header body = byte_order_field header body
fault_field WrongMagic is_good header body = magic_field body
fault_field WrongVersion is_good header body = version_field body
fault_field SecondIm is_good header body = type_field header
fault_field ImFromServer is_good header body = type_field header
fault_field UnknownMessage is_good header body = unknown_field is_good header
fault_field WrongLength is_good header body = length_field header
fault_field DmBeforeRm is_good header body = type_field header
fault_field RmNotFirst is_good header body = type_field header
fault_field SecondRm is_good header body = type_field header
fault_field RmFromClient is_good header body = type_field header
fault_field InvalidToken is_good header body = token_field body

-- the place of a field: its first byte's number in the frame, from 0
abbrev pub place_of : FaultField → ℕ
place_of (Kind value) = 0
place_of (Length value) = 2
place_of (Version value) = 4
place_of (MagicNumber value) = 6
place_of (Token value place) = place

-- ---- the text of a fault

-- a number in upper-case hexadecimal digits, this many at least
abbrev pub padded_hex : ℕ → ℕ → List ℕ
padded_hex width value = padded_integral (format_spec 32 0 4 width (2 ^ 64 - 1)) false [] (digits 16 true value)

abbrev pub value_text : FaultField → List ℕ
value_text (Kind value) = padded_hex 2 value
value_text (Length value) = padded_hex 4 value
value_text (Version value) = padded_hex 4 value
value_text (MagicNumber value) = padded_hex 4 value
value_text (Token value place) = padded_hex 4 value

-- the value of a field, and its place: `6000 at byte 6`
abbrev pub field_text : FaultField → List ℕ
field_text field = value_text field ++ codes " at byte " ++ decimal (place_of field)

abbrev pub label_of : FaultField → List ℕ
label_of (Kind value) = codes ", type "
label_of (Length value) = codes ", length "
label_of (Version value) = codes ", version "
label_of (MagicNumber value) = codes ", magic number "
label_of (Token value place) = codes ", token "

-- what is between the name of a fault and the value: the field, unless the name ends with it
abbrev pub label_after : Code → FaultField → List ℕ
label_after InvalidToken field = codes " "
label_after WrongLength field = codes " "
label_after WrongMagic field = codes " "
label_after WrongVersion field = codes " "
label_after code field = label_of field

-- the name of a fault; a message of an unknown length is too long
abbrev pub cause_name : Code → Option FaultField → List ℕ
cause_name UnknownMessage (Some (Length value)) = codes "body above max_body"
cause_name code field = code_name code

-- the name of a fault, and the field that it is about: `invalid token 6000 at byte 6`
abbrev pub cause_text : Code → Option FaultField → List ℕ
cause_text code None = code_name code
cause_text code (Some field) = cause_name code (Some field) ++ label_after code field ++ field_text field

-- ---- the field of a session's fault

-- the bytes since the last whole frame of the side whose fault it is
abbrev pub field_in : Option Ending → SessionState → Option FaultField
field_in None state = None
field_in (Some (Ended side)) state = None
field_in (Some (Lost side)) state = None
field_in (Some (Final side)) state = None
field_in (Some (Error side)) state = None
field_in (Some Stopped) state = None
field_in (Some (Fault side code)) state =
    let bytes = (coming state side).pending in
    fault_field code (is_some (head_in state.limits.cap bytes)) (take 4 bytes) (drop 4 bytes)

-- the field that the fault is about which ended the session, if a fault did
abbrev pub fault_field_of : SessionState → Option FaultField
fault_field_of state = field_in (ending_in state.phase) state
