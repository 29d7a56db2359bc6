-- The four bytes before every frame: type, pad, and the length of the body, high byte first.
use Rattle.std.specs.Prelude.{ℕ, ◌%◌, Bool, ◌&&◌, nat_lt, List, [], ◌∷◌, slice_index, Option}
use Rattle.std.specs.Prelude.{Some, None, Result, Ok, Err, if◌then◌else◌, ◌==◌}
use Rattle.std.specs.Int.{w16, from_be_bytes, to_be_bytes}
use Rattle.daide_frame.specs.declared.head.Kind.{Kind}
use Rattle.daide_frame.specs.declared.head.Kind.TheVariants.{Im, Rm, Dm, Fm, Em}
use Rattle.daide_frame.specs.declared.head.Head.{Head}
use Rattle.daide_frame.specs.declared.code.Code.{Code}
use Rattle.daide_frame.specs.declared.code.Code.TheVariants.{WrongEndian, UnknownMessage, WrongLength}

-- the type byte of a kind, by the protocol's table of messages
abbrev pub kind_number : Kind → ℕ
kind_number Im = 0
kind_number Rm = 1
kind_number Dm = 2
kind_number Fm = 3
kind_number Em = 4

-- the kind with a type byte; no message has another type
abbrev pub kind_of : ℕ → Option Kind
kind_of n =
    if n == 0 then Some Im
    else if n == 1 then Some Rm
    else if n == 2 then Some Dm
    else if n == 3 then Some Fm
    else if n == 4 then Some Em
    else None

-- the lengths of a body, by kind: an IM has a version and a magic number, an RM blocks of six bytes, a DM tokens of two
-- bytes, an FM nothing, an EM one error code
abbrev pub has_right_length : Kind → ℕ → Bool
has_right_length Im n = n == 4
has_right_length Rm n = n % 6 == 0
has_right_length Dm n = n % 2 == 0
has_right_length Fm n = n == 0
has_right_length Em n = n == 2

abbrev pub is_im : Kind → Bool
is_im kind = kind_number kind == 0

-- A kind with a length, or its first fault. These are (own): the order; that an IM's length 0400 is the other byte
-- order; that each wrong length is one error; that a length above the cap is an unknown message.
abbrev pub judged : Option Kind → ℕ → ℕ → Result Head Code
judged None n cap = Err UnknownMessage
judged (Some kind) n cap =
    if is_im kind && (n == 0x0400) then Err WrongEndian
    else if has_right_length kind n
    then (if nat_lt cap n then Err UnknownMessage else Ok (record { kind = kind; len = n }))
    else Err WrongLength

-- the header in the first four bytes; the second byte, the pad, is ignored
unfoldable pub parse_head : List ℕ → ℕ → Result Head Code
parse_head bytes cap =
    judged (kind_of (slice_index bytes 0)) (from_be_bytes w16 (slice_index bytes 2 ∷ slice_index bytes 3 ∷ [])) cap

-- the bytes of a header, with pad 0
unfoldable pub head_bytes : Head → List ℕ
head_bytes head = kind_number head.kind ∷ 0 ∷ to_be_bytes w16 head.len
