-- The body of an initial message: two bytes of version, then two of magic number, high byte first.
use Rattle.std.specs.Prelude.{ℕ, List, [], ◌∷◌, slice_index, Result, Ok, Err, if◌then◌else◌, ◌==◌}
use Rattle.std.specs.Int.{w16, from_be_bytes}
use Rattle.daide_frame.specs.declared.code.Code.{Code}
use Rattle.daide_frame.specs.declared.code.Code.TheVariants.{WrongEndian, WrongMagic, WrongVersion}

-- The fault of a body, if it has one. The protocol gives each fault its code. That the magic number is judged before
-- the version, and its byte order first, is (own).
unfoldable pub im_of : List ℕ → Result (Unit {0}) Code
im_of body =
    let version = from_be_bytes w16 (slice_index body 0 ∷ slice_index body 1 ∷ []) in
    let magic = from_be_bytes w16 (slice_index body 2 ∷ slice_index body 3 ∷ []) in
    if magic == 0x10DA then Err WrongEndian
    else if magic == 0xDA10 then (if version == 1 then Ok tt else Err WrongVersion)
    else Err WrongMagic
