-- Worked examples, computed from the definitions: a wrong table does not check.
use Rattle.std.proofs.Common.{◌≡◌, [], ◌∷◌, Ok, Err, refl}
use Rattle.daide_frame.proofs.Common.{WrongEndian, WrongMagic, WrongVersion, UnknownMessage, WrongLength, InvalidToken}
use Rattle.daide_frame.proofs.Common.{Im, Rm, Dm, Fm, Em, Bodied, head_bytes, parse_head, im_of}
use Rattle.daide_frame.specs.Frames.{step_of_events, is_alien, Begun, Whole, Wrong, cut, fed, first_items, head_in}
use Rattle.daide_frame.specs.Frames.{last_items, missing}

-- a frame's events are at the end of its header and of its body, and the next frame follows
dm_then_fm : cut 1024 (0x02 ∷ 0x00 ∷ 0x00 ∷ 0x02 ∷ 0x48 ∷ 0x0F ∷ 0x03 ∷ 0x00 ∷ 0x00 ∷ 0x00 ∷ []) ≡
    record { item = Begun (record { kind = Dm; len = 2 }); at = 4 }
    ∷ record { item = Whole (record { kind = Dm; len = 2 }) (0x48 ∷ 0x0F ∷ []); at = 6 }
    ∷ record { item = Begun (record { kind = Fm; len = 0 }); at = 10 }
    ∷ record { item = Whole (record { kind = Fm; len = 0 }) []; at = 10 } ∷ []
unfolding cut first_items parse_head is_alien
dm_then_fm = refl

-- the fault of an alien token is at its second byte, and nothing follows
alien_in_second_frame : cut 1024
    (0x03 ∷ 0x00 ∷ 0x00 ∷ 0x00 ∷ 0x02 ∷ 0x00 ∷ 0x00 ∷ 0x06 ∷ 0x48 ∷ 0x03 ∷ 0x58 ∷ 0x00 ∷ 0x48 ∷ []) ≡
    record { item = Begun (record { kind = Fm; len = 0 }); at = 4 }
    ∷ record { item = Whole (record { kind = Fm; len = 0 }) []; at = 4 }
    ∷ record { item = Begun (record { kind = Dm; len = 6 }); at = 8 }
    ∷ record { item = Wrong InvalidToken; at = 12 } ∷ []
unfolding cut first_items parse_head is_alien
alien_in_second_frame = refl

-- an alien token at the end of a frame is a fault, and its body is no event
alien_at_the_end : cut 1024 (0x02 ∷ 0x00 ∷ 0x00 ∷ 0x02 ∷ 0x4C ∷ 0x00 ∷ 0x03 ∷ 0x00 ∷ 0x00 ∷ 0x00 ∷ []) ≡
    record { item = Begun (record { kind = Dm; len = 2 }); at = 4 }
    ∷ record { item = Wrong InvalidToken; at = 6 } ∷ []
unfolding cut first_items parse_head is_alien
alien_at_the_end = refl

-- half a token is no token
half_an_alien : cut 1024 (0x02 ∷ 0x00 ∷ 0x00 ∷ 0x04 ∷ 0x48 ∷ 0x03 ∷ 0x58 ∷ []) ≡
    record { item = Begun (record { kind = Dm; len = 4 }); at = 4 } ∷ []
unfolding cut first_items parse_head is_alien
half_an_alien = refl

-- only a DM consists of tokens
block_of_a_map : cut 1024 (0x01 ∷ 0x00 ∷ 0x00 ∷ 0x06 ∷ 0xFF ∷ 0xFF ∷ 0x42 ∷ 0x4F ∷ 0x48 ∷ 0x00 ∷ []) ≡
    record { item = Begun (record { kind = Rm; len = 6 }); at = 4 }
    ∷ record {
      item = Whole (record { kind = Rm; len = 6 }) (0xFF ∷ 0xFF ∷ 0x42 ∷ 0x4F ∷ 0x48 ∷ 0x00 ∷ []);
      at =
          10;
    } ∷ []
unfolding cut first_items parse_head is_alien
block_of_a_map = refl

-- fewer than four bytes have no event
part_of_a_header : cut 1024 (0x05 ∷ 0x00 ∷ 0x00 ∷ []) ≡ []
unfolding cut first_items
part_of_a_header = refl

-- a header is refused at its fourth byte
odd_length : cut 65526 (0x02 ∷ 0x00 ∷ 0x00 ∷ 0x03 ∷ 0x48 ∷ 0x0F ∷ []) ≡ record { item = Wrong WrongLength; at = 4 } ∷ []
unfolding cut first_items parse_head is_alien
odd_length = refl

-- the right lengths of each kind, with any pad; a body may be as long as the cap
right_lengths : (parse_head (0x00 ∷ 0xFF ∷ 0x00 ∷ 0x04 ∷ []) 4 ≡ Ok (record { kind = Im; len = 4 }))
    × (parse_head (0x01 ∷ 0x00 ∷ 0x00 ∷ 0x00 ∷ []) 0 ≡ Ok (record { kind = Rm; len = 0 }))
    × (parse_head (0x02 ∷ 0x01 ∷ 0x04 ∷ 0x00 ∷ []) 1024 ≡ Ok (record { kind = Dm; len = 1024 }))
    × (parse_head (0x04 ∷ 0x00 ∷ 0x00 ∷ 0x02 ∷ []) 1024 ≡ Ok (record { kind = Em; len = 2 }))
unfolding parse_head
right_lengths = (refl, refl, refl, refl)

wrong_lengths : (parse_head (0x00 ∷ 0x00 ∷ 0x00 ∷ 0x06 ∷ []) 1024 ≡ Err WrongLength)
    × (parse_head (0x01 ∷ 0x00 ∷ 0x00 ∷ 0x08 ∷ []) 1024 ≡ Err WrongLength)
    × (parse_head (0x03 ∷ 0x00 ∷ 0x00 ∷ 0x02 ∷ []) 1024 ≡ Err WrongLength)
    × (parse_head (0x04 ∷ 0x00 ∷ 0x00 ∷ 0x00 ∷ []) 1024 ≡ Err WrongLength)
unfolding parse_head
wrong_lengths = (refl, refl, refl, refl)

-- the order of a header's faults
type_before_length : parse_head (0x05 ∷ 0x00 ∷ 0x04 ∷ 0x00 ∷ []) 1024 ≡ Err UnknownMessage
unfolding parse_head
type_before_length = refl

swapped_length : parse_head (0x00 ∷ 0x00 ∷ 0x04 ∷ 0x00 ∷ []) 65526 ≡ Err WrongEndian
unfolding parse_head
swapped_length = refl

odd_above_cap : parse_head (0x02 ∷ 0x00 ∷ 0x04 ∷ 0x01 ∷ []) 1024 ≡ Err WrongLength
unfolding parse_head
odd_above_cap = refl

even_above_cap : parse_head (0x02 ∷ 0x00 ∷ 0x04 ∷ 0x02 ∷ []) 1024 ≡ Err UnknownMessage
unfolding parse_head
even_above_cap = refl

-- a header is written with pad 0, and the length's high byte first
written_header : head_bytes (record { kind = Dm; len = 0xFFF6 }) ≡ 0x02 ∷ 0x00 ∷ 0xFF ∷ 0xF6 ∷ []
unfolding head_bytes
written_header = refl

-- the missing bytes: of the header, then of the body; none after a fault
missing_bytes : (missing 1024 [] ≡ 4)
    × (missing 1024 (0x02 ∷ 0x00 ∷ 0x00 ∷ 0x04 ∷ 0x48 ∷ []) ≡ 3)
    × (missing 1024 (0x02 ∷ 0x00 ∷ 0x00 ∷ 0x04 ∷ 0x58 ∷ 0x00 ∷ []) ≡ 0)
    × (missing 1024 (0x02 ∷ 0x00 ∷ 0x00 ∷ 0x03 ∷ []) ≡ 0)
unfolding missing head_in parse_head is_alien
missing_bytes = (refl, refl, refl, refl)

-- bytes after a fault are not taken
behind_a_fault : fed 1024 (0x02 ∷ 0x00 ∷ 0x00 ∷ 0x06 ∷ []) (0x58 ∷ 0x00 ∷ 0x48 ∷ 0x03 ∷ [])
    ≡ 0x02 ∷ 0x00 ∷ 0x00 ∷ 0x06 ∷ 0x58 ∷ 0x00 ∷ []
unfolding last_items first_items parse_head is_alien
behind_a_fault = refl

-- an empty frame is reported as whole
empty_frame : step_of_events (last_items 1024 (0x03 ∷ 0x00 ∷ 0x00 ∷ 0x00 ∷ []))
    ≡ Bodied (record { kind = Fm; len = 0 })
unfolding last_items first_items parse_head is_alien
empty_frame = refl

-- the order of an initial message's faults
right_im : im_of (0x00 ∷ 0x01 ∷ 0xDA ∷ 0x10 ∷ []) ≡ Ok tt
unfolding im_of
right_im = refl

wrong_magic : im_of (0x00 ∷ 0x02 ∷ 0xDA ∷ 0x11 ∷ []) ≡ Err WrongMagic
unfolding im_of
wrong_magic = refl

magic_before_version : im_of (0x00 ∷ 0x02 ∷ 0x10 ∷ 0xDA ∷ []) ≡ Err WrongEndian
unfolding im_of
magic_before_version = refl

wrong_version : im_of (0x00 ∷ 0x02 ∷ 0xDA ∷ 0x10 ∷ []) ≡ Err WrongVersion
unfolding im_of
wrong_version = refl
