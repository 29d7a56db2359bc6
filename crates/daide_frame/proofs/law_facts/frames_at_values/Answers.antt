use Rattle.std.proofs.Common.{[], ◌∷◌, refl, arith}
use Rattle.daide_frame.proofs.Common.{head_bytes, parse_head, Dm}
use Rattle.daide_frame.specs.Frames.{cut, first_items, is_alien, last_items, missing}
use Rattle.daide_frame.proofs.law_facts.frames_at_values.Goals as goal

pub returns-clause-head : goal.returns-clause-head
unfolding head_bytes
returns-clause-head c cap room =
    c.head_comes_back.ensures (record { kind = Dm; len = 65526 }) cap (omega arith) refl room

pub returns-clause-pieces : goal.returns-clause-pieces
unfolding first_items missing
returns-clause-pieces c high low =
    c.any_pieces_agree.ensures 1024 (0x02 ∷ 0x00 ∷ []) (high ∷ low ∷ []) (omega arith)

pub returns-clause-follow : goal.returns-clause-follow
unfolding cut first_items parse_head is_alien
returns-clause-follow c =
    c.frames_follow_one_another.ensures 1024 (0x03 ∷ 0x00 ∷ 0x00 ∷ 0x00 ∷ 0x03 ∷ 0x00 ∷ 0x00 ∷ 0x00 ∷ [])

pub returns-clause-by_byte : goal.returns-clause-by_byte
unfolding cut first_items last_items parse_head is_alien
returns-clause-by_byte c =
    c.frames_are_found_byte_by_byte.ensures 1024 (0x03 ∷ 0x00 ∷ 0x00 ∷ 0x00 ∷ 0x03 ∷ 0x00 ∷ 0x00 ∷ 0x00 ∷ [])
