-- The lines that explain a fault with code 08, worked out by hand: a body above the cap, which is that of the log, an
-- unknown type, and an RM of the server before the IM.
use Rattle.daide_log.proofs.Common.{◌≡◌, [], ◌∷◌, codes, refl, parse_head}
use Rattle.daide_frame.specs.declared.code.Code.TheVariants.{UnknownMessage}
use Rattle.daide_frame.specs.Frames.{head_in}
use Rattle.daide_log.specs.Explained.{fault_lines}

unknown_messages :
    (fault_lines 512 UnknownMessage (0x02 ∷ 0x00 ∷ 0x02 ∷ 0x02 ∷ []) ≡ codes "body above max_body\nbytes: 02 00 02 02\n")
    × (fault_lines 512 UnknownMessage (0x01 ∷ 0x00 ∷ 0x02 ∷ 0x04 ∷ []) ≡ codes "body above max_body\nbytes: 01 00 02 04\n")
    × (fault_lines 514 UnknownMessage (0x05 ∷ 0x00 ∷ 0x02 ∷ 0x02 ∷ []) ≡ codes "unknown message\nbytes: 05 00 02 02\n")
    × (fault_lines 512 UnknownMessage (0x01 ∷ 0x00 ∷ 0x00 ∷ 0x00 ∷ []) ≡ codes "unknown message\nbytes: 01 00 00 00\n")
unfolding head_in parse_head
unknown_messages = (refl, refl, refl, refl)
