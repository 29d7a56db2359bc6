-- What is shown of an FM, and of inputs that are not a frame, worked out from docs/FORMATS.md.
use Rattle.daide_show.proofs.Common.{[], ◌∷◌, ◌++◌, Ok, Err, codes, true, refl, digits, decode_pairs, Bot, L0, NotHex}
use Rattle.daide_frame.specs.Frames.{first_items}
use Rattle.daide_frame.specs.Head.{parse_head}
use Rattle.daide_show.specs.Shown.{IsShownAs, Shown, parse_frame, plain_request}

abbrev pub fm_shown : Shown
fm_shown = record { text = codes "FM 0" ++ 10 ∷ codes "relay" ++ 10 ∷ []; relayed = true }

pub fm : IsShownAs (plain_request Bot L0) (codes "03 00 00 00") (Ok fm_shown)
unfolding digits decode_pairs parse_frame first_items parse_head
fm = (fm_shown, refl, refl)

pub letter : IsShownAs (plain_request Bot L0) (codes "0G") (Err NotHex)
unfolding decode_pairs
letter = refl
