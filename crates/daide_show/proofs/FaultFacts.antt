-- Which faults two inputs have, and what each fault says, worked out from docs/FORMATS.md.
use Rattle.daide_show.proofs.Common.{◌≡◌, Result, Ok, Err, codes, decode_pairs, digits, Bot, L0, NotHex, TooLong}
use Rattle.daide_show.proofs.Common.{NotOneFrame, ShowFault}
use Rattle.daide_frame.specs.Frames.{first_items}
use Rattle.daide_frame.specs.Head.{parse_head}
use Rattle.daide_show.specs.declared.frame_view.ShowFault.TheVariants.{Read, Memory, Write}
use Rattle.daide_show.specs.Shown.{IsFaultAt, IsShowCause, Shown, parse_frame, plain_request}
use Rattle.daide_show.proofs.FrameFacts.{fm, fm_shown, letter}

-- an input with a letter is not hexadecimal. It is not too long, not an incomplete frame, and nothing is to be written of it
at_a_letter : IsFaultAt (plain_request Bot L0) (codes "0G") NotHex
    × (IsFaultAt (plain_request Bot L0) (codes "0G") TooLong → ⊥)
    × (IsFaultAt (plain_request Bot L0) (codes "0G") NotOneFrame → ⊥)
    × (IsFaultAt (plain_request Bot L0) (codes "0G") Write → ⊥)
unfolding decode_pairs
at_a_letter = (
  letter,
  λ h. let e : ◌≡◌ {A = Result Shown ShowFault} (Err TooLong) (Err NotHex) = h in cc,
  λ h. let e : ◌≡◌ {A = Result Shown ShowFault} (Err NotOneFrame) (Err NotHex) = h in cc,
  λ h. let e : ◌≡◌ {A = Result Shown ShowFault} (Ok h.0) (Err NotHex) = h.1 in cc,
)

-- a frame is to be written, and has no fault of its own
at_a_frame : IsFaultAt (plain_request Bot L0) (codes "03 00 00 00") Write
    × (IsFaultAt (plain_request Bot L0) (codes "03 00 00 00") TooLong → ⊥)
    × (IsFaultAt (plain_request Bot L0) (codes "03 00 00 00") NotHex → ⊥)
    × (IsFaultAt (plain_request Bot L0) (codes "03 00 00 00") NotOneFrame → ⊥)
unfolding digits decode_pairs parse_frame first_items parse_head
at_a_frame = (
  (fm_shown, fm),
  λ h. let e : ◌≡◌ {A = Result Shown ShowFault} (Err TooLong) (Ok h.0) = h.1 in cc,
  λ h. let e : ◌≡◌ {A = Result Shown ShowFault} (Err NotHex) (Ok h.0) = h.1 in cc,
  λ h. let e : ◌≡◌ {A = Result Shown ShowFault} (Err NotOneFrame) (Ok h.0) = h.1 in cc,
)

-- each cause is the one that its fault names
causes : (read refused write : Type 0) → (IsShowCause read refused write Read → read)
    × (IsShowCause read refused write Memory → refused) × (IsShowCause read refused write Write → write)
causes read refused write = (λ h. h, λ h. h, λ h. h)
