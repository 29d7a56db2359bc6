-- The number of table look-ups in a session: at most two for each byte received. A token has two bytes and takes at
-- most four look-ups; the four bytes of a message's header pay for the four at its end.
use Rattle.std.specs.Prelude.{◌≡◌, ℕ, ◌+◌, ◌-◌, ◌*◌, ◌%◌, ◌^◌, ◌≤◌, ◌⊎◌, Bool, ◌&&◌, ◌==◌, List, [], length}
use Rattle.daide_frame.specs.declared.side.Side.{Side}
use Rattle.daide_frame.specs.Frames.{head_in, missing}
use Rattle.daide_grammar.specs.Bounds.{message_steps}
use Rattle.daide_channels.specs.Receiver.{message_look_ups}
use Rattle.daide_protocol.specs.Machine.{coming}
use Rattle.daide_protocol.specs.Wires.{SessionView, holding, queued, is_awaited, is_dm_head}
use Rattle.daide_protocol.specs.Weight.{frame_tokens}

-- whether a side's frame is a whole message
abbrev pub is_whole_message : ℕ → List ℕ → Bool
is_whole_message cap frame_bytes = is_dm_head (head_in cap frame_bytes) && (missing cap frame_bytes == 0)

-- the look-ups permitted for these bytes of a frame
abbrev pub answers_for : ℕ → List ℕ → ℕ
answers_for cap frame_bytes = message_steps (length (frame_tokens cap frame_bytes)) (is_whole_message cap frame_bytes)

-- the credit left for these bytes: two look-ups for each byte, without those permitted so far
abbrev pub left_of : ℕ → List ℕ → ℕ
left_of cap frame_bytes = 2 * length frame_bytes - answers_for cap frame_bytes

-- the look-ups for a side's held message, if each of its tokens is read once and in order, and none after the one at which
-- the reader stops
abbrev pub look_ups_due : SessionView → Side → ℕ
look_ups_due g side =
    message_look_ups (record { max_depth = g.state.limits.max_depth; words = g.state.limits.words }) side
    (coming g.state side).noted (frame_tokens g.state.limits.cap (holding g side).frame_bytes) (is_awaited (queued g) side)

-- the credit left for a side's held bytes
abbrev pub unspent : SessionView → Side → ℕ
unspent g side = left_of g.state.limits.cap (holding g side).frame_bytes

-- After `bytes` bytes from a side: its table made at most two look-ups for each of them, plus the credit left before,
-- minus the credit left now.
pub record IsPaidBy (bytes : ℕ) (side : Side) (old new : SessionView) : Type 0 where
  pub by : ℕ
  pub few : by + unspent new side ≤ 2 * bytes + unspent old side
  pub sum : (holding new side).total % 2 ^ 64 ≡ ((holding old side).total + by) % 2 ^ 64

-- each side holds the bytes that it held, or none
abbrev pub HoldsNoMore : SessionView → SessionView → Type 0
HoldsNoMore old new =
    (side : Side) → ((holding new side).frame_bytes ≡ (holding old side).frame_bytes) ⊎ ((holding new side).frame_bytes ≡ [])
