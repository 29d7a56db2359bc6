-- The space that a session holds, and its bound.
use Rattle.std.specs.Prelude.{◌≡◌, ℕ, ◌+◌, ◌≤◌, false, min, List, [], length, drop, if◌then◌else◌}
use Rattle.daide_token.specs.Token.{tokens_of}
use Rattle.daide_frame.specs.declared.side.Side.{Side}
use Rattle.daide_frame.specs.Frames.{announced, head_in}
use Rattle.daide_grammar.specs.Depth.{open_brackets}
use Rattle.daide_grammar.specs.Bounds.{entries_bound, message_steps}
use Rattle.daide_protocol.specs.Machine.{coming}
use Rattle.daide_protocol.specs.Wires.{SessionView, Holding, holding, queued, is_awaited, is_dm_head}

-- the lengths of the six collections: two bodies, two stacks, two send queues
unfoldable pub weight_of : SessionView → ℕ
weight_of g =
    length (drop 4 g.sides.bot.frame_bytes) + g.sides.bot.entries + (length (drop 4 g.sides.server.frame_bytes) + g.sides.server.entries)
    + (length g.wires.bot + length g.wires.server)

-- the whole tokens of the message held from a side, if its frame is a message
abbrev pub frame_tokens : ℕ → List ℕ → List ℕ
frame_tokens cap frame_bytes = if is_dm_head (head_in cap frame_bytes) then tokens_of (drop 4 frame_bytes) else []

-- the bound of the frames queued for both wires
abbrev pub queue_bound : ℕ
queue_bound = 64

-- one direction: the announced length of the held frame, capped, and the stack entries for the open brackets
abbrev pub direction_bound : ℕ → List ℕ → ℕ
direction_bound cap frame_bytes = min (announced cap frame_bytes) cap + entries_bound (open_brackets (frame_tokens cap frame_bytes))

-- both directions, and the queued frames
unfoldable pub weight_bound : SessionView → ℕ
weight_bound g =
    direction_bound g.state.limits.cap g.sides.bot.frame_bytes + direction_bound g.state.limits.cap g.sides.server.frame_bytes
    + queue_bound

-- one direction is within these bounds: the announced length, capped, and the entries
pub record IsKeptSmall (cap : ℕ) (h : Holding) : Type 0 where
  pub bytes : length (drop 4 h.frame_bytes) ≤ min (announced cap h.frame_bytes) cap
  pub entries : h.entries ≤ entries_bound (open_brackets (frame_tokens cap h.frame_bytes))

-- the bound of the look-ups for a side's message
abbrev pub steps_bound : SessionView → Side → ℕ
steps_bound g side =
    message_steps (length (frame_tokens g.state.limits.cap (holding g side).frame_bytes)) (is_awaited (queued g) side)

-- if no answer to a side's last frame is queued, the held bytes are those since its last whole frame
abbrev pub IsTied : SessionView → Type 0
IsTied g = (side : Side) → is_awaited (queued g) side ≡ false → (holding g side).frame_bytes ≡ (coming g.state side).pending
