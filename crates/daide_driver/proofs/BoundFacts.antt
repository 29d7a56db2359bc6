-- The numbers in the contracts of a turn and a hub. Each bound is computed at the least, the usual and the greatest
-- limits. The expected values are independent of the definitions, so another number in a definition does not check.
use Rattle.std.proofs.Common.{◌≡◌, ℕ, ◌+◌, ◌*◌, ◌≤◌, ◌<◌, ◌⊎◌, inl, inr, min, List, [], ◌∷◌, length, refl, ap, ◌∙◌, arith}
use Rattle.std.specs.Prelude.{Ok}
use Rattle.daide_frame.specs.declared.side.Side.{Side}
use Rattle.daide_frame.specs.declared.side.Side.TheVariants.{Bot, Server}
use Rattle.daide_reader.specs.Reading.{IsRaised}
use Rattle.daide_protocol.specs.Machine.{Limits}
use Rattle.daide_protocol.specs.Wires.{SessionView, holding, room_of}
use Rattle.daide_protocol.specs.declared.config.Config.{Config}
use Rattle.daide_driver.specs.declared.hub.HubError.TheVariants as Errors
use Rattle.daide_io.specs.declared.ports.Pull.TheVariants.{Got}
use Rattle.daide_protocol.specs.Config.{config_fault}
use Rattle.daide_protocol.specs.Config.{limits_of}
use Rattle.daide_session.specs.Bounds.{IsWithinBounds}
use Rattle.daide_io.specs.Ports.{PortCall, Pulled}
use Rattle.daide_driver.specs.Turn.{FillsRoom, turn_steps}
use Rattle.daide_driver.specs.Totals.{HasTotals}
use Rattle.daide_protocol.specs.Bounds.{IsSessionCount}
use Rattle.daide_driver.specs.Hub.{IsHubCause, session_bound}

-- ---- bounds

-- a pull of 512 bytes completes at most 257 tokens: four look-ups for each, and four at a message's end
work_of_a_turn : turn_steps ≡ 1032
work_of_a_turn = refl

-- at most 64 frames are queued for both wires, beside the bounds of each direction
frames_that_wait : (g : SessionView) → IsWithinBounds g → length g.wires.bot + length g.wires.server ≤ 64
frames_that_wait g bounds = bounds.further

-- with this much room, the one pull uses a buffer of this many bytes
abbrev IsPulledInto : ℕ → ℕ → Type 0
IsPulledInto room buffer =
    (side : Side) (old new : SessionView) (trace : List PortCall) (pull : FillsRoom side old trace new) →
    room_of old side ≡ room → trace ≡ Pulled side buffer pull.pull pull.bytes ∷ []

-- as long as the room, and at most 512
pulled_bytes : IsPulledInto 1 1 × IsPulledInto 4 4 × IsPulledInto 256 256 × IsPulledInto 511 511 × IsPulledInto 512 512
    × IsPulledInto 513 512 × IsPulledInto 65526 512
pulled_bytes = (buffer, buffer, buffer, buffer, buffer, buffer, buffer)
  where
    buffer : {room : ℕ} → IsPulledInto room (min room 512)
    buffer side old new trace pull is = pull.asked ∙ ap (λ n. Pulled side (min n 512) pull.pull pull.bytes ∷ []) is

-- over all bytes received, two look-ups a byte: eight for four bytes from the bot, and none for the server
work_of_bytes : (limits : Limits) (g : SessionView) →
    HasTotals limits (Pulled Bot 4 (Got 4) (0x02 ∷ 0x00 ∷ 0x00 ∷ 0x02 ∷ []) ∷ []) g →
    IsRaised 8 0 (holding g Bot).total × IsRaised 0 0 (holding g Server).total
work_of_bytes limits g holds = (holds.work Bot, holds.work Server)

-- two bodies, two stacks and 64: with the least limits, the usual ones and the widest
abbrev limited : ℕ → ℕ → Config
limited body depth = record { top_level = 60; max_body = body; max_depth = depth }

session_bounds : (session_bound (limits_of (limited 512 4)) ≡ 1184)
    × (session_bound (limits_of (limited 65526 62)) ≡ 132140)
    × (session_bound (limits_of (limited 65526 254)) ≡ 135212)
    × (session_bound (limits_of (limited 512 254)) ≡ 5184)
session_bounds = (refl, refl, refl, refl)

-- with the longest body: two bodies, two stacks, and 64 further entries
widest_bound : session_bound (limits_of (limited 65526 254)) ≡ 2 * 65526 + 2 * 2048 + 64
widest_bound = refl

narrowest_bound : session_bound (limits_of (limited 65526 4)) ≡ 2 * 65526 + 2 * 48 + 64
narrowest_bound = refl

-- ---- hubs

-- a hub is for 1 to 256 sessions; 0 and more than 256 are refused
hub_sizes : IsSessionCount 1 × IsSessionCount 255 × IsSessionCount 256 × (IsSessionCount 0 → ⊥) × (IsSessionCount 257 → ⊥)
hub_sizes = (
  (omega arith, omega arith),
  (omega arith, omega arith),
  (omega arith, omega arith),
  (λ size. absurd (omega (arith, size.0))),
  (λ size. absurd (omega (arith, size.1))),
)

hub_refusals : (Refuses : ℕ → Type 0) (config : Config) →
    (IsHubCause Refuses config 1 Errors.Sessions → ⊥) × (IsHubCause Refuses config 256 Errors.Sessions → ⊥)
    × (config_fault config ≡ Ok tt →
    IsHubCause Refuses config 0 Errors.Sessions × IsHubCause Refuses config 257 Errors.Sessions)
hub_refusals Refuses config = (
  (λ cause. no cause.1 (omega arith) (omega arith)),
  (λ cause. no cause.1 (omega arith) (omega arith)),
  (λ right. ((right, inl refl), (right, inr (omega arith)))),
)
  where
    no : {max : ℕ} → (max ≡ 0) ⊎ (256 < max) → 0 < max → max ≤ 256 → ⊥
    no (inl none) some few = omega arith
    no (inr many) some few = omega arith
