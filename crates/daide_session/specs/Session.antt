-- The abstraction function of a session, and its invariant between calls.
use Rattle.std.specs.Prelude.{◌≡◌, ℕ, ◌<◌, [], false, Ok, Err}
use Rattle.daide_frame.specs.declared.side.Side.{Side}
use Rattle.daide_frame.specs.PerSide.{both}
use Rattle.daide_frame.specs.Frames.{missing}
use Rattle.daide_protocol.specs.Machine.{SessionState, coming, is_over}
use Rattle.daide_frame.specs.Side.{other}
use Rattle.daide_protocol.specs.Wires.{SessionView, queued, Releases, AsksNothing, LooksAtNothing}
use Rattle.daide_protocol.specs.declared.config.Config.{Config}
use Rattle.daide_session.specs.declared.session.SessionError.{SessionError}
use Rattle.daide_session.specs.declared.session.SessionError.TheVariants as Errors
use Rattle.daide_session.specs.declared.protocol_state.ProtocolState.{ProtocolState}
use Rattle.daide_protocol.specs.Config.{config_fault}
use Rattle.daide_channels.specs.Fronts.{KeepsFront}
use Rattle.daide_channels.specs.Channels.{Channels, has_final_frame}

-- ---- the value

-- the machine's state: the limits with the operator's words, the phase and the level, and the bytes received from each
-- side
abbrev pub state_of : Channels → ProtocolState → SessionState
state_of t protocol = record {
  limits = record {
    cap = t.cap;
    top_level = protocol.top_level;
    max_depth = t.rules.max_depth;
    words = t.rules.words;
  };
  phase = protocol.phase;
  sides = both t.sides.bot.coming t.sides.server.coming;
}

-- that state, the queued frames for each wire, the held bytes from each side, and the account
abbrev pub view_of : Channels → ProtocolState → SessionView
view_of t protocol = record {
  state = state_of t protocol;
  wires = t.queued;
  parts = t.parts;
  sides = both t.sides.bot.holding t.sides.server.holding;
  account = protocol.account;
}

-- ---- between calls

-- While a session is not over, each side's next frame lacks bytes, so no whole frame is held unanswered; and no queued
-- frame ends the session.
pub record IsConsistentSession (g : SessionView) : Type 0 where
  pub wanted : is_over g.state.phase ≡ false → (side : Side) →
      0 < missing g.state.limits.cap (coming g.state side).pending
  pub no_end : is_over g.state.phase ≡ false → (wire : Side) → has_final_frame (queued g wire) ≡ false

-- ---- what is dropped

-- The queue of a wire is emptied. The state, the counts, and the frames and parts of the other wire are unchanged; no
-- table look-up is made, and no HLO scan reads a token.
pub record Dropped (old : SessionView) (side : Side) (new : SessionView) : Type 0 where
  pub same_state : new.state ≡ old.state
  pub dropped : queued new side ≡ []
  pub other_wire : queued new (other side) ≡ queued old (other side)
  pub other_front : KeepsFront old (other side) new
  pub counts : new.account ≡ old.account
  pub frame_bytes : Releases old new
  pub asks_nothing : AsksNothing old new
  pub looks_at_nothing : LooksAtNothing old new

-- ---- refusals

-- The limits are checked first. Memory is requested only if they are right; the error is then that the allocator
-- refused a body of the longest length. `Refuses` is the allocator's relation of that name.
abbrev pub IsCause : (ℕ → Type 0) → Config → SessionError → Type 0
IsCause Refuses config (Errors.Config fault) = config_fault config ≡ Err fault
IsCause Refuses config Errors.Memory = (config_fault config ≡ Ok tt) × Refuses config.max_body
