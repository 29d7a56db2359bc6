-- The effect of a session's functions on its value: the moves of the machine, and the bytes held after them.
use Rattle.std.specs.Prelude.{◌≡◌, ℕ, false, ◌++◌, ◌⊎◌, List, [], drop}
use Rattle.std.specs.Prelude.{Option, Some, None, Result, Ok, if◌then◌else◌}
use Rattle.daide_frame.specs.declared.side.Side.{Side}
use Rattle.daide_frame.specs.declared.code.Code.{Code}
use Rattle.daide_frame.specs.declared.head.Kind.{Kind}
use Rattle.daide_frame.specs.declared.head.Kind.TheVariants.{Im, Rm, Dm, Fm, Em}
use Rattle.daide_frame.specs.InitialMessage.{im_of}
use Rattle.daide_frame.specs.Frames.{FrameEvent, head_in}
use Rattle.daide_reader.specs.declared.verdict.Verdict.{Verdict}
use Rattle.daide_grammar.specs.Bounds.{most_steps}
use Rattle.daide_reader.specs.Reading.{IsRaised}
use Rattle.daide_protocol.specs.declared.note.Note.{Note}
use Rattle.daide_protocol.specs.declared.note.Note.TheVariants as Notes
use Rattle.daide_protocol.specs.declared.ending.Ending.{Ending}
use Rattle.daide_frame.specs.Side.{other}
use Rattle.daide_protocol.specs.Machine.{SessionState, Successor, IsCorrectVerdict, asked_by, items_outcome, is_over, level_in, nothing, end, stop}
use Rattle.daide_protocol.specs.Wires.{SessionView, Holding, account_after, queued, holding, sent_to, note_of}
use Rattle.daide_protocol.specs.Wires.{frame_bytes_after, is_awaited, is_dm_head}
use Rattle.daide_session.specs.declared.protocol_state.ProtocolState.{ProtocolState}
use Rattle.daide_frame.specs.PerSide.{at}
use Rattle.daide_channels.specs.Channels.{Channels, Keeps, IsStarted, has_final_frame, pending, side_holding}

-- The session made the moves of an outcome: its state, its frames appended to the queues, and its moves counted.
pub record Emits (old : SessionView) (o : Successor) (new : SessionView) : Type 0 where
  pub state : new.state ≡ o.state
  pub sent : (wire : Side) → queued new wire ≡ queued old wire ++ sent_to wire o.effects
  pub counts : new.account ≡ account_after old o.effects

-- the receive state and the limits are unchanged
pub record KeepsSides (old new : Channels) : Type 0 where
  pub cap : new.cap ≡ old.cap
  pub rules : new.rules ≡ old.rules
  pub sides : new.sides ≡ old.sides

-- a side's end, by its stream or its wire
abbrev pub stopped : SessionState → Ending → Side → Successor
stopped s ending side = if is_over s.phase then nothing s else end s ending side

-- a stop by the operator
abbrev pub terminated : SessionState → Successor
terminated s = if is_over s.phase then nothing s else stop s

-- the check of a whole frame: only an IM has one
abbrev pub check_of : Kind → List ℕ → Result (Unit {0}) Code
check_of Im body = im_of body
check_of Rm body = Ok tt
check_of Dm body = Ok tt
check_of Fm body = Ok tt
check_of Em body = Ok tt

-- no byte of a message was read: the body is still empty, or the frame is no message
abbrev pub HasNoMessageBytes : ℕ → List ℕ → Type 0
HasNoMessageBytes cap frame_bytes = (drop 4 frame_bytes ≡ []) ⊎ (is_dm_head (head_in cap frame_bytes) ≡ false)

-- Look-ups are made for a message only, and only at its end. The count's start stays or, if no byte of a message was
-- read, is set to the present count. The HLO scan reads no token.
pub record Asks (cap : ℕ) (old new : Holding) : Type 0 where
  pub base : (new.total_before ≡ old.total_before) ⊎ (HasNoMessageBytes cap old.frame_bytes × (new.total_before ≡ old.total))
  pub raised : IsRaised most_steps old.total new.total
  pub no_message : is_dm_head (head_in cap old.frame_bytes) ≡ false → new.total ≡ old.total
  pub looked_at : new.looked_at ≡ old.looked_at

-- the note for a header: a fault if it has a code
abbrev pub note_by : Option Code → Note
note_by None = Notes.Nothing
note_by (Some code) = Notes.Fault code

-- a side's message starts at the present level
pub record StartsMessage (side : Side) (old : Channels) (protocol : ProtocolState) (new : Channels) (protocol_after : ProtocolState) : Type 0 where
  pub protocol_kept : protocol_after ≡ protocol
  pub keeps : Keeps side old new
  pub queued : new.queued ≡ old.queued
  pub fronts : new.parts ≡ old.parts
  pub started : IsStarted (at old.sides side) (level_in protocol.phase) (at new.sides side)

-- A side's frame events may be handled: the session is not over and queues no final frame. No answer to the side's last
-- frame is queued, and the side's received bytes are those of the frame that it is sending.
pub record MayHandleEvents (channels : Channels) (protocol : ProtocolState) (side : Side) : Type 0 where
  pub live : is_over protocol.phase ≡ false
  pub no_end : (wire : Side) → has_final_frame (at channels.queued wire) ≡ false
  pub free : is_awaited (at channels.queued) side ≡ false
  pub tied : (side_holding channels side).frame_bytes ≡ pending channels side

-- The session handled the frame events that end with a side's last byte.
pub record HandlesFrameEvents (old : SessionView) (side : Side) (items : List FrameEvent) (reported : Note) (new : SessionView) : Type 0 where
  pub verdict : Verdict
  pub right : IsCorrectVerdict old.state.limits.words old.state.limits.max_depth (asked_by old.state side items) verdict
  pub moves : Emits old (items_outcome old.state side items verdict) new
  pub note : reported ≡ note_of (items_outcome old.state side items verdict).effects
  pub frame_bytes : (holding new side).frame_bytes ≡ frame_bytes_after reported (holding old side).frame_bytes
  pub asks : Asks old.state.limits.cap (holding old side) (holding new side)
  pub other_side : holding new (other side) ≡ holding old (other side)
