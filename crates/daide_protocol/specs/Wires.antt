-- A session as its callers see it: its state, the send queue of each wire, and what it holds from each side; and the
-- effect of each call on these.
use Rattle.std.specs.Prelude.{◌≡◌, ℕ, ◌+◌, ◌-◌, ◌/◌, ◌%◌, ◌^◌, ◌<◌, Bool, true, false, ◌||◌, ◌&&◌, nat_lt}
use Rattle.std.specs.Prelude.{List, [], ◌∷◌, ◌++◌, length, drop, Option, Some, None, if◌then◌else◌}
use Rattle.daide_frame.specs.declared.side.Side.{Side}
use Rattle.daide_frame.specs.declared.side.Side.TheVariants.{Bot, Server}
use Rattle.daide_frame.specs.declared.head.Head.{Head}
use Rattle.daide_frame.specs.PerSide.{PerSide, at}
use Rattle.daide_frame.specs.Frames.{fed, head_in, missing}
use Rattle.daide_grammar.specs.Bounds.{message_steps}
use Rattle.daide_reader.specs.Reading.{IsRaised}
use Rattle.daide_protocol.specs.declared.note.Deed.TheVariants as Deeds
use Rattle.daide_protocol.specs.declared.note.Note.{Note}
use Rattle.daide_protocol.specs.declared.note.Note.TheVariants as Notes
use Rattle.daide_frame.specs.Side.{other, same_side}
use Rattle.daide_protocol.specs.Events.{Event, Loses}
use Rattle.daide_protocol.specs.declared.account.Account.{Account}
use Rattle.daide_protocol.specs.Account.{nothing_accounted, accounted}
use Rattle.daide_protocol.specs.Machine.{Sent, Effect, SessionState, Limits, Runs, coming, is_dm, is_over, initial_state}

-- ---- the frames on a wire

-- the frames for the wire to a side
abbrev pub frames_to : Side → List Sent → List Sent
frames_to side [] = []
frames_to side (frame ∷ frames) =
    if same_side frame.to side then frame ∷ frames_to side frames else frames_to side frames

-- the frames that effects send to a side
abbrev pub sent_to : Side → List Effect → List Sent
sent_to side [] = []
sent_to side (effect ∷ effects) = frames_to side effect.sent ++ sent_to side effects

-- the concatenated bytes of frames
abbrev pub sent_bytes : List Sent → List ℕ
sent_bytes [] = []
sent_bytes (frame ∷ frames) = frame.bytes ++ sent_bytes frames

abbrev pub note_or : Note → Note → Note
note_or Notes.Nothing later = later
note_or (Notes.Frame head deed) later = Notes.Frame head deed
note_or (Notes.Fault code) later = Notes.Fault code
note_or Notes.Stopped later = Notes.Stopped

-- the first report of some effects other than Nothing
abbrev pub note_of : List Effect → Note
note_of [] = Notes.Nothing
note_of (effect ∷ effects) = note_or effect.reported (note_of effects)

-- ---- the abstract value of a session

-- What is held from a side: the bytes of its frame, also while the answer to it is queued; the height of its reader's
-- stack; the look-ups of its reader's table, in all and before the current message; and the number of tokens examined
-- for the level of an HLO. The last three are modulo 2^64.
pub record Holding : Type 0 where
  pub frame_bytes : List ℕ
  pub entries : ℕ
  pub total : ℕ
  pub total_before : ℕ
  pub looked_at : ℕ

pub record SessionView : Type 0 where
  pub state : SessionState
  -- the queued frames of each wire; the first may be partly sent
  pub wires : PerSide (List Sent)
  -- the rest of the first of them, in the parts in which it is handed over
  pub parts : PerSide (List (List ℕ))
  -- what is held of each side
  pub sides : PerSide Holding
  -- its effects, counted by side, and the level that was last in force
  pub account : Account

-- the account of a session after these effects
abbrev pub account_after : SessionView → List Effect → Account
account_after g effects = accounted g.state.limits.top_level effects g.account

abbrev pub queued : SessionView → Side → List Sent
queued g side = at g.wires side

abbrev pub parts_of : SessionView → Side → List (List ℕ)
parts_of g side = at g.parts side

-- the first of these parts that is not empty
abbrev pub next_part : List (List ℕ) → List ℕ
next_part [] = []
next_part ([] ∷ parts) = next_part parts
next_part ((byte ∷ part) ∷ parts) = byte ∷ part

-- the rest of these parts after n bytes
abbrev pub parts_after : ℕ → List (List ℕ) → List (List ℕ)
parts_after n [] = []
parts_after n (part ∷ parts) = drop n part ∷ parts_after (n - length part) parts

-- the next bytes for a wire: a prefix of its first frame, empty exactly if its queue is
abbrev pub front_of : SessionView → Side → List ℕ
front_of g side = next_part (parts_of g side)

abbrev pub holding : SessionView → Side → Holding
holding g side = at g.sides side

abbrev pub is_answer : Side → Option Side → Bool
is_answer side None = false
is_answer side (Some one) = same_side one side

-- whether one of the frames is the answer to a side's last frame
abbrev pub has_answer : Side → List Sent → Bool
has_answer side [] = false
has_answer side (frame ∷ frames) = is_answer side frame.answers || has_answer side frames

-- whether an answer to a side's last frame is queued for one of the two wires
abbrev pub is_awaited : (Side → List Sent) → Side → Bool
is_awaited wires side = has_answer side (wires Bot) || has_answer side (wires Server)

-- the number of bytes that are accepted next from a side: 0 if an answer to its last frame is queued or the session is
-- over; otherwise the bytes missing of the header or the body
unfoldable pub room_of : SessionView → Side → ℕ
room_of g side =
    if is_over g.state.phase || is_awaited (queued g) side then 0
    else missing g.state.limits.cap (coming g.state side).pending

abbrev pub no_frame : List Sent → Bool
no_frame [] = true
no_frame (frame ∷ frames) = false

-- over, and both queues are empty
abbrev pub is_closed : SessionView → Bool
is_closed g = is_over g.state.phase && (no_frame g.wires.bot && no_frame g.wires.server)

-- the queue after n bytes of its first frame were sent; a frame that was sent whole is removed
abbrev pub without : ℕ → List Sent → List Sent
without n [] = []
without n (frame ∷ frames) =
    if nat_lt n (length frame.bytes)
    then record { to = frame.to; answers = frame.answers; bytes = drop n frame.bytes } ∷ frames
    else frames

-- the number of bytes left of the first frame
abbrev pub first_len : List Sent → ℕ
first_len [] = 0
first_len (frame ∷ frames) = length frame.bytes

-- xs is a prefix of the first queued frame, and empty only if the queue is
abbrev pub IsFrontOf : List ℕ → List Sent → Type 0
IsFrontOf xs [] = xs ≡ []
IsFrontOf xs (frame ∷ frames) = (0 < length xs) × ((rest : List ℕ) × (frame.bytes ≡ xs ++ rest))

-- ---- the effect of a call

-- a new session: no event, nothing held, nothing queued, no look-up, no token examined and no effect counted
pub record IsNew (limits : Limits) (g : SessionView) : Type 0 where
  pub state : g.state ≡ initial_state limits
  pub quiet : (side : Side) → queued g side ≡ []
  pub frame_bytes : (side : Side) → (holding g side).frame_bytes ≡ []
  pub unasked : (side : Side) → (holding g side).total ≡ 0
  pub unlooked : (side : Side) → (holding g side).looked_at ≡ 0
  pub uncounted : g.account ≡ nothing_accounted

-- At these events the session goes from old to new and reports this note. The frames that they cause are appended to
-- the queues, and the effects are counted.
pub record Refines (old : SessionView) (events : List Event) (reported : Note) (new : SessionView) : Type 0 where
  pub effects : List Effect
  pub run : Runs old.state events effects new.state
  pub kept : (side : Side) → queued new side ≡ queued old side ++ sent_to side effects
  pub note : reported ≡ note_of effects
  pub counts : new.account ≡ account_after old effects

-- If a side's answer is gone, nothing is held from it; otherwise what is held is unchanged. No table made a look-up.
pub record Releases (old new : SessionView) : Type 0 where
  pub gone : (side : Side) → is_awaited (queued old) side ≡ true → is_awaited (queued new) side ≡ false →
      ((holding new side).frame_bytes ≡ []) × ((holding new side).total ≡ (holding old side).total)
  pub kept : (side : Side) → is_awaited (queued new) side ≡ is_awaited (queued old) side →
      holding new side ≡ holding old side

-- One event, after which the session is over and the queue of the failed wire is empty.
pub record Lost (old : SessionView) (side : Side) (new : SessionView) : Type 0 where
  pub effects : List Effect
  pub run : Runs old.state (Loses side ∷ []) effects new.state
  pub dropped : queued new side ≡ []
  pub other_wire : queued new (other side) ≡ queued old (other side) ++ sent_to (other side) effects
  pub over : is_over new.state.phase ≡ true
  pub counts : new.account ≡ account_after old effects
  pub frame_bytes : Releases old new

-- a wire took n bytes of its queue, and the rest of the state and the wires is unchanged
pub record Wrote (old : SessionView) (side : Side) (n : ℕ) (new : SessionView) : Type 0 where
  pub same_state : new.state ≡ old.state
  pub taken : queued new side ≡ without n (queued old side)
  pub front_bytes : sent_bytes (queued new side) ≡ drop n (sent_bytes (queued old side))
  pub other_wire : queued new (other side) ≡ queued old (other side)
  pub counts : new.account ≡ old.account
  pub frame_bytes : Releases old new

-- ---- what is held after a call

-- the number of look-ups for the current message, modulo 2^64
abbrev pub steps_of : Holding → ℕ
steps_of h = (h.total + (2 ^ 64 - h.total_before)) % 2 ^ 64

abbrev pub is_dm_head : Option Head → Bool
is_dm_head None = false
is_dm_head (Some head) = is_dm head.kind

-- the held bytes of a frame after more of them arrived: none if the frame is dropped
abbrev pub frame_bytes_after : Note → List ℕ → List ℕ
frame_bytes_after Notes.Nothing bytes = bytes
frame_bytes_after (Notes.Frame head Deeds.Relayed) bytes = bytes
frame_bytes_after (Notes.Frame head Deeds.Dropped) bytes = []
frame_bytes_after (Notes.Frame head Deeds.Prn) bytes = bytes
frame_bytes_after (Notes.Frame head (Deeds.Huh place)) bytes = bytes
frame_bytes_after (Notes.Fault code) bytes = bytes
frame_bytes_after Notes.Stopped bytes = bytes

-- the count before the current message: the total at the time when a message's header was completed
abbrev pub counts_from : Option Head → Option Head → Holding → ℕ
counts_from None None h = h.total_before
counts_from None (Some head) h = if is_dm head.kind then h.total else h.total_before
counts_from (Some head) later h = h.total_before

-- the bytes of a frame and more of them, up to the end of the frame
abbrev pub grown : SessionView → Side → List ℕ → List ℕ
grown g side piece = fed g.state.limits.cap (holding g side).frame_bytes piece

-- the header of a frame with these bytes, once it is whole and good
abbrev pub head_by : SessionView → List ℕ → Option Head
head_by g bytes = head_in g.state.limits.cap bytes

-- the maximum number of look-ups for a piece: four for each token that it completes or begins, and four at a message's
-- end
abbrev pub asked_at_most : List ℕ → ℕ
asked_at_most piece = message_steps (length piece / 2 + 1) true

-- the maximum number of tokens that are examined for the level of an HLO: those that a piece may complete
abbrev pub looked_at_most : List ℕ → ℕ
looked_at_most piece = length piece / 2 + 1

-- Bytes arrived from a side, and its frame has them. Its table made look-ups only for a message: each token was read
-- once on arrival, and examined once for the level of an HLO. What is held from the other side is unchanged. Without a
-- byte nothing changed.
pub record ReceivesBytes (old : SessionView) (side : Side) (piece : List ℕ) (reported : Note) (new : SessionView) : Type 0 where
  pub nothing : piece ≡ [] → holding new side ≡ holding old side
  pub bytes : (holding new side).frame_bytes ≡ frame_bytes_after reported (grown old side piece)
  pub base : (holding new side).total_before
      ≡ counts_from (head_by old (holding old side).frame_bytes) (head_by old (grown old side piece)) (holding old side)
  pub no_message : is_dm_head (head_by old (grown old side piece)) ≡ false →
      (holding new side).total ≡ (holding old side).total
  pub raised : IsRaised (asked_at_most piece) (holding old side).total (holding new side).total
  pub looked_at : IsRaised (looked_at_most piece) (holding old side).looked_at (holding new side).looked_at
  pub other_side : holding new (other side) ≡ holding old (other side)

-- what is held is unchanged
abbrev pub HoldsTheSame : SessionView → SessionView → Type 0
HoldsTheSame old new = (new.sides.bot ≡ old.sides.bot) × (new.sides.server ≡ old.sides.server)

-- no table made a look-up
abbrev pub AsksNothing : SessionView → SessionView → Type 0
AsksNothing old new = (side : Side) → (holding new side).total ≡ (holding old side).total

-- no token was examined for the level of an HLO
abbrev pub LooksAtNothing : SessionView → SessionView → Type 0
LooksAtNothing old new = (side : Side) → (holding new side).looked_at ≡ (holding old side).looked_at
