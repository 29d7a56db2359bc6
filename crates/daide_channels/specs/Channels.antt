-- The receive state of both sides, and the send queues of both wires.
use Rattle.std.specs.Prelude.{◌≡◌, ℕ, ◌+◌, ◌<◌, ◌≤◌, Bool, true, false, ◌||◌, List, [], ◌∷◌, ◌++◌, length, drop}
use Rattle.std.specs.Prelude.{map, Option, Some, None, if◌then◌else◌}
use Rattle.daide_frame.specs.declared.side.Side.{Side}
use Rattle.daide_frame.specs.declared.side.Side.TheVariants.{Bot, Server}
use Rattle.daide_frame.specs.declared.code.Code.{Code}
use Rattle.daide_frame.specs.Frames.{head_in}
use Rattle.daide_grammar.specs.declared.level.Level.{Level}
use Rattle.daide_grammar.specs.declared.level.Level.TheVariants.{L0}
use Rattle.daide_reader.specs.declared.verdict.Verdict.{Verdict}
use Rattle.daide_frame.specs.Side.{other, same_side}
use Rattle.daide_protocol.specs.Machine.{Coming, Sent, destination, fm_bytes, em_bytes}
use Rattle.daide_protocol.specs.Wires.{Holding, is_answer, is_awaited, is_dm_head, parts_after}
use Rattle.daide_channels.specs.declared.send_queue.QueuedFrame.{QueuedFrame}
use Rattle.daide_channels.specs.declared.send_queue.QueuedFrame.TheVariants.{Answer, Fm, Em}
use Rattle.daide_frame.specs.PerSide.{PerSide, at, put}
use Rattle.daide_channels.specs.Receiver.{Receiver, ReaderLimits, StartsFrame, whole_answer, answer_parts}
use Rattle.daide_channels.specs.SendQueue.{Queue}

-- A side's receive state: the bytes since its last whole frame, with the level noted at its last header, and the held
-- bytes. These include a frame whose answer is queued.
pub record ReceiveState : Type 0 where
  pub coming : Coming
  pub holding : Holding

pub record Channels : Type 0 where
  pub cap : ℕ
  pub rules : ReaderLimits
  pub sides : PerSide ReceiveState
  -- the frames queued for each wire, the first perhaps in part
  pub queued : PerSide (List Sent)
  -- the rest of the first frame for each wire, split into the parts in which it is sent
  pub parts : PerSide (List (List ℕ))

abbrev pub pending : Channels → Side → List ℕ
pending t side = (at t.sides side).coming.pending

abbrev pub noted : Channels → Side → Level
noted t side = (at t.sides side).coming.noted

abbrev pub side_holding : Channels → Side → Holding
side_holding t side = (at t.sides side).holding

-- ---- what the calls do

-- nothing received, and nothing queued
pub record IsQuiet (cap : ℕ) (rules : ReaderLimits) (t : Channels) : Type 0 where
  pub cap_set : t.cap ≡ cap
  pub rules_set : t.rules ≡ rules
  pub coming : (side : Side) → (at t.sides side).coming ≡ record { pending = []; noted = L0 }
  pub frame_bytes : (side : Side) → (side_holding t side).frame_bytes ≡ []
  pub unasked : (side : Side) → (side_holding t side).total ≡ 0
  pub unlooked : (side : Side) → (side_holding t side).looked_at ≡ 0
  pub queued : (to : Side) → at t.queued to ≡ []

-- the limits and the other side's receive state are unchanged
pub record Keeps (side : Side) (old new : Channels) : Type 0 where
  pub cap : new.cap ≡ old.cap
  pub rules : new.rules ≡ old.rules
  pub other_side : at new.sides (other side) ≡ at old.sides (other side)

-- A side's frame now has these bytes, and its message was read up to them. Only tokens of a message are looked up.
pub record IsGrown (cap : ℕ) (old : ReceiveState) (bytes : List ℕ) (new : ReceiveState) : Type 0 where
  pub coming : new.coming ≡ record { pending = bytes; noted = old.coming.noted }
  pub frame_bytes : new.holding.frame_bytes ≡ bytes
  pub held_before : old.holding.frame_bytes ≡ old.coming.pending
  pub base : new.holding.total_before ≡ old.holding.total_before
  pub no_message : is_dm_head (head_in cap bytes) ≡ false → new.holding.total ≡ old.holding.total
  pub bodiless : drop 4 bytes ≡ [] → new.holding.total ≡ old.holding.total
  pub uncounted : is_dm_head (head_in cap old.coming.pending) ≡ false → old.holding.total_before ≡ old.holding.total

-- a side's message starts at a level
pub record IsStarted (old : ReceiveState) (level : Level) (new : ReceiveState) : Type 0 where
  pub coming : new.coming ≡ record { pending = old.coming.pending; noted = level }
  pub frame_bytes : new.holding.frame_bytes ≡ old.holding.frame_bytes
  pub total : new.holding.total ≡ old.holding.total
  pub base : new.holding.total_before ≡ old.holding.total
  pub looked_at : new.holding.looked_at ≡ old.holding.looked_at

-- a side's frame has its answer
pub record IsAnswered (old new : ReceiveState) : Type 0 where
  pub coming : new.coming ≡ record { pending = []; noted = old.coming.noted }
  pub frame_bytes : new.holding.frame_bytes ≡ old.holding.frame_bytes
  pub base : new.holding.total_before ≡ old.holding.total_before
  pub looked_at : new.holding.looked_at ≡ old.holding.looked_at

-- a side's frame was dropped
pub record IsCleared (old new : ReceiveState) : Type 0 where
  pub coming : new.coming ≡ record { pending = []; noted = old.coming.noted }
  pub frame_bytes : new.holding.frame_bytes ≡ []
  pub total : new.holding.total ≡ old.holding.total
  pub base : new.holding.total_before ≡ old.holding.total
  pub looked_at : new.holding.looked_at ≡ old.holding.looked_at

-- Queued frames are removed. If a side's answer is among them, nothing is held of that side; otherwise the held bytes
-- stay. No table look-up is made, and the HLO scan reads no token.
pub record ReleasesFrames (old new : Channels) : Type 0 where
  pub cap : new.cap ≡ old.cap
  pub rules : new.rules ≡ old.rules
  pub coming : (side : Side) → (at new.sides side).coming ≡ (at old.sides side).coming
  pub total : (side : Side) → (side_holding new side).total ≡ (side_holding old side).total
  pub looked_at : (side : Side) → (side_holding new side).looked_at ≡ (side_holding old side).looked_at
  pub fewer : (side : Side) → is_awaited (at old.queued) side ≡ false → is_awaited (at new.queued) side ≡ false
  pub gone : (side : Side) → is_awaited (at old.queued) side ≡ true → is_awaited (at new.queued) side ≡ false →
      (side_holding new side).frame_bytes ≡ []
  pub kept : (side : Side) → is_awaited (at new.queued) side ≡ is_awaited (at old.queued) side →
      side_holding new side ≡ side_holding old side

-- a frame is appended to the queue of its wire
abbrev pub posted : PerSide (List Sent) → Sent → PerSide (List Sent)
posted queued frame = put queued frame.to (at queued frame.to ++ frame ∷ [])

abbrev pub is_final_frame : Option Side → Bool
is_final_frame None = true
is_final_frame (Some one) = false

-- whether one of the frames ends the session
abbrev pub has_final_frame : List Sent → Bool
has_final_frame [] = false
has_final_frame (frame ∷ frames) = is_final_frame frame.answers || has_final_frame frames

abbrev pub ending_bytes : Option Code → List ℕ
ending_bytes None = fm_bytes
ending_bytes (Some code) = em_bytes code

-- an FM, or an EM with a code
abbrev pub final_frame_to : Side → Option Code → Sent
final_frame_to to code = record { to = to; answers = None; bytes = ending_bytes code }

-- ---- the abstraction function

pub record Fields : Type 0 where
  pub sides : PerSide Receiver
  pub wires : PerSide Queue

abbrev pub fields : PerSide Receiver → PerSide Queue → Fields
fields sides wires = record { sides = sides; wires = wires }

-- the bytes in a side's answer
abbrev pub answer_at : PerSide Receiver → Side → List ℕ
answer_at sides side = whole_answer (at sides side)

abbrev pub answers_of : QueuedFrame → Option Side
answers_of (Answer side) = Some side
answers_of Fm = None
answers_of (Em code) = None

abbrev pub queued_bytes : (Side → List ℕ) → QueuedFrame → List ℕ
queued_bytes answers (Answer side) = answers side
queued_bytes answers Fm = fm_bytes
queued_bytes answers (Em code) = em_bytes code

abbrev pub frame_of_queued : Side → (Side → List ℕ) → QueuedFrame → Sent
frame_of_queued to answers item = record { to = to; answers = answers_of item; bytes = queued_bytes answers item }

-- the first frame without its first n bytes
abbrev pub drop_sent : ℕ → List Sent → List Sent
drop_sent n [] = []
drop_sent n (frame ∷ frames) = record { to = frame.to; answers = frame.answers; bytes = drop n frame.bytes } ∷ frames

abbrev pub frames_of : Side → (Side → List ℕ) → Queue → List Sent
frames_of to answers queue = drop_sent queue.written (map (frame_of_queued to answers) queue.items)

abbrev pub queued_frames_to : Fields → Side → List Sent
queued_frames_to f to = frames_of to (answer_at f.sides) (at f.wires to)

-- a frame as the parts in which it is sent: an answer in its own parts, an FM or an EM whole
abbrev pub parts_in : PerSide Receiver → QueuedFrame → List (List ℕ)
parts_in sides (Answer side) = answer_parts (at sides side)
parts_in sides Fm = fm_bytes ∷ []
parts_in sides (Em code) = em_bytes code ∷ []

-- the rest of the first frame, in parts
abbrev pub parts_left : PerSide Receiver → ℕ → List QueuedFrame → List (List ℕ)
parts_left sides gone [] = []
parts_left sides gone (item ∷ items) = parts_after gone (parts_in sides item)

abbrev pub parts_to : Fields → Side → List (List ℕ)
parts_to f to = parts_left f.sides (at f.wires to).written (at f.wires to).items

-- while an answer is queued, no byte of the next frame has been received
abbrev pub pending_by : Option Verdict → List ℕ → List ℕ
pending_by None bytes = bytes
pending_by (Some verdict) bytes = []

abbrev pub arrival_of : Receiver → ReceiveState
arrival_of i = record {
  coming = record { pending = pending_by i.verdict i.frame_bytes; noted = i.level };
  holding = record {
    frame_bytes = i.frame_bytes;
    entries = i.entries;
    total = i.total;
    total_before = i.total_before;
    looked_at = i.looked_at;
  };
}

abbrev pub channels_of : Fields → Channels
channels_of f = record {
  cap = f.sides.bot.cap;
  rules = f.sides.bot.rules;
  sides = record { bot = arrival_of f.sides.bot; server = arrival_of f.sides.server };
  queued = record { bot = queued_frames_to f Bot; server = queued_frames_to f Server };
  parts = record { bot = parts_to f Bot; server = parts_to f Server };
}

-- how often a side's answer is queued, and how many queued frames are final
abbrev pub answer_mark : Side → QueuedFrame → ℕ
answer_mark side (Answer one) = if same_side one side then 1 else 0
answer_mark side Fm = 0
answer_mark side (Em code) = 0

abbrev pub final_frame_mark : QueuedFrame → ℕ
final_frame_mark (Answer side) = 0
final_frame_mark Fm = 1
final_frame_mark (Em code) = 1

abbrev pub count_of : (QueuedFrame → ℕ) → List QueuedFrame → ℕ
count_of mark [] = 0
count_of mark (item ∷ items) = mark item + count_of mark items

abbrev pub presence : Option Verdict → ℕ
presence None = 0
presence (Some verdict) = 1

-- the first frame is not completely sent
abbrev pub IsPartlySent : (Side → List ℕ) → ℕ → List QueuedFrame → Type 0
IsPartlySent answers n [] = n ≡ 0
IsPartlySent answers n (item ∷ items) = n < length (queued_bytes answers item)

-- If a side has an answer, it is queued once, for the wire that its verdict selects; otherwise it is not queued. Each
-- wire has at most one final frame, so at most three frames are queued for it.
pub record IsSound (f : Fields) : Type 0 where
  pub its_side : (side : Side) → (at f.sides side).side ≡ side
  pub same_cap : f.sides.server.cap ≡ f.sides.bot.cap
  pub same_rules : f.sides.server.rules ≡ f.sides.bot.rules
  pub once : (side : Side) → count_of (answer_mark side) (at f.wires Bot).items
      + count_of (answer_mark side) (at f.wires Server).items ≡ presence (at f.sides side).verdict
  pub aimed : (side to : Side) (verdict : Verdict) → (at f.sides side).verdict ≡ Some verdict →
      0 < count_of (answer_mark side) (at f.wires to).items → to ≡ destination side verdict
  pub ends : (to : Side) → count_of final_frame_mark (at f.wires to).items ≤ 1
  pub filled : (side : Side) → presence (at f.sides side).verdict ≡ 1 → 0 < length (answer_at f.sides side)
  pub headed : (side : Side) → presence (at f.sides side).verdict ≡ 1 → length (at f.sides side).header ≡ 4
  pub begun : (to : Side) → IsPartlySent (answer_at f.sides) (at f.wires to).written (at f.wires to).items

-- the length of the first frame in bytes, with the bytes already sent
abbrev pub size_of_first : (Side → List ℕ) → List QueuedFrame → ℕ
size_of_first answers [] = 0
size_of_first answers (item ∷ items) = length (queued_bytes answers item)

abbrev pub others : List Sent → List Sent
others [] = []
others (frame ∷ frames) = frames

-- the side whose frame is released when this frame is removed
abbrev pub answered_by : Option QueuedFrame → Option Side
answered_by None = None
answered_by (Some item) = answers_of item

-- the side whose answer was removed begins its next frame, and the other side is unchanged
pub record IsReleased (gone : Option Side) (one : Side) (old new : Receiver) : Type 0 where
  pub its : is_answer one gone ≡ true → StartsFrame old old.level [] new
  pub kept : is_answer one gone ≡ false → new ≡ old

-- the queue entry of an FM, or of an EM with a code
abbrev pub ending_of : Option Code → QueuedFrame
ending_of None = Fm
ending_of (Some code) = Em code
