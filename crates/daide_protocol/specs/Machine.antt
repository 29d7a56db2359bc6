-- A session as a state machine: a state, and the outcome of one event. The state has for each side the bytes since its
-- last whole frame, so the frames from both sides are in the order of their last bytes. The rules are those of
-- docs/PROTOCOL.md, "The session"; a choice of ours is (own).
use Rattle.std.specs.Prelude.{◌≡◌, ℕ, Bool, true, false, List, [], ◌∷◌, ◌++◌}
use Rattle.std.specs.Prelude.{Option, Some, None, is_some, Result, Ok, Err, if◌then◌else◌}
use Rattle.daide_token.specs.Token.{tokens_of}
use Rattle.daide_frame.specs.declared.side.Side.{Side}
use Rattle.daide_frame.specs.declared.side.Side.TheVariants.{Bot, Server}
use Rattle.daide_frame.specs.declared.head.Kind.{Kind}
use Rattle.daide_frame.specs.declared.head.Kind.TheVariants.{Im, Rm, Dm, Fm, Em}
use Rattle.daide_frame.specs.declared.head.Head.{Head}
use Rattle.daide_frame.specs.declared.code.Code.{Code}
use Rattle.daide_frame.specs.declared.code.Code.TheVariants.{ImTimeout, ImNotFirst, SecondIm, ImFromServer}
use Rattle.daide_frame.specs.declared.code.Code.TheVariants.{UnknownMessage, DmBeforeRm, RmNotFirst, SecondRm}
use Rattle.daide_frame.specs.declared.code.Code.TheVariants.{RmFromClient}
use Rattle.daide_frame.specs.PerSide.{PerSide, at, both, put}
use Rattle.daide_frame.specs.Code.{code_number}
use Rattle.daide_frame.specs.Head.{is_im}
use Rattle.daide_frame.specs.InitialMessage.{im_of}
use Rattle.daide_frame.specs.Frames.{FrameEvent, Begun, Whole, Wrong, last_items}
use Rattle.daide_grammar.specs.declared.level.Level.{Level}
use Rattle.daide_grammar.specs.declared.level.Level.TheVariants.{L0}
use Rattle.daide_reader.specs.declared.verdict.Verdict.{Verdict}
use Rattle.daide_reader.specs.declared.verdict.Verdict.TheVariants.{Relay, Prn, Huh}
use Rattle.daide_grammar.specs.declared.side.Side2.{Side2}
use Rattle.daide_grammar.specs.declared.side.Side2.TheVariants.{Client, ServerEnd}
use Rattle.daide_grammar.specs.SideMessages.{IsMessageOver}
use Rattle.daide_grammar.specs.Words.{Words}
use Rattle.daide_reader.specs.Verdict.{HasVerdict}
use Rattle.daide_protocol.specs.declared.phase.Phase.{Phase}
use Rattle.daide_protocol.specs.declared.phase.Phase.TheVariants as Plain
use Rattle.daide_protocol.specs.declared.phase.SessionPhase.{SessionPhase}
use Rattle.daide_protocol.specs.declared.phase.SessionPhase.TheVariants.{WaitIm, WaitRm, Open, Over}
use Rattle.daide_protocol.specs.declared.note.Deed.{Deed}
use Rattle.daide_protocol.specs.declared.note.Deed.TheVariants as Deeds
use Rattle.daide_protocol.specs.declared.note.Note.{Note}
use Rattle.daide_protocol.specs.declared.note.Note.TheVariants as Notes
use Rattle.daide_protocol.specs.declared.ending.Ending.{Ending}
use Rattle.daide_protocol.specs.declared.ending.Ending.TheVariants as Endings
use Rattle.daide_frame.specs.Side.{other}
use Rattle.daide_protocol.specs.Events.{Event, Comes, Ends, Loses, ImTimerExpired, OperatorStops}
use Rattle.daide_protocol.specs.Answers.{answer_bytes}
use Rattle.daide_protocol.specs.HloLevel.{level_reported}

-- ---- the state

-- the operator's settings: the longest body, the highest level of press, the depth limit, and the press words that were
-- added to the grammar
pub record Limits : Type 0 where
  pub cap : ℕ
  pub top_level : Level
  pub max_depth : ℕ
  pub words : Words

-- the input from a side: the bytes since its last whole frame, and the level at the time when the header of its last
-- message was completed
pub record Coming : Type 0 where
  pub pending : List ℕ
  pub noted : Level

pub record SessionState : Type 0 where
  pub limits : Limits
  pub phase : SessionPhase
  pub sides : PerSide Coming

abbrev pub coming : SessionState → Side → Coming
coming state side = at state.sides side

abbrev pub with_coming : SessionState → Side → Coming → SessionState
with_coming state side c = record state { sides = put state.sides side c }

-- the state with other bytes since the last whole frame
abbrev pub with_pending : SessionState → Side → List ℕ → SessionState
with_pending state side bytes = with_coming state side (record (coming state side) { pending = bytes })

-- the state with another recorded level
abbrev pub with_noted : SessionState → Side → Level → SessionState
with_noted state side level = with_coming state side (record (coming state side) { noted = level })

-- the level of press: that of the phase Open, and level 0 before and after it
abbrev pub level_in : SessionPhase → Level
level_in (Open level) = level
level_in _ = L0

abbrev pub is_over : SessionPhase → Bool
is_over (Over ending) = true
is_over _ = false

-- the event that ended the session: none before the phase Over
abbrev pub ending_in : SessionPhase → Option Ending
ending_in (Over ending) = Some ending
ending_in _ = None

-- the phase without its level or its ending, as callers see it
abbrev pub plain_phase : SessionPhase → Phase
plain_phase WaitIm = Plain.WaitIm
plain_phase WaitRm = Plain.WaitRm
plain_phase (Open level) = Plain.Open
plain_phase (Over ending) = Plain.Over

-- the state before any event
abbrev pub initial_state : Limits → SessionState
initial_state limits = record {
  limits = limits;
  phase = WaitIm;
  sides = both (record { pending = []; noted = L0 }) (record { pending = []; noted = L0 });
}

-- ---- the frames that are sent

-- a frame for the wire to a side, with the side whose last frame it is the answer to, if any
pub record Sent : Type 0 where
  pub to : Side
  pub answers : Option Side
  pub bytes : List ℕ

abbrev pub fm_bytes : List ℕ
fm_bytes = 3 ∷ 0 ∷ 0 ∷ 0 ∷ []

abbrev pub em_bytes : Code → List ℕ
em_bytes code = 4 ∷ 0 ∷ 0 ∷ 2 ∷ 0 ∷ code_number code ∷ []

-- before the IM was relayed nothing is sent to the server (own)
abbrev pub may_reach : SessionPhase → Side → Bool
may_reach WaitIm Server = false
may_reach _ _ = true

-- an FM, if that side may be reached
abbrev pub fm_to : SessionPhase → Side → List Sent
fm_to phase side = if may_reach phase side then record { to = side; answers = None; bytes = fm_bytes } ∷ [] else []

abbrev pub em_to : Side → Code → Sent
em_to side code = record { to = side; answers = None; bytes = em_bytes code }

-- ---- effects

-- one effect: what it reports, and the frames that it sends
pub record Effect : Type 0 where
  pub reported : Note
  pub sent : List Sent

-- the outcome of a frame event or an event: the state after it, and the effects
pub record Successor : Type 0 where
  pub state : SessionState
  pub effects : List Effect

-- no effect
abbrev pub nothing : SessionState → Successor
nothing state = record { state = state; effects = [] }

-- one effect
abbrev pub one_effect : SessionState → Note → List Sent → Successor
one_effect state reported sent = record { state = state; effects = record { reported = reported; sent = sent } ∷ [] }

-- a fault by a side: an EM to it, an FM to the other
abbrev pub fault : SessionState → Side → Code → Successor
fault state side code =
    one_effect (record state { phase = Over (Endings.Fault side code) }) (Notes.Fault code)
    (em_to side code ∷ fm_to state.phase (other side))

-- a side's stream ended or its wire failed: an FM to the other side; an incomplete frame is dropped
abbrev pub end : SessionState → Ending → Side → Successor
end state ending side =
    one_effect (record state { phase = Over ending }) Notes.Nothing (fm_to state.phase (other side))

-- the operator stopped the session: an FM to each side (own)
abbrev pub stop : SessionState → Successor
stop state =
    one_effect (record state { phase = Over Endings.Stopped }) Notes.Stopped
    (fm_to state.phase Bot ++ fm_to state.phase Server)

-- ---- a header

-- The code for a header that is not permitted now, by phase, side and kind; every other header is permitted. That an RM
-- as the bot's first frame is 02 and not 0D, and an RM of the server before the IM is 08, is (own).
abbrev pub untimely : SessionPhase → Side → Kind → Option Code
untimely WaitIm Bot Rm = Some ImNotFirst
untimely WaitIm Bot Dm = Some ImNotFirst
untimely WaitIm Server Im = Some ImFromServer
untimely WaitIm Server Rm = Some UnknownMessage
untimely WaitIm Server Dm = Some RmNotFirst
untimely WaitRm Bot Im = Some SecondIm
untimely WaitRm Bot Rm = Some RmFromClient
untimely WaitRm Bot Dm = Some DmBeforeRm
untimely WaitRm Server Im = Some ImFromServer
untimely WaitRm Server Dm = Some RmNotFirst
untimely (Open level) Bot Im = Some SecondIm
untimely (Open level) Bot Rm = Some RmFromClient
untimely (Open level) Server Im = Some ImFromServer
untimely (Open level) Server Rm = Some SecondRm
untimely _ _ _ = None

-- a whole header: it is a fault, or the current level is recorded, by which the message will be judged (own)
abbrev pub header_outcome : SessionState → Side → Option Code → Successor
header_outcome state side None = nothing (with_noted state side (level_in state.phase))
header_outcome state side (Some code) = fault state side code

-- ---- a whole frame

abbrev pub is_dm : Kind → Bool
is_dm Dm = true
is_dm _ = false

-- the destination of the answer to a side's frame: the other side, or its sender
abbrev pub destination : Side → Verdict → Side
destination side Relay = other side
destination side _ = side

-- The phase after a side's frame of a kind was processed. An IM and an RM open the next one, the latter at level 0. A
-- relayed HLO of the server sets the level. Only an FM or an EM ends the session.
abbrev pub phase_after : Level → Kind → Side → Verdict → List ℕ → SessionPhase → SessionPhase
phase_after top Im side verdict tokens phase = WaitRm
phase_after top Rm side verdict tokens phase = Open L0
phase_after top Dm Server Relay tokens (Open level) = Open (level_reported top tokens level)
phase_after top Dm side verdict tokens phase = phase
phase_after top Fm side verdict tokens phase = Over (Endings.Final side)
phase_after top Em side verdict tokens phase = Over (Endings.Error side)

-- whether the answer is sent: that to an FM or EM of the bot before the IM is not. (No RM or DM is whole then, since
-- its header is untimely.)
abbrev pub is_sent : SessionPhase → Kind → Side → Bool
is_sent phase Fm to = may_reach phase to
is_sent phase Em to = may_reach phase to
is_sent phase _ to = true

abbrev pub deed_of : Bool → Verdict → Deed
deed_of false verdict = Deeds.Dropped
deed_of true Relay = Deeds.Relayed
deed_of true Prn = Deeds.Prn
deed_of true (Huh place) = Deeds.Huh place

abbrev pub reply_to : Side → Head → List ℕ → Verdict → Sent
reply_to side head body verdict =
    record { to = destination side verdict; answers = Some side; bytes = answer_bytes head body verdict }

-- the answer to a frame: the frame itself, relayed; but a DM by its verdict, which is Relay for every other kind
abbrev pub answered : SessionState → Side → Head → List ℕ → Verdict → Successor
answered state side head body verdict =
    let goes = is_sent state.phase head.kind (destination side verdict) in
    let phase = phase_after state.limits.top_level head.kind side verdict (tokens_of body) state.phase in
    one_effect (record (with_pending state side []) { phase = phase }) (Notes.Frame head (deed_of goes verdict))
    (if goes then reply_to side head body verdict ∷ [] else [])

-- an IM is checked first
abbrev pub im_answered : Successor → SessionState → Side → Result (Unit {0}) Code → Successor
im_answered good state side (Ok nothing) = good
im_answered good state side (Err code) = fault state side code

abbrev pub frame_outcome : SessionState → Side → Head → List ℕ → Verdict → Successor
frame_outcome state side head body verdict =
    if is_im head.kind then im_answered (answered state side head body verdict) state side (im_of body)
    else answered state side head body verdict

-- ---- events

abbrev pub item_outcome : SessionState → Side → FrameEvent → Verdict → Successor
item_outcome state side (Begun head) verdict = header_outcome state side (untimely state.phase side head.kind)
item_outcome state side (Whole head body) verdict = frame_outcome state side head body verdict
item_outcome state side (Wrong code) verdict = fault state side code

-- the frame events from a side in order; once the session is over nothing happens
abbrev pub items_outcome : SessionState → Side → List FrameEvent → Verdict → Successor
items_outcome state side [] verdict = nothing state
items_outcome state side (item ∷ items) verdict =
    if is_over state.phase then nothing state
    else (let first = item_outcome state side item verdict in
    let more = items_outcome first.state side items verdict in
    record { state = more.state; effects = first.effects ++ more.effects })

-- the frame events that end with the last byte from a side
abbrev pub byte_outcome : SessionState → Side → List ℕ → Verdict → Successor
byte_outcome state side bytes verdict =
    items_outcome (with_pending state side bytes) side (last_items state.limits.cap bytes) verdict

-- the IM timer: in the phase WaitIm a fault of the bot
abbrev pub im_timer_expired : SessionPhase → SessionState → Successor
im_timer_expired WaitIm state =
    one_effect (record state { phase = Over (Endings.Fault Bot ImTimeout) }) (Notes.Fault ImTimeout)
    (em_to Bot ImTimeout ∷ [])
im_timer_expired _ state = nothing state

abbrev pub event_outcome : SessionState → Event → Verdict → Successor
event_outcome state (Comes side byte) verdict =
    if is_over state.phase then nothing state
    else byte_outcome state side ((coming state side).pending ++ byte ∷ []) verdict
event_outcome state (Ends side) verdict =
    if is_over state.phase then nothing state else end state (Endings.Ended side) side
event_outcome state (Loses side) verdict =
    if is_over state.phase then nothing state else end state (Endings.Lost side) side
event_outcome state ImTimerExpired verdict = im_timer_expired state.phase state
event_outcome state OperatorStops verdict = if is_over state.phase then nothing state else stop state

-- ---- the verdict

-- a message to be judged: its side and its level
pub record Question : Type 0 where
  pub side : Side
  pub level : Level
  pub message : List ℕ

abbrev pub question_of : Side → Level → Head → List ℕ → Option Question
question_of side level head body =
    if is_dm head.kind then Some (record { side = side; level = level; message = tokens_of body }) else None

-- by the level recorded at the header, or by the current one if the header ends here too; a message with an untimely
-- header is not judged
abbrev pub question_in : Side → Level → Level → (Kind → Option Code) → List FrameEvent → Option Question
question_in side noted now refusal (Whole head body ∷ items) = question_of side noted head body
question_in side noted now refusal (Begun head ∷ Whole again body ∷ items) =
    if is_some (refusal head.kind) then None else question_of side now again body
question_in side noted now refusal _ = None

abbrev pub asked_by : SessionState → Side → List FrameEvent → Option Question
asked_by state side items =
    question_in side (coming state side).noted (level_in state.phase) (untimely state.phase side) items

-- the message that is judged at an event, if any
abbrev pub question : SessionState → Event → Option Question
question state (Comes side byte) =
    if is_over state.phase then None
    else asked_by state side (last_items state.limits.cap ((coming state side).pending ++ byte ∷ []))
question state _ = None

-- the gateway is the server to the bot, and the client to the server
abbrev pub side2_of : Side → Side2
side2_of Bot = Client
side2_of Server = ServerEnd

-- if a message is judged, the verdict is that of the grammar with the operator's words
abbrev pub IsCorrectVerdict : Words → ℕ → Option Question → Verdict → Type 0
IsCorrectVerdict words max_depth None verdict = verdict ≡ Relay
IsCorrectVerdict words max_depth (Some q) verdict =
    HasVerdict (IsMessageOver words (side2_of q.side) q.level) max_depth q.message verdict

-- ---- runs

-- the machine goes from old to new at this event, with these effects
pub record Transition (old : SessionState) (event : Event) (effects : List Effect) (new : SessionState) : Type 0 where
  pub verdict : Verdict
  pub right : IsCorrectVerdict old.limits.words old.limits.max_depth (question old event) verdict
  pub outcome : event_outcome old event verdict ≡ record { state = new; effects = effects }

-- the machine goes from old to new at these events, with these effects
abbrev pub Runs : SessionState → List Event → List Effect → SessionState → Type 0
Runs old [] effects new = (effects ≡ []) × (new ≡ old)
Runs old (event ∷ events) effects new =
    (mid : SessionState) × (first : List Effect) × (rest : List Effect)
    × Transition old event first mid × Runs mid events rest new × (effects ≡ first ++ rest)
