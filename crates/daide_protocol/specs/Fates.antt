-- The inputs of a session, each with its one fate, by docs/PROTOCOL.md, "The session" and "Verdicts".
use Rattle.std.specs.Prelude.{◌≡◌, ℕ, false, List, [], ◌∷◌, ◌++◌, Option, Some, None, Result, Ok, Err}
use Rattle.std.specs.Prelude.{if◌then◌else◌}
use Rattle.daide_token.specs.Token.{tokens_of}
use Rattle.daide_frame.specs.declared.side.Side.{Side}
use Rattle.daide_frame.specs.declared.side.Side.TheVariants.{Bot, Server}
use Rattle.daide_frame.specs.declared.head.Kind.{Kind}
use Rattle.daide_frame.specs.declared.head.Kind.TheVariants.{Im, Rm, Dm, Fm, Em}
use Rattle.daide_frame.specs.declared.head.Head.{Head}
use Rattle.daide_frame.specs.declared.code.Code.{Code}
use Rattle.daide_frame.specs.declared.code.Code.TheVariants.{ImTimeout}
use Rattle.daide_frame.specs.Head.{is_im, head_bytes}
use Rattle.daide_frame.specs.InitialMessage.{im_of}
use Rattle.daide_frame.specs.Frames.{FrameEvent, Begun, Whole, Wrong, is_whole_frame, frame_events_of, last_items, cut}
use Rattle.daide_grammar.specs.declared.level.Level.{Level}
use Rattle.daide_grammar.specs.SideMessages.{IsMessageOver}
use Rattle.daide_reader.specs.declared.verdict.Verdict.{Verdict}
use Rattle.daide_reader.specs.declared.verdict.Verdict.TheVariants.{Relay, Prn, Huh}
use Rattle.daide_reader.specs.Verdict.{HasVerdict}
use Rattle.daide_protocol.specs.declared.phase.SessionPhase.{SessionPhase}
use Rattle.daide_protocol.specs.declared.phase.SessionPhase.TheVariants.{WaitIm}
use Rattle.daide_protocol.specs.Answers.{answer_bytes}
use Rattle.daide_frame.specs.Side.{other, same_side}
use Rattle.daide_protocol.specs.Events.{Event, Comes, Ends, Loses, ImTimerExpired, OperatorStops}
use Rattle.daide_protocol.specs.Machine.{Limits, SessionState, Sent, Effect, Runs, coming, level_in, is_over, untimely, em_to}
use Rattle.daide_protocol.specs.Machine.{fm_to, may_reach, side2_of, initial_state}
use Rattle.daide_protocol.specs.Heard.{bytes_from}

-- ---- the inputs

-- an input of a session
pub data EventCause : Type 0 where
  -- a whole frame from a side, with the level at the time when its header was completed
  Frame : (side : Side) → (noted : Level) → (head : Head) → (body : List ℕ) → EventCause
  -- a header, a body or an initial message from a side that is wrong, or not permitted in this phase
  Fault : (side : Side) → (code : Code) → EventCause
  -- a side's stream ended, or the wire to it failed
  End : (side : Side) → EventCause
  -- the IM timer expired
  Timeout : EventCause
  -- the operator stopped the session
  Stop : EventCause

-- an input, with the phase in which it arrives
pub record Came : Type 0 where
  pub phase : SessionPhase
  pub cause : EventCause

abbrev pub checked_frame : Side → Level → Head → List ℕ → Result (Unit {0}) Code → EventCause
checked_frame side noted head body (Ok nothing) = Frame side noted head body
checked_frame side noted head body (Err code) = Fault side code

-- a whole frame; an IM is checked
abbrev pub frame_cause : Side → Level → Head → List ℕ → EventCause
frame_cause side noted head body = checked_frame side noted head body (if is_im head.kind then im_of body else Ok tt)

abbrev pub fault_or : Side → Option Code → Option EventCause → Option EventCause
fault_or side None later = later
fault_or side (Some code) later = Some (Fault side code)

-- The input made of the frame events that end with one byte. A permitted header records the current level.
abbrev pub items_cause : Side → Level → Level → (Kind → Option Code) → List FrameEvent → Option EventCause
items_cause side noted now refusal [] = None
items_cause side noted now refusal (Begun head ∷ items) =
    fault_or side (refusal head.kind) (items_cause side now now refusal items)
items_cause side noted now refusal (Whole head body ∷ items) = Some (frame_cause side noted head body)
items_cause side noted now refusal (Wrong code ∷ items) = Some (Fault side code)

abbrev pub timeout_in : SessionPhase → Option EventCause
timeout_in WaitIm = Some Timeout
timeout_in _ = None

-- the input of an event, if it has one; none once the session is over
abbrev pub cause_at : SessionState → Event → Option EventCause
cause_at state (Comes side byte) =
    if is_over state.phase then None
    else items_cause side (coming state side).noted (level_in state.phase) (untimely state.phase side)
    (last_items state.limits.cap ((coming state side).pending ++ byte ∷ []))
cause_at state (Ends side) = if is_over state.phase then None else Some (End side)
cause_at state (Loses side) = if is_over state.phase then None else Some (End side)
cause_at state ImTimerExpired = timeout_in state.phase
cause_at state OperatorStops = if is_over state.phase then None else Some Stop

abbrev pub came_in_phase : SessionPhase → Option EventCause → List Came
came_in_phase phase None = []
came_in_phase phase (Some cause) = record { phase = phase; cause = cause } ∷ []

-- all inputs of a run, in the order in which they were completed
abbrev pub came_in : (old : SessionState) (events : List Event) (effects : List Effect) (new : SessionState) →
    Runs old events effects new → List Came
came_in old [] effects new run = []
came_in old (event ∷ events) effects new run =
    came_in_phase old.phase (cause_at old event) ++ came_in run.0 events run.2 new run.4

-- ---- the fate of an input

-- a side's frame that is relayed to the other side, and the answer that a side gets to a frame of its own
abbrev pub passed_on : Side → Head → List ℕ → Sent
passed_on side head body = record { to = other side; answers = Some side; bytes = head_bytes head ++ body }

abbrev pub given_back : Side → Head → List ℕ → Verdict → Sent
given_back side head body verdict =
    record { to = side; answers = Some side; bytes = answer_bytes head body verdict }

-- the verdict on a side's message at a level
abbrev pub IsJudged : Limits → Side → Level → List ℕ → Verdict → Type 0
IsJudged limits side noted body verdict =
    HasVerdict (IsMessageOver limits.words (side2_of side) noted) limits.max_depth (tokens_of body) verdict

-- The one fate of a message: it is relayed if the grammar has it. It is returned to its sender within PRN if its
-- brackets are not paired. It is returned within HUH if they are and the grammar doesn't have it.
pub data IsMessageFate (limits : Limits) (side : Side) (noted : Level) (head : Head) (body : List ℕ)
    (sent : List Sent) : Type 0 where
  is_passed_on : IsJudged limits side noted body Relay → sent ≡ passed_on side head body ∷ [] →
      IsMessageFate limits side noted head body sent
  is_answered_prn : IsJudged limits side noted body Prn → sent ≡ given_back side head body Prn ∷ [] →
      IsMessageFate limits side noted head body sent
  is_answered_huh : (place : ℕ) → IsJudged limits side noted body (Huh place) →
      sent ≡ given_back side head body (Huh place) ∷ [] → IsMessageFate limits side noted head body sent

-- every other frame is relayed, except for an FM or EM of the bot before the IM
abbrev pub IsFrameFate : Kind → Limits → SessionPhase → Side → Level → Head → List ℕ → List Sent → Type 0
IsFrameFate Im limits phase side noted head body sent = sent ≡ passed_on side head body ∷ []
IsFrameFate Rm limits phase side noted head body sent = sent ≡ passed_on side head body ∷ []
IsFrameFate Dm limits phase side noted head body sent = IsMessageFate limits side noted head body sent
IsFrameFate Fm limits phase side noted head body sent =
    sent ≡ (if may_reach phase (other side) then passed_on side head body ∷ [] else [])
IsFrameFate Em limits phase side noted head body sent =
    sent ≡ (if may_reach phase (other side) then passed_on side head body ∷ [] else [])

-- A side with a fault gets an EM, and the other side an FM. At an end the other side gets an FM. At the expiry of the
-- IM timer the bot gets an EM. At a stop each side gets an FM. No FM is sent to the server before the IM.
abbrev pub IsFate : Limits → SessionPhase → EventCause → List Sent → Type 0
IsFate limits phase (Frame side noted head body) sent = IsFrameFate head.kind limits phase side noted head body sent
IsFate limits phase (Fault side code) sent = sent ≡ em_to side code ∷ fm_to phase (other side)
IsFate limits phase (End side) sent = sent ≡ fm_to phase (other side)
IsFate limits phase Timeout sent = sent ≡ em_to Bot ImTimeout ∷ []
IsFate limits phase Stop sent = sent ≡ fm_to phase Bot ++ fm_to phase Server

-- one effect for each input, in their order
abbrev pub HaveFates : Limits → List Came → List Effect → Type 0
HaveFates limits [] effects = effects ≡ []
HaveFates limits (came ∷ more) [] = ⊥
HaveFates limits (came ∷ more) (effect ∷ effects) =
    IsFate limits came.phase came.cause effect.sent × HaveFates limits more effects

-- ---- the frames from a side

-- the whole frames among some frame events
abbrev pub frames_among : List FrameEvent → List FrameEvent
frames_among [] = []
frames_among (item ∷ items) = if is_whole_frame item then item ∷ frames_among items else frames_among items

abbrev pub whole_frame_from : Side → EventCause → List FrameEvent
whole_frame_from side (Frame from noted head body) = if same_side from side then Whole head body ∷ [] else []
whole_frame_from side (Fault from code) = []
whole_frame_from side (End from) = []
whole_frame_from side Timeout = []
whole_frame_from side Stop = []

-- the whole frames from a side among the inputs
abbrev pub frames_from : Side → List Came → List FrameEvent
frames_from side [] = []
frames_from side (came ∷ more) = whole_frame_from side came.cause ++ frames_from side more

-- ---- each message has one fate

-- In any run each input has one fate. The fates are all the effects, in the order of the inputs. The whole frames from
-- a side among the inputs are those of the cut of all its bytes: every one while the session is not over, and those
-- before its end once it is.
pub record HasOneFateEach (limits : Limits) (events : List Event) (effects : List Effect) (new : SessionState)
    (run : Runs (initial_state limits) events effects new) : Type 0 where
  pub fates : HaveFates limits (came_in (initial_state limits) events effects new run) effects
  pub frames : (side : Side) → (later : List FrameEvent)
      × (frames_among (frame_events_of (cut limits.cap (bytes_from side events)))
      ≡ frames_from side (came_in (initial_state limits) events effects new run) ++ later)
      × (is_over new.phase ≡ false → later ≡ [])

-- Each message is relayed, or gets PRN, or gets HUH, once, in order, unless the session ended before. Only IM, RM, FM
-- and EM are sent besides, for their causes.
abbrev pub EachMessageHasOneFate : Type 0
EachMessageHasOneFate = (limits : Limits) (events : List Event) (effects : List Effect) (new : SessionState)
    (run : Runs (initial_state limits) events effects new) → HasOneFateEach limits events effects new run
