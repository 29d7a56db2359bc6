-- Two joined gateways: the bytes that the first sends to a side arrive at the next as the bytes of its other side. Each
-- gateway follows docs/PROTOCOL.md, "The session"; that two are joined is (own).
use Rattle.std.specs.Prelude.{◌≡◌, ℕ, ◌≤◌, true, List, [], ◌∷◌, ◌++◌}
use Rattle.daide_frame.specs.declared.side.Side.{Side}
use Rattle.daide_frame.specs.declared.side.Side.TheVariants.{Bot}
use Rattle.daide_frame.specs.declared.head.Kind.TheVariants.{Dm}
use Rattle.daide_frame.specs.Head.{head_bytes}
use Rattle.daide_frame.specs.Frames.{FrameEvent, Begun, Whole, Wrong}
use Rattle.daide_grammar.specs.declared.level.Level.{Level}
use Rattle.daide_reader.specs.declared.verdict.Verdict.{Verdict}
use Rattle.daide_words.specs.declared.word.Word.{Word}
use Rattle.daide_words.specs.Accepted.{are_accepted}
use Rattle.daide_words.specs.Word.{grammar_words}
use Rattle.daide_protocol.specs.Bounds.{longest_body}
use Rattle.daide_frame.specs.Side.{other}
use Rattle.daide_protocol.specs.Events.{Event}
use Rattle.daide_protocol.specs.Machine.{Limits, SessionState, Sent, Effect, Runs, initial_state, reply_to}
use Rattle.daide_protocol.specs.Wires.{sent_to, sent_bytes}
use Rattle.daide_protocol.specs.Heard.{bytes_from}
use Rattle.daide_protocol.specs.Fates.{EventCause, Frame, Fault, End, Timeout, Stop, Came, came_in, frames_from}
use Rattle.daide_session.specs.InARow.{IsVerdictAtOneLevel, IsVerdictOfNext}

-- the bytes that the next received from the first are a front of the bytes that the first sent to it, in any pieces,
-- with any other events at either gateway
abbrev pub AreJoined : Side → List Effect → List Event → Type 0
AreJoined to sent events = (rest : List ℕ) × (sent_bytes (sent_to to sent) ≡ bytes_from (other to) events ++ rest)

-- these whole frames are the first of the sent frames, byte for byte and in their order
abbrev pub AreFirst : List FrameEvent → List Sent → Type 0
AreFirst [] sent = Unit {0}
AreFirst (Begun head ∷ items) sent = ⊥
AreFirst (Wrong code ∷ items) sent = ⊥
AreFirst (Whole head body ∷ items) [] = ⊥
AreFirst (Whole head body ∷ items) (frame ∷ sent) = (frame.bytes ≡ head_bytes head ++ body) × AreFirst items sent

-- the next gives each message from the first a verdict that fits the message's body and the level noted for it
abbrev pub IsFateAtNext : (Level → List ℕ → Verdict → Type 0) → Side → EventCause → List Sent → Type 0
IsFateAtNext Is to (Frame side noted head body) sent =
    side ≡ other to → head.kind ≡ Dm →
    (verdict : Verdict) × Is noted body verdict × (sent ≡ reply_to side head body verdict ∷ [])
IsFateAtNext Is to (Fault side code) sent = Unit {0}
IsFateAtNext Is to (End side) sent = Unit {0}
IsFateAtNext Is to Timeout sent = Unit {0}
IsFateAtNext Is to Stop sent = Unit {0}

-- the inputs of the next, each with its move
abbrev pub HaveFatesAtNext : (Level → List ℕ → Verdict → Type 0) → Side → List Came → List Effect → Type 0
HaveFatesAtNext Is to [] effects = effects ≡ []
HaveFatesAtNext Is to (came ∷ more) [] = ⊥
HaveFatesAtNext Is to (came ∷ more) (effect ∷ effects) =
    IsFateAtNext Is to came.cause effect.sent × HaveFatesAtNext Is to more effects

-- The next hears the frames that the first sent. It relays each message among them, or its answer is HUH because of a
-- lower level or one bracket too many; its answer is never PRN.
pub record RefinesByWhatItIsSent (limits : Limits) (one : List Came) (to : Side) (sent : List Effect) (next : List Came)
    (effects : List Effect) : Type 0 where
  pub in_order : AreFirst (frames_from (other to) next) (sent_to to sent)
  pub fates : HaveFatesAtNext (IsVerdictOfNext limits one to) to next effects

-- For any runs of the two gateways with the same limits and these words, if the next is joined to the first at a side.
abbrev pub JoinedSessionsOver : List Word → Type 0
JoinedSessionsOver words = (limits : Limits) (to : Side) (events next_events : List Event)
    (effects next_effects : List Effect) (new next_new : SessionState)
    (run : Runs (initial_state limits) events effects new)
    (next_run : Runs (initial_state limits) next_events next_effects next_new) →
    limits.words ≡ grammar_words words → limits.cap ≤ longest_body → AreJoined to effects next_events →
    RefinesByWhatItIsSent limits (came_in (initial_state limits) events effects new run) to effects
    (came_in (initial_state limits) next_events next_effects next_new next_run) next_effects

-- this holds for all words that are accepted one after the other
abbrev pub JoinedSessions : Type 0
JoinedSessions = (words : List Word) → are_accepted words ≡ true → JoinedSessionsOver words

-- ---- toward the bot

-- If the next is nearer the bot, it hears each HLO that the first relayed, in its place among the messages. So it
-- judges each message at the level at which the first relayed it. It relays all of them, except a HUH of the first that
-- is too deep by one bracket.
abbrev pub LevelsAgreeTowardTheBotOver : List Word → Type 0
LevelsAgreeTowardTheBotOver words = (limits : Limits) (events next_events : List Event)
    (effects next_effects : List Effect) (new next_new : SessionState)
    (run : Runs (initial_state limits) events effects new)
    (next_run : Runs (initial_state limits) next_events next_effects next_new) →
    limits.words ≡ grammar_words words → limits.cap ≤ longest_body → AreJoined Bot effects next_events →
    HaveFatesAtNext (λ level. IsVerdictAtOneLevel limits (came_in (initial_state limits) events effects new run) Bot) Bot
    (came_in (initial_state limits) next_events next_effects next_new next_run) next_effects

-- this holds for all words that are accepted one after the other
abbrev pub LevelsAgreeTowardTheBot : Type 0
LevelsAgreeTowardTheBot = (words : List Word) → are_accepted words ≡ true → LevelsAgreeTowardTheBotOver words
