-- Two gateways in a row: the messages that the first sends, and the verdicts of the next. Each gateway follows
-- docs/PROTOCOL.md, "Verdicts"; that a gateway may be the peer of another is (own).
use Rattle.std.specs.Prelude.{◌≡◌, ℕ, ◌+◌, ◌≤◌, ◌<◌, true, List}
use Rattle.std.specs.List.{All}
use Rattle.daide_token.specs.Token.{tokens_of}
use Rattle.daide_frame.specs.declared.side.Side.{Side}
use Rattle.daide_frame.specs.declared.head.Kind.TheVariants.{Dm}
use Rattle.daide_grammar.specs.declared.level.Level.{Level}
use Rattle.daide_grammar.specs.Level.{level_number}
use Rattle.daide_grammar.specs.Depth.{depth_of}
use Rattle.daide_reader.specs.declared.verdict.Verdict.{Verdict}
use Rattle.daide_reader.specs.declared.verdict.Verdict.TheVariants.{Relay, Huh}
use Rattle.daide_words.specs.declared.word.Word.{Word}
use Rattle.daide_words.specs.Accepted.{are_accepted}
use Rattle.daide_words.specs.Word.{grammar_words}
use Rattle.daide_protocol.specs.Bounds.{longest_body}
use Rattle.daide_frame.specs.Side.{other}
use Rattle.daide_protocol.specs.Events.{Event}
use Rattle.daide_protocol.specs.Machine.{Limits, SessionState, Sent, Effect, Runs, initial_state}
use Rattle.daide_protocol.specs.Wires.{sent_to}
use Rattle.daide_protocol.specs.Fates.{Came, came_in, IsJudged}
use Rattle.daide_protocol.specs.Passing.{IsFrame, HasCome, IsWithinHuh}

-- The next gateway's verdict on a message from the first, if both read it at the same level. It relays the message,
-- unless the message is the first gateway's own HUH and too deep by the bracket that HUH adds. Its answer is never PRN.
pub data IsVerdictAtOneLevel (limits : Limits) (came : List Came) (to : Side) (body : List ℕ) (verdict : Verdict) :
    Type 0 where
  passes : verdict ≡ Relay → IsVerdictAtOneLevel limits came to body verdict
  too_deep : (noted : Level) (place at : ℕ) (own : List ℕ) → HasCome came to noted own →
      IsWithinHuh limits to noted place (tokens_of own) (tokens_of body) →
      limits.max_depth < depth_of (tokens_of own) + 1 → verdict ≡ Huh at →
      IsVerdictAtOneLevel limits came to body verdict

-- At any level: the same verdict, or HUH if the first gateway relayed the message at a higher level.
pub data IsVerdictOfNext (limits : Limits) (came : List Came) (to : Side) (level : Level) (body : List ℕ)
    (verdict : Verdict) : Type 0 where
  at_one_level : IsVerdictAtOneLevel limits came to body verdict → IsVerdictOfNext limits came to level body verdict
  lower : (noted : Level) (place : ℕ) → HasCome came (other to) noted body →
      level_number level < level_number noted → verdict ≡ Huh place →
      IsVerdictOfNext limits came to level body verdict

-- Two gateways with the same limits and these words, over any run of the first. Each message that it sends to the next,
-- also its own answer, gets such a verdict there, at whatever level is noted for it.
abbrev pub InARowOver : List Word → Type 0
InARowOver words = (limits : Limits) (events : List Event) (effects : List Effect)
    (new : SessionState) (run : Runs (initial_state limits) events effects new) →
    limits.words ≡ grammar_words words → limits.cap ≤ longest_body → (to : Side) →
    All (λ (sent : Sent). (body : List ℕ) (level : Level) (verdict : Verdict) → IsFrame Dm body sent.bytes →
    IsJudged limits (other to) level body verdict →
    IsVerdictOfNext limits (came_in (initial_state limits) events effects new run) to level body verdict)
    (sent_to to effects)

-- This holds for all words that are accepted one after the other.
abbrev pub TwoSessionsInARow : Type 0
TwoSessionsInARow = (words : List Word) → are_accepted words ≡ true → InARowOver words
