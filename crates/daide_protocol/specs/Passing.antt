-- The frames that a side gets: they are whole, and their messages are only those from the other side, and its own
-- within PRN or HUH.
use Rattle.std.specs.Prelude.{◌≡◌, ℕ, ◌+◌, ◌≤◌, ◌<◌, ◌^◌, true, false, List, [], ◌∷◌, ◌++◌, ◌⊎◌, length, take, drop}
use Rattle.std.specs.List.{All}
use Rattle.daide_token.specs.Token.{bra, ket, prn, huh, err, tokens_of}
use Rattle.daide_frame.specs.declared.side.Side.{Side}
use Rattle.daide_frame.specs.declared.head.Kind.{Kind}
use Rattle.daide_frame.specs.declared.head.Kind.TheVariants.{Dm}
use Rattle.daide_frame.specs.Head.{has_right_length, head_bytes}
use Rattle.daide_grammar.specs.declared.level.Level.{Level}
use Rattle.daide_grammar.specs.SideMessages.{IsMessageOver}
use Rattle.daide_grammar.specs.Balanced.{IsBalanced}
use Rattle.daide_grammar.specs.Paired.{IsPaired}
use Rattle.daide_grammar.specs.Depth.{depth_of}
use Rattle.daide_reader.specs.Verdict.{IsRelayed}
use Rattle.daide_protocol.specs.Bounds.{longest_body}
use Rattle.daide_frame.specs.Side.{other}
use Rattle.daide_protocol.specs.Events.{Event}
use Rattle.daide_protocol.specs.Machine.{Limits, SessionState, Sent, Effect, Runs, is_dm, side2_of, initial_state}
use Rattle.daide_protocol.specs.Wires.{sent_to}
use Rattle.daide_protocol.specs.Fates.{Frame, Came, came_in}

-- the bytes are one whole frame of a kind with this body, of a right length for the kind
pub record IsFrame (kind : Kind) (body bytes : List ℕ) : Type 0 where
  pub whole : bytes ≡ head_bytes (record { kind = kind; len = length body }) ++ body
  pub right : has_right_length kind (length body) ≡ true
  pub short : length body < 2 ^ 16

-- among the inputs is this message from a side, with this recorded level
abbrev pub HasCome : List Came → Side → Level → List ℕ → Type 0
HasCome [] side noted body = ⊥
HasCome (came ∷ more) side noted body =
    (came.cause ≡ Frame side noted (record { kind = Dm; len = length body }) body) ⊎ HasCome more side noted body

-- a relayed message is a message of its side at the recorded level, its brackets are paired, and it is not too deep
pub record IsPassed (limits : Limits) (side : Side) (noted : Level) (m : List ℕ) : Type 0 where
  pub is_message : IsMessageOver limits.words (side2_of side) noted m
  pub shallow : depth_of m ≤ limits.max_depth
  pub paired : IsPaired m

-- a message that is returned within PRN has unpaired brackets; the answer has no depth
pub record IsWithinPrn (m answer : List ℕ) : Type 0 where
  pub answer_is : answer ≡ prn ∷ bra ∷ (m ++ ket ∷ [])
  pub unpaired : ¬ IsPaired m
  pub flat : depth_of answer ≡ 0

-- A message that is returned within HUH, with ERR at an index, has paired brackets and is not relayed. The brackets of
-- the answer balance, and it is one bracket deeper.
pub record IsWithinHuh (limits : Limits) (side : Side) (noted : Level) (place : ℕ) (m answer : List ℕ) : Type 0 where
  pub answer_is : answer ≡ huh ∷ bra ∷ ((take place m ++ err ∷ drop place m) ++ ket ∷ [])
  pub within : place ≤ length m
  pub paired : IsPaired m
  pub refused : ¬ IsRelayed (IsMessageOver limits.words (side2_of side) noted) limits.max_depth m
  pub balanced : IsBalanced answer
  pub deeper : depth_of answer ≡ depth_of m + 1

-- a frame that a side gets, given the inputs: no message, or a message from the other side, or one of its own within
-- PRN or HUH
pub data MayBeSent (limits : Limits) (came : List Came) (to : Side) (bytes : List ℕ) : Type 0 where
  no_message : (kind : Kind) (body : List ℕ) → is_dm kind ≡ false → IsFrame kind body bytes →
      MayBeSent limits came to bytes
  passed : (noted : Level) (body : List ℕ) → IsFrame Dm body bytes → HasCome came (other to) noted body →
      IsPassed limits (other to) noted (tokens_of body) → MayBeSent limits came to bytes
  within_prn : (noted : Level) (own body : List ℕ) → IsFrame Dm body bytes → HasCome came to noted own →
      IsWithinPrn (tokens_of own) (tokens_of body) → MayBeSent limits came to bytes
  within_huh : (noted : Level) (place : ℕ) (own body : List ℕ) → IsFrame Dm body bytes → HasCome came to noted own →
      IsWithinHuh limits to noted place (tokens_of own) (tokens_of body) → MayBeSent limits came to bytes

-- In any run from a session's start, with limits that a session accepts, every frame that a side gets is whole. If it
-- is a message, it is one from the other side at the recorded level, or one of its own within PRN or HUH.
abbrev pub OnlyMessagesPass : Type 0
OnlyMessagesPass = (limits : Limits) (events : List Event) (effects : List Effect) (new : SessionState)
    (run : Runs (initial_state limits) events effects new) → limits.cap ≤ longest_body → (to : Side) →
    All (λ (sent : Sent). MayBeSent limits (came_in (initial_state limits) events effects new run) to sent.bytes)
    (sent_to to effects)
