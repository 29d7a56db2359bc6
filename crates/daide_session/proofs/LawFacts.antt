-- Each law of two gateways, used once at worked values: depth 62, messages of at most 61 brackets, and level 60 or the
-- bot's side. Each fact takes only the law, so that a weaker law does not check.
use Rattle.daide_session.proofs.Common.{◌≡◌, ℕ, ◌≤◌, ◌<◌, List, [], ◌∷◌, ◌++◌, refl, subst, arith, All, tokens_of, Side}
use Rattle.daide_session.proofs.Common.{Bot, Server, Dm, Head, head_bytes, FrameEvent, Whole, Level, L0, level_number}
use Rattle.daide_session.proofs.Common.{depth_of, Verdict, Relay, other, Event, Limits, SessionState, Sent, Effect}
use Rattle.daide_session.proofs.Common.{Runs, initial_state, reply_to, sent_to, SessionPhase, Came, Frame, IsJudged}
use Rattle.daide_session.proofs.Common.{came_in, frames_from, HasCome, IsFrame, IsVerdictAtOneLevel, IsVerdictOfNext}
use Rattle.daide_session.proofs.Common.{passes, too_deep, lower, at_one_level}
use Rattle.daide_grammar.specs.declared.level.Level.TheVariants.{L10, L20, L30, L40, L50, L60}
use Rattle.daide_session.specs.InARow.{TwoSessionsInARow}
use Rattle.daide_session.specs.Joined.{AreFirst, AreJoined, HaveFatesAtNext, JoinedSessions, LevelsAgreeTowardTheBot}

-- the operator's limits: by default, without words
abbrev usual : Limits
usual = record { cap = 65526; top_level = L60; max_depth = 62; words = [] }

-- none of the messages received from a side has more than 61 brackets open
abbrev AreShallow : List Came → Side → Type 0
AreShallow came side = (noted : Level) (own : List ℕ) → HasCome came side noted own → depth_of (tokens_of own) ≤ 61

-- no level is above 60
none_above : (noted : Level) → 60 < level_number noted → ⊥
none_above L0 h = absurd (omega (arith, h))
none_above L10 h = absurd (omega (arith, h))
none_above L20 h = absurd (omega (arith, h))
none_above L30 h = absurd (omega (arith, h))
none_above L40 h = absurd (omega (arith, h))
none_above L50 h = absurd (omega (arith, h))
none_above L60 h = absurd (omega (arith, h))

module _ (came : List Came) (to : Side) (shallow : AreShallow came to) (body : List ℕ) (verdict : Verdict) where
  -- with one bracket more none is too deep
  not_too_deep : IsVerdictAtOneLevel usual came to body verdict → verdict ≡ Relay
  not_too_deep (passes is) = is
  not_too_deep (too_deep noted place at own come within deep is) =
      let few = shallow noted own come in absurd (omega (arith, few, deep))

  -- and none was relayed at a higher level than 60
  not_lower : IsVerdictOfNext usual came to L60 body verdict → verdict ≡ Relay
  not_lower (at_one_level h) = not_too_deep h
  not_lower (lower noted place come less is) = absurd (none_above noted less)

-- ---- in a row

-- at level 60 the next gateway relays every message from the first
next_passes_on : TwoSessionsInARow → (events : List Event) (effects : List Effect) (new : SessionState)
    (run : Runs (initial_state usual) events effects new) → AreShallow (came_in (initial_state usual) events effects new run) Bot →
    All (λ (sent : Sent). (body : List ℕ) (verdict : Verdict) → IsFrame Dm body sent.bytes →
    IsJudged usual Server L60 body verdict → verdict ≡ Relay) (sent_to Bot effects)
next_passes_on law events effects new run shallow k d less body verdict frame judged =
    not_lower (came_in (initial_state usual) events effects new run) Bot shallow body verdict
    (law [] refl usual events effects new run refl (omega arith) Bot k d less body L60 verdict frame judged)

-- ---- joined

-- the first cause of the next
module _ (phase : SessionPhase) (noted : Level) (head : Head) (body : List ℕ) where
  abbrev HasFirst : Side → List Came → Type 0
  HasFirst side came = (more : List Came)
      × (came ≡ record { phase = phase; cause = Frame side noted head body } ∷ more)

  -- its move, made by a verdict of this kind
  first_move : (Is : Level → List ℕ → Verdict → Type 0) (to : Side) (came : List Came) (effects : List Effect) →
      HasFirst (other to) came → head.kind ≡ Dm → HaveFatesAtNext Is to came effects →
      (effect : Effect) × (more : List Effect) × (effects ≡ effect ∷ more)
      × ((verdict : Verdict) × Is noted body verdict × (effect.sent ≡ reply_to (other to) head body verdict ∷ []))
  first_move Is to came [] is dm h =
      absurd (subst (λ (c : List Came). HaveFatesAtNext Is to c []) is.1 h)
  first_move Is to came (effect ∷ effects) is dm h =
      let all = subst (λ (c : List Came). HaveFatesAtNext Is to c (effect ∷ effects)) is.1 h in
      (effect, effects, refl, all.0 refl dm)

  -- a move by Relay relays it
  by_relay : (side : Side) (effect : Effect) (verdict : Verdict) → verdict ≡ Relay →
      effect.sent ≡ reply_to side head body verdict ∷ [] → effect.sent ≡ reply_to side head body Relay ∷ []
  by_relay side effect verdict is sent = subst (λ (v : Verdict). effect.sent ≡ reply_to side head body v ∷ []) is sent

-- A server's message that is the first input of the next, nearer the bot, with level 60 noted. It is the first frame
-- that the first gateway sent, and is relayed.
first_passed_on : JoinedSessions → (phase : SessionPhase) (head : Head) (body : List ℕ) (events next_events : List Event)
    (effects next_effects : List Effect) (new next_new : SessionState) (run : Runs (initial_state usual) events effects new)
    (next_run : Runs (initial_state usual) next_events next_effects next_new) → AreJoined Bot effects next_events →
    AreShallow (came_in (initial_state usual) events effects new run) Bot →
    HasFirst phase L60 head body Server (came_in (initial_state usual) next_events next_effects next_new next_run) →
    head.kind ≡ Dm → (effect : Effect) × (more : List Effect) × (next_effects ≡ effect ∷ more)
    × (effect.sent ≡ reply_to Server head body Relay ∷ [])
first_passed_on law phase head body events next_events effects next_effects new next_new run next_run joined shallow
    first dm =
    let goes = law [] refl usual Bot events next_events effects next_effects new next_new run next_run refl (omega arith)
    joined in
    let came = came_in (initial_state usual) events effects new run in
    let next = came_in (initial_state usual) next_events next_effects next_new next_run in
    let move = first_move phase L60 head body (IsVerdictOfNext usual came Bot) Bot next next_effects first dm goes.fates in (
      move.0,
      move.1,
      move.2,
      by_relay phase L60 head body Server move.0 move.3.0 (not_lower came Bot shallow body move.3.0 move.3.1) move.3.2,
    )

first_frame : (frames : List FrameEvent) (sent : List Sent) (head : Head) (body : List ℕ) (more : List FrameEvent) →
    frames ≡ Whole head body ∷ more → AreFirst frames sent →
    (frame : Sent) × (rest : List Sent) × (sent ≡ frame ∷ rest) × (frame.bytes ≡ head_bytes head ++ body)
first_frame frames [] head body more is h = absurd (subst (λ (f : List FrameEvent). AreFirst f []) is h)
first_frame frames (frame ∷ rest) head body more is h =
    (frame, rest, refl, (subst (λ (f : List FrameEvent). AreFirst f (frame ∷ rest)) is h).0)

heard_in_order : JoinedSessions → (head : Head) (body : List ℕ) (more : List FrameEvent) (events next_events : List Event)
    (effects next_effects : List Effect) (new next_new : SessionState) (run : Runs (initial_state usual) events effects new)
    (next_run : Runs (initial_state usual) next_events next_effects next_new) → AreJoined Server effects next_events →
    frames_from Bot (came_in (initial_state usual) next_events next_effects next_new next_run) ≡ Whole head body ∷ more →
    (frame : Sent) × (rest : List Sent) × (sent_to Server effects ≡ frame ∷ rest)
    × (frame.bytes ≡ head_bytes head ++ body)
heard_in_order law head body more events next_events effects next_effects new next_new run next_run joined is =
    let goes = law [] refl usual Server events next_events effects next_effects new next_new run next_run refl
    (omega arith) joined in
    first_frame (frames_from Bot (came_in (initial_state usual) next_events next_effects next_new next_run))
    (sent_to Server effects) head body more is goes.in_order

-- ---- toward the bot

-- if the next is nearer the bot, it relays the message at level 0 too
first_passed_on_to_the_bot : LevelsAgreeTowardTheBot → (phase : SessionPhase) (head : Head) (body : List ℕ)
    (events next_events : List Event) (effects next_effects : List Effect) (new next_new : SessionState)
    (run : Runs (initial_state usual) events effects new)
    (next_run : Runs (initial_state usual) next_events next_effects next_new) → AreJoined Bot effects next_events →
    AreShallow (came_in (initial_state usual) events effects new run) Bot →
    HasFirst phase L0 head body Server (came_in (initial_state usual) next_events next_effects next_new next_run) →
    head.kind ≡ Dm → (effect : Effect) × (more : List Effect) × (next_effects ≡ effect ∷ more)
    × (effect.sent ≡ reply_to Server head body Relay ∷ [])
first_passed_on_to_the_bot law phase head body events next_events effects next_effects new next_new run next_run joined
    shallow first dm =
    let fates = law [] refl usual events next_events effects next_effects new next_new run next_run refl (omega arith)
    joined in
    let came = came_in (initial_state usual) events effects new run in
    let next = came_in (initial_state usual) next_events next_effects next_new next_run in
    let move = first_move phase L0 head body (λ level. IsVerdictAtOneLevel usual came Bot) Bot next next_effects first dm
    fates in (
      move.0,
      move.1,
      move.2,
      by_relay phase L0 head body Server move.0 move.3.0 (not_too_deep came Bot shallow body move.3.0 move.3.1) move.3.2,
    )
