-- Each law of the machine, used once at concrete values. Each fact uses only the law, so that a weaker law does not
-- check.
use Rattle.std.proofs.Common.{is_some, ◌==◌, slice_index, slice_index_or}
use Rattle.daide_protocol.proofs.Common.{◌≡◌, ℕ, ◌<◌, true, false, List, [], ◌∷◌, ◌++◌, take, drop, Some, None, Bool}
use Rattle.daide_protocol.proofs.Common.{refl, sym, ap, ◌∙◌, subst, arith, append-nil, eq-eqb, All, prn, huh, tokens_of}
use Rattle.daide_protocol.proofs.Common.{Bot, Server, Kind, Im, Rm, Dm, Fm, Em, ImTimeout, head_bytes, parse_head}
use Rattle.daide_protocol.proofs.Common.{FrameEvent, Begun, Whole, cut, first_items, is_alien, last_items, missing}
use Rattle.daide_protocol.proofs.Common.{im_of, class_of, entries, may_end_of, table_answer, answer_bytes, Level, L0}
use Rattle.daide_protocol.proofs.Common.{L20, ServerEnd, Event, Comes, Ends, ImTimerExpired, OperatorStops, bytes_come}
use Rattle.daide_protocol.proofs.Common.{SessionState, Sent, Effect, Transition, Runs, initial_state, is_over, em_to}
use Rattle.daide_protocol.proofs.Common.{ending_in, is_dm, plain_phase, with_pending, nothing_accounted, accounted}
use Rattle.daide_protocol.proofs.Common.{summary_of, nothing_counted, tallied, SessionView, IsNew, queued, sent_to}
use Rattle.daide_protocol.proofs.Common.{sent_bytes, items_heard}
use Rattle.daide_grammar.specs.SideMessages.{IsMessage}
use Rattle.daide_protocol.specs.declared.ending.Ending.TheVariants as Endings
use Rattle.daide_protocol.specs.declared.note.Note.TheVariants as Notes
use Rattle.daide_protocol.specs.declared.phase.Phase.TheVariants.{Over}
use Rattle.daide_protocol.specs.declared.phase.SessionPhase.TheVariants as SessionPhases
use Rattle.daide_protocol.specs.Calls.{AreCalls, Feeds, Puts, Fails}
use Rattle.daide_protocol.specs.Ended.{ending_at}
use Rattle.daide_protocol.specs.Fates.{EachMessageHasOneFate, Came, HaveFates, Timeout, Stop, came_in}
use Rattle.daide_protocol.specs.Passing.{OnlyMessagesPass, IsFrame, MayBeSent, no_message, passed, within_prn, within_huh}
use Rattle.daide_protocol.specs.Passing.{HasCome}
use Rattle.daide_protocol.specs.Harm.{ASideHarmsItselfAlone, HasRefused}
use Rattle.daide_protocol.specs.Laws.{EachEventHasATransition, EventsHaveARun, AnswersAreUnique, RunsJoin, AnswersJoin}
use Rattle.daide_protocol.specs.Laws.{PiecesDoNotMatter, CallsDeliverTheAnswers, EachWireGetsTheAnswers, OnlyEventsMatter}
use Rattle.daide_protocol.specs.Laws.{NothingAfterTheEnd, EndingIsKnown, CountsAreTheMoves, FramesAreThoseOfTheCut}
use Rattle.daide_protocol.specs.Laws.{EachSideIsWaitedFor, SidesAddUp, LevelIsKept}
use Rattle.daide_protocol.proofs.SessionFacts.{fm, im, message, one_session, open_at_0, session_events, standing, usual}
use Rattle.daide_protocol.proofs.SomeRun.{outcome_of, run_of}

-- ---- runs

-- the last byte of a message has a transition, and so has the timer after the end
each_event : EachEventHasATransition →
    ((effects : List Effect) × (new : SessionState)
    × Transition (with_pending open_at_0 Bot (0x02 ∷ 0x00 ∷ 0x00 ∷ 0x02 ∷ 0x48 ∷ [])) (Comes Bot 0x0F) effects new)
    × ((effects : List Effect) × (new : SessionState) × Transition (standing usual Over L0) ImTimerExpired effects new)
    × ((effects : List Effect) × (new : SessionState) × Transition open_at_0 OperatorStops effects new)
each_event law = (
  law (with_pending open_at_0 Bot (0x02 ∷ 0x00 ∷ 0x00 ∷ 0x02 ∷ 0x48 ∷ [])) (Comes Bot 0x0F) refl,
  law (standing usual Over L0) ImTimerExpired refl,
  law open_at_0 OperatorStops refl,
)

-- so a whole session has a run
has_a_run : EventsHaveARun → (effects : List Effect) × (new : SessionState) × Runs (initial_state usual) session_events effects new
has_a_run law = law (initial_state usual) session_events refl

-- and only the one that was worked out
one_run : AnswersAreUnique → (effects : List Effect) (new : SessionState) → Runs (initial_state usual) session_events effects new →
    (sent_bytes (sent_to Server effects) ≡ im ++ message (0x480F ∷ [])) × (plain_phase new.phase ≡ Over)
one_run law effects new run =
    let same = law (initial_state usual) session_events effects one_session.effects new one_session.new run one_session.run in (
      ap (λ (e : List Effect). sent_bytes (sent_to Server e)) same.0 ∙ one_session.server,
      ap (λ (s : SessionState). plain_phase s.phase) same.1 ∙ one_session.its_phase,
    )

-- a run of the IM and then one of the bot's end are a run of both
joined : RunsJoin → (mid new : SessionState) (a b : List Effect) → Runs (initial_state usual) (bytes_come Bot im) a mid →
    Runs mid (Ends Bot ∷ []) b new → Runs (initial_state usual) (bytes_come Bot im ++ Ends Bot ∷ []) (a ++ b) new
joined law mid new a b = law (bytes_come Bot im) (Ends Bot ∷ []) (initial_state usual) mid new a b

-- after an FM for the bot it gets the frames of later effects
abbrev sends_fm : Effect
sends_fm = record { reported = Notes.Nothing; sent = record { to = Bot; answers = None; bytes = fm } ∷ [] }

answers_joined : AnswersJoin → (later : List Effect) →
    sent_bytes (sent_to Bot (sends_fm ∷ later)) ≡ 0x03 ∷ 0x00 ∷ 0x00 ∷ 0x00 ∷ sent_bytes (sent_to Bot later)
answers_joined law later = law Bot (sends_fm ∷ []) later

-- two bytes and then more are two events and then more
pieces : PiecesDoNotMatter → (more : List ℕ) →
    bytes_come Server (0x01 ∷ 0x00 ∷ more) ≡ Comes Server 0x01 ∷ Comes Server 0x00 ∷ bytes_come Server more
pieces law more = law Server (0x01 ∷ 0x00 ∷ []) more

-- ---- calls

-- an FM that the bot's wire took, and the bytes still queued for it, are the bytes queued before and the frames of the
-- run; a failed wire has an empty queue
delivered : CallsDeliverTheAnswers → (old new : SessionView) → AreCalls old (Feeds Bot (0x03 ∷ []) ∷ Puts Bot fm ∷ []) new →
    (effects : List Effect) × Runs old.state (Comes Bot 0x03 ∷ []) effects new.state
    × (fm ++ sent_bytes (queued new Bot) ≡ sent_bytes (queued old Bot ++ sent_to Bot effects))
delivered law old new calls =
    let all = law old new (Feeds Bot (0x03 ∷ []) ∷ Puts Bot fm ∷ []) calls in
    (all.effects, all.run, all.delivered Bot refl)

cut_off : CallsDeliverTheAnswers → (old new : SessionView) → AreCalls old (Fails Bot ∷ []) new → queued new Bot ≡ []
cut_off law old new calls = ((law old new (Fails Bot ∷ []) calls).cut_off Bot refl).0

-- the IM that the server's wire took, and the bytes still queued for it, are the frames of the run
each_wire : EachWireGetsTheAnswers → (old new : SessionView) → IsNew usual old →
    AreCalls old (Feeds Bot im ∷ Puts Server im ∷ []) new →
    (effects : List Effect) × Runs (initial_state usual) (bytes_come Bot im) effects new.state
    × (im ++ sent_bytes (queued new Server) ≡ sent_bytes (sent_to Server effects))
each_wire law old new fresh calls =
    let all = law usual old new (Feeds Bot im ∷ Puts Server im ∷ []) fresh calls in
    (all.0, all.1, all.2 Server refl)

-- an IM in one piece and one in two pieces have the same result
one_piece_or_two : OnlyEventsMatter → (one other one_new other_new : SessionView) → IsNew usual one → IsNew usual other →
    AreCalls one (Feeds Bot im ∷ []) one_new →
    AreCalls other (Feeds Bot (take 3 im) ∷ Feeds Bot (drop 3 im) ∷ []) other_new →
    (one_new.state ≡ other_new.state) × (sent_bytes (queued one_new Server) ≡ sent_bytes (queued other_new Server))
one_piece_or_two law one other one_new other_new first second calls more =
    let same = law usual one other one_new other_new (Feeds Bot im ∷ [])
    (Feeds Bot (take 3 im) ∷ Feeds Bot (drop 3 im) ∷ []) first second calls more refl in
    (same.0, same.1 Server refl refl)

-- ---- ends and counts

-- an IM, the timer and a stop do nothing once a session is over
after_the_end : NothingAfterTheEnd → (effects : List Effect) (new : SessionState) →
    Runs (standing usual Over L0) (bytes_come Bot im ++ ImTimerExpired ∷ OperatorStops ∷ []) effects new →
    (effects ≡ []) × (new ≡ standing usual Over L0)
after_the_end law effects new run =
    law (standing usual Over L0) new (bytes_come Bot im ++ ImTimerExpired ∷ OperatorStops ∷ []) effects refl run

-- if there is one event, it is the one that ended the session
ended_by : (before : List Event) (event : Event) (after : List Event) (moves : List Effect) (old : SessionState) →
    ImTimerExpired ∷ [] ≡ before ++ event ∷ after → Runs (initial_state usual) before moves old →
    ending_at old event ≡ Some (Endings.Fault Bot ImTimeout)
ended_by [] event after moves old is run =
    let same : ImTimerExpired ≡ event = cc in
    ap (λ (s : SessionState). ending_at s event) run.1 ∙ ap (ending_at (initial_state usual)) (sym same)
ended_by (first ∷ []) event after moves old is run = absurd cc
ended_by (first ∷ second ∷ before) event after moves old is run = absurd cc

-- the timer is a fault of the bot, which ends the session
timer_ends : EndingIsKnown → (effects : List Effect) (new : SessionState) →
    Runs (initial_state usual) (ImTimerExpired ∷ []) effects new → is_over new.phase ≡ true →
    (is_some (ending_in new.phase) ≡ true) × (ending_in new.phase ≡ Some (Endings.Fault Bot ImTimeout))
timer_ends law effects new run over =
    let known = law usual (ImTimerExpired ∷ []) effects new run in
    let ended = known.1 over in (
      known.0 ∙ over,
      ended.ending ∙ ended_by ended.before ended.event ended.after ended.moves_before ended.old ended.events_are
          ended.run_before,
    )

-- a stop ends a session that is not over, and is its ending
stop_ends : EndingIsKnown → (effects : List Effect) (new : SessionState) →
    Runs (initial_state usual) (OperatorStops ∷ []) effects new → is_over new.phase ≡ true →
    ending_in new.phase ≡ Some Endings.Stopped
stop_ends law effects new run over =
    let ended = (law usual (OperatorStops ∷ []) effects new run).1 over in
    ended.ending ∙ stopped_by ended.before ended.event ended.after ended.old ended.events_are
  where
    stopped_by : (before : List Event) (event : Event) (after : List Event) (old : SessionState) →
        OperatorStops ∷ [] ≡ before ++ event ∷ after → ending_at old event ≡ Some Endings.Stopped
    stopped_by [] event after old is =
        let same : OperatorStops ≡ event = cc in ap (ending_at old) (sym same)
    stopped_by (first ∷ []) event after old is = absurd cc
    stopped_by (first ∷ second ∷ before) event after old is = absurd cc

-- IM, RM, OBS, OFF and FM were relayed, and GOF ( got PRN
counts : CountsAreTheMoves → tallied (outcome_of (initial_state usual) session_events).effects nothing_counted
    ≡ record { relayed = 5; prn = 1; huh = 0; faults = 0 }
unfolding last_items first_items parse_head is_alien im_of entries may_end_of table_answer class_of answer_bytes head_bytes
counts law =
    law (initial_state usual) session_events (outcome_of (initial_state usual) session_events).effects
    (outcome_of (initial_state usual) session_events).state (run_of (initial_state usual) session_events refl)

-- IM, OBS and FM of the bot and RM and OFF of the server are 5 together, and GOF ( of the bot got PRN
both_sides : SidesAddUp →
    (counted : tallied (outcome_of (initial_state usual) session_events).effects nothing_counted
    ≡ record { relayed = 5; prn = 1; huh = 0; faults = 0 }) →
    summary_of (accounted usual.top_level (outcome_of (initial_state usual) session_events).effects nothing_accounted)
    ≡ record { relayed = 5; prn = 1; huh = 0; faults = 0 }
both_sides law counted =
    law (initial_state usual) session_events (outcome_of (initial_state usual) session_events).effects
    (outcome_of (initial_state usual) session_events).state (run_of (initial_state usual) session_events refl)
    nothing_accounted ∙ counted

-- open at level 20 after an HLO, the account has level 20
at_level_20 : LevelIsKept → (events : List Event) (effects : List Effect) (new : SessionState) →
    Runs (initial_state usual) events effects new → new.phase ≡ SessionPhases.Open L20 →
    (accounted usual.top_level effects nothing_accounted).level ≡ L20
at_level_20 law events effects new = law usual events effects new L20

-- ---- frames

-- an IM has two frame events: its header and its frame
im_heard : FramesAreThoseOfTheCut → (effects : List Effect) (new : SessionState)
    (run : Runs (initial_state usual) (bytes_come Bot im) effects new) → is_over new.phase ≡ false →
    items_heard Bot (initial_state usual) (bytes_come Bot im) effects new run
    ≡ Begun (record { kind = Im; len = 4 })
    ∷ Whole (record { kind = Im; len = 4 }) (0x00 ∷ 0x01 ∷ 0xDA ∷ 0x10 ∷ []) ∷ []
unfolding cut first_items parse_head is_alien
im_heard law effects new run going =
    let all = law Bot usual (bytes_come Bot im) effects new run in
    let heard = items_heard Bot (initial_state usual) (bytes_come Bot im) effects new run in
    sym (all.1 ∙ ap (λ (later : List FrameEvent). heard ++ later) (all.2 going) ∙ append-nil heard)

-- after three bytes of it more are missing
waited_for : EachSideIsWaitedFor → (effects : List Effect) (new : SessionState) →
    Runs (initial_state usual) (bytes_come Bot (take 3 im)) effects new → is_over new.phase ≡ false →
    0 < missing new.limits.cap new.sides.bot.pending
waited_for law effects new = law Bot usual (bytes_come Bot (take 3 im)) effects new

-- ---- fates

-- at the timer the bot gets EM 01, and nothing else is sent
one_effect : (effects : List Effect) → HaveFates usual (record { phase = SessionPhases.WaitIm; cause = Timeout } ∷ []) effects →
    (effect : Effect) × (effects ≡ effect ∷ []) × (effect.sent ≡ em_to Bot ImTimeout ∷ [])
one_effect [] h = absurd h
one_effect (effect ∷ more) h = (effect, ap (λ (e : List Effect). effect ∷ e) h.1, h.0)

timer_has_one_fate : EachMessageHasOneFate → (effects : List Effect) (new : SessionState)
    (run : Runs (initial_state usual) (ImTimerExpired ∷ []) effects new) → (effect : Effect) ×
    (effects ≡ effect ∷ []) × (effect.sent ≡ em_to Bot ImTimeout ∷ [])
timer_has_one_fate law effects new run = one_effect effects (law usual (ImTimerExpired ∷ []) effects new run).fates

-- at a stop of an open session each side gets an FM, and nothing else is sent
one_effect_of_a_stop : (effects : List Effect) →
    HaveFates usual (record { phase = SessionPhases.Open L0; cause = Stop } ∷ []) effects →
    (effect : Effect) × (effects ≡ effect ∷ [])
    × (effect.sent ≡ record { to = Bot; answers = None; bytes = fm } ∷ record { to = Server; answers = None; bytes = fm } ∷ [])
one_effect_of_a_stop [] h = absurd h
one_effect_of_a_stop (effect ∷ more) h = (effect, ap (λ (e : List Effect). effect ∷ e) h.1, h.0)

-- an OBS that a bot gets is one that the server sent, and may send at the recorded level
abbrev IsSaid : List Came → List ℕ → Type 0
IsSaid came bytes = bytes ≡ message (0x480F ∷ []) → (noted : Level) × IsMessage ServerEnd noted (0x480F ∷ [])
    × HasCome came Server noted (0x48 ∷ 0x0F ∷ [])

both_ways : (b : Bool) → b ≡ true → b ≡ false → ⊥
both_ways true t f = cc
both_ways false t f = cc

-- lists with different first numbers are different
begin_apart : (n m : ℕ) (one other : List ℕ) → (n == m) ≡ false → n ∷ one ≡ m ∷ other → ⊥
begin_apart n m one other test same =
    let first : n ≡ m = ap (λ (l : List ℕ). slice_index l 0) same in
    both_ways (n == m) (eq-eqb n m first) test

module _ (came : List Came) (bytes : List ℕ) (is : bytes ≡ message (0x480F ∷ [])) where
  -- the body of a frame with these bytes
  its_body : (kind : Kind) (body : List ℕ) → IsFrame kind body bytes → 0x48 ∷ 0x0F ∷ [] ≡ body
  unfolding head_bytes
  its_body kind body frame = ap (λ (b : List ℕ). drop 4 b) (sym is ∙ frame.whole)

  -- a frame with these bytes is a message
  is_one : (kind : Kind) (body : List ℕ) → IsFrame kind body bytes → is_dm kind ≡ false → ⊥
  unfolding head_bytes
  is_one Im body frame none = begin_apart 2 0 _ _ refl (sym is ∙ frame.whole)
  is_one Rm body frame none = begin_apart 2 1 _ _ refl (sym is ∙ frame.whole)
  is_one Dm body frame none = both_ways true refl none
  is_one Fm body frame none = begin_apart 2 3 _ _ refl (sym is ∙ frame.whole)
  is_one Em body frame none = begin_apart 2 4 _ _ refl (sym is ∙ frame.whole)

  -- and no PRN or HUH
  no_answer : (first : ℕ) (answer : List ℕ) (body : List ℕ) → IsFrame Dm body bytes → (0x480F == first) ≡ false →
      tokens_of body ≡ first ∷ answer → ⊥
  no_answer first answer body frame test begins =
      begin_apart 0x480F first [] answer test (ap tokens_of (its_body Dm body frame) ∙ begins)

  said : MayBeSent usual came Bot bytes →
      (noted : Level) × IsMessage ServerEnd noted (0x480F ∷ []) × HasCome came Server noted (0x48 ∷ 0x0F ∷ [])
  said (no_message kind body none frame) = absurd (is_one kind body frame none)
  said (passed noted body frame come pass) =
      let same = sym (its_body Dm body frame) in (
        noted,
        subst (λ (m : List ℕ). IsMessage ServerEnd noted m) (ap tokens_of same) pass.is_message,
        subst (λ (b : List ℕ). HasCome came Server noted b) same come,
      )
  said (within_prn noted own body frame come answer) = absurd (no_answer prn _ body frame refl answer.answer_is)
  said (within_huh noted place own body frame come answer) = absurd (no_answer huh _ body frame refl answer.answer_is)

obs_of_the_server : OnlyMessagesPass → (events : List Event) (effects : List Effect) (new : SessionState)
    (run : Runs (initial_state usual) events effects new) →
    All (λ (sent : Sent). IsSaid (came_in (initial_state usual) events effects new run) sent.bytes) (sent_to Bot effects)
obs_of_the_server law events effects new run k d less is =
    said (came_in (initial_state usual) events effects new run) (slice_index_or (sent_to Bot effects) k d).bytes is
    (law usual events effects new run (omega arith) Bot k d less)

-- a refused message of the bot does not change the frames that the server gets
refused_alone : ASideHarmsItselfAlone → (before between after : List Event) (first among last : List Effect)
    (refusal : Effect) (new : SessionState) →
    HasRefused usual Bot before between 0x00 after first among refusal last new →
    sent_to Server (first ++ (among ++ (refusal ∷ last))) ≡ sent_to Server (first ++ (among ++ last))
refused_alone law before between after first among last refusal new h =
    (law usual Bot before between 0x00 after first among refusal last new h).sent
