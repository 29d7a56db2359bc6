-- The level of press over a run: a server's message is judged by the present level, which follows the HLOs that are
-- relayed.
use Rattle.std.proofs.Common.{length-append}
use Rattle.daide_session.proofs.Common.{◌≡◌, ℕ, ◌<◌, Bool, true, false, cond, eqb, List, [], ◌∷◌, ◌++◌, length, Option}
use Rattle.daide_session.proofs.Common.{Some, None, Result, Ok, Err, refl, sym, ◌∙◌, ap, subst, arith, append-nil}
use Rattle.daide_session.proofs.Common.{tokens_of, Side, Bot, Server, Kind, Im, Rm, Dm, Fm, Em, Head, Code, parse_head}
use Rattle.daide_session.proofs.Common.{im_of, FrameEvent, Begun, Whole, Wrong, head_in, last_items, head_in-short}
use Rattle.daide_session.proofs.Common.{Level, L0, Verdict, Relay, Prn, Huh, SessionPhase, WaitIm, WaitRm, Open, Over}
use Rattle.daide_session.proofs.Common.{Event, Comes, Ends, Loses, ImTimerExpired, OperatorStops, Limits, SessionState}
use Rattle.daide_session.proofs.Common.{Sent, Effect, Successor, Transition, Runs, IsCorrectVerdict, with_pending}
use Rattle.daide_session.proofs.Common.{with_noted, is_over, level_in, reply_to, answered, im_answered, frame_outcome}
use Rattle.daide_session.proofs.Common.{header_outcome, event_outcome, asked_by, initial_state, EventCause, Frame}
use Rattle.daide_session.proofs.Common.{Fault, End, Timeout, Stop, Came, came_in, IsJudged, HaveFates, not_both}
use Rattle.daide_session.proofs.Common.{run_fates, runs_limits}
use Rattle.daide_frame.specs.declared.code.Code.TheVariants.{InvalidToken}
use Rattle.daide_frame.specs.Frames.{alien_in, head_part}
use Rattle.daide_frame.proofs.FramesLemmas.{last_items-short, head_in-whole, at_head, at_body, last_items-head4}
use Rattle.daide_frame.proofs.FramesLemmas.{last_items-body4, parse_head-append4}
use Rattle.daide_protocol.specs.Machine.{untimely, phase_after, items_outcome, im_timer_expired, question_of, question}
use Rattle.daide_protocol.specs.Fates.{checked_frame, frame_cause, fault_or, items_cause, cause_at, timeout_in}
use Rattle.daide_protocol.specs.Fates.{came_in_phase}
use Rattle.daide_protocol.proofs.FrameShapes.{refused}
use Rattle.daide_protocol.proofs.OneRun.{one_run}
use Rattle.daide_protocol.proofs.PieceRuns.{over_stays}

-- ---- the effect of a byte on a side's header

-- the frame events that end with a byte, with the header before it and the header after it
pub data Turn (before after : Option Head) : List FrameEvent → Type 0 where
  quiet : after ≡ before → Turn before after []
  headed : (head : Head) → after ≡ Some head → Turn before after (Begun head ∷ [])
  at_once : (head : Head) → Turn before after (Begun head ∷ Whole head [] ∷ [])
  ended : (head : Head) (body : List ℕ) → before ≡ Some head → Turn before after (Whole head body ∷ [])
  wrong : (code : Code) → Turn before after (Wrong code ∷ [])

abbrev TurnBy : ℕ → List ℕ → ℕ → Type 0
TurnBy cap b x = Turn (head_in cap b) (head_in cap (b ++ x ∷ [])) (last_items cap (b ++ x ∷ []))

-- three bytes at most
short_turn : (cap : ℕ) (b : List ℕ) (x : ℕ) → length b < 3 → TurnBy cap b x
short_turn cap b x l =
    let few : length (b ++ x ∷ []) < 4 = omega (arith, l, length-append b (x ∷ [])) in
    subst (Turn (head_in cap b) (head_in cap (b ++ x ∷ []))) (sym (last_items-short cap (b ++ x ∷ []) few))
    (quiet (head_in-short cap (b ++ x ∷ []) few ∙ sym (head_in-short cap b (omega (arith, l)))))

-- the fourth byte
head_turn : (before : Option Head) (r : Result Head Code) → Turn before (head_part r) (at_head r)
head_turn before (Err code) = wrong code
head_turn before (Ok head) = go (eqb head.len 0)
  where
    go : (k : Bool) → Turn before (Some head) (Begun head ∷ (cond k (Whole head [] ∷ []) []))
    go true = at_once head
    go false = headed head refl

-- a later byte
body_turn : (head : Head) (v : List ℕ) (alien : Option ℕ) → Turn (Some head) (Some head) (at_body head v alien)
body_turn head v (Some n) = go (eqb n (length v))
  where
    go : (k : Bool) → Turn (Some head) (Some head) (cond k (Wrong InvalidToken ∷ []) [])
    go true = wrong InvalidToken
    go false = quiet refl
body_turn head v None = go (eqb head.len (length v))
  where
    go : (k : Bool) → Turn (Some head) (Some head) (cond k (Whole head v ∷ []) [])
    go true = ended head v refl
    go false = quiet refl

later_turn : (cap p q r s y : ℕ) (w : List ℕ) (o : Result Head Code) → parse_head (p ∷ q ∷ r ∷ s ∷ []) cap ≡ o →
    Turn (head_part o) (head_part o) (last_items cap (p ∷ q ∷ r ∷ s ∷ y ∷ w))
later_turn cap p q r s y w (Ok head) e =
    subst (Turn (Some head) (Some head)) (sym (last_items-body4 cap p q r s (y ∷ w) head e (omega arith)))
    (body_turn head (y ∷ w) (alien_in head (y ∷ w)))
later_turn cap p q r s y w (Err code) e =
    subst (Turn None None) (sym (refused cap p q r s y w code e)) (quiet refl)

-- the header of four bytes and more
long_head : (cap p q r s : ℕ) (v : List ℕ) →
    head_in cap (p ∷ q ∷ r ∷ s ∷ v) ≡ head_part (parse_head (p ∷ q ∷ r ∷ s ∷ []) cap)
long_head cap p q r s v =
    head_in-whole cap (p ∷ q ∷ r ∷ s ∷ v) (omega arith) ∙ ap head_part (parse_head-append4 cap p q r s v)

turn : (cap : ℕ) (b : List ℕ) (x : ℕ) → TurnBy cap b x
turn cap [] x = short_turn cap [] x (omega arith)
turn cap (p ∷ []) x = short_turn cap (p ∷ []) x (omega arith)
turn cap (p ∷ q ∷ []) x = short_turn cap (p ∷ q ∷ []) x (omega arith)
turn cap (p ∷ q ∷ r ∷ []) x =
    subst (λ (a : Option Head). Turn (head_in cap (p ∷ q ∷ r ∷ [])) a (last_items cap (p ∷ q ∷ r ∷ x ∷ [])))
    (sym (long_head cap p q r x []))
    (subst (Turn (head_in cap (p ∷ q ∷ r ∷ [])) (head_part (parse_head (p ∷ q ∷ r ∷ x ∷ []) cap)))
    (sym (last_items-head4 cap p q r x))
    (head_turn (head_in cap (p ∷ q ∷ r ∷ [])) (parse_head (p ∷ q ∷ r ∷ x ∷ []) cap)))
turn cap (p ∷ q ∷ r ∷ s ∷ []) x =
    rw (long_head cap p q r s [], long_head cap p q r s (x ∷ []))
    (later_turn cap p q r s x [] (parse_head (p ∷ q ∷ r ∷ s ∷ []) cap) refl)
turn cap (p ∷ q ∷ r ∷ s ∷ y ∷ w) x =
    rw (long_head cap p q r s (y ∷ w), long_head cap p q r s (y ∷ w ++ x ∷ []))
    (later_turn cap p q r s y (w ++ x ∷ []) (parse_head (p ∷ q ∷ r ∷ s ∷ []) cap) refl)

-- ---- facts about a state that is not over

-- a header received from a side is timely in this phase
abbrev IsTimely : SessionPhase → Side → Option Head → Type 0
IsTimely phase side header = (head : Head) → header ≡ Some head → untimely phase side head.kind ≡ None

-- the level was noted at the server's header
abbrev IsNoted : Option Head → Level → Level → Type 0
IsNoted header noted level = (head : Head) → header ≡ Some head → noted ≡ level

pub record Ready (s : SessionState) : Type 0 where
  bot : IsTimely s.phase Bot (head_in s.limits.cap s.sides.bot.pending)
  server : IsTimely s.phase Server (head_in s.limits.cap s.sides.server.pending)
  noted : IsNoted (head_in s.limits.cap s.sides.server.pending) s.sides.server.noted (level_in s.phase)

no_head : (cap : ℕ) → head_in cap [] ≡ None
no_head cap = head_in-short cap [] (omega arith)

none_timely : (cap : ℕ) (phase : SessionPhase) (side : Side) → IsTimely phase side (head_in cap [])
none_timely cap phase side head e = (let bad = sym (no_head cap) ∙ e in absurd (cc))

none_noted : (cap : ℕ) (noted level : Level) → IsNoted (head_in cap []) noted level
none_noted cap noted level head e = (let bad = sym (no_head cap) ∙ e in absurd (cc))

pub ready_first : (limits : Limits) → Ready (initial_state limits)
ready_first limits = record {
  bot = none_timely limits.cap WaitIm Bot;
  server = none_timely limits.cap WaitIm Server;
  noted = none_noted limits.cap L0 L0;
}

-- a header that is timely before the IM, or before the RM, is timely after it: an FM or an EM
still_timely : (kind : Kind) → untimely WaitIm Server kind ≡ None → untimely WaitRm Server kind ≡ None
still_timely Im e = absurd (cc)
still_timely Rm e = absurd (cc)
still_timely Dm e = absurd (cc)
still_timely Fm e = refl
still_timely Em e = refl

and_then : (kind : Kind) → untimely WaitRm Bot kind ≡ None → untimely (Open L0) Bot kind ≡ None
and_then Im e = absurd (cc)
and_then Rm e = absurd (cc)
and_then Dm e = refl
and_then Fm e = refl
and_then Em e = refl

-- what is timely from the bot in an open session is timely after a message of the server
open_still : (top : Level) (v : Verdict) (tokens : List ℕ) (level : Level) (kind : Kind) →
    untimely (Open level) Bot kind ≡ None →
    untimely (phase_after top Dm Server v tokens (Open level)) Bot kind ≡ None
open_still top Relay tokens level kind u = u
open_still top Prn tokens level kind u = u
open_still top (Huh place) tokens level kind u = u

-- ---- the frames received, and the level

-- the level after a message of the server in an open session
abbrev pub level_then : Level → Verdict → List ℕ → Level → Level
level_then top verdict tokens level = level_in (phase_after top Dm Server verdict tokens (Open level))

-- a message of the server is judged by the present level; the frames sent and the new level are these
abbrev pub IsLevelled : Kind → Limits → Level → Level → Head → List ℕ → List Sent → Level → Type 0
IsLevelled Im limits level noted head body sent then = then ≡ level
IsLevelled Rm limits level noted head body sent then = then ≡ level
IsLevelled Dm limits level noted head body sent then =
    (verdict : Verdict) × (noted ≡ level) × IsJudged limits Server level body verdict
    × (then ≡ level_then limits.top_level verdict (tokens_of body) level)
    × (sent ≡ reply_to Server head body verdict ∷ [])
IsLevelled Fm limits level noted head body sent then = then ≡ level
IsLevelled Em limits level noted head body sent then = then ≡ level

-- no other cause changes the level
abbrev pub LevelAt : Limits → Level → EventCause → List Sent → Level → Type 0
LevelAt limits level (Frame Bot noted head body) sent then = then ≡ level
LevelAt limits level (Frame Server noted head body) sent then =
    IsLevelled head.kind limits level noted head body sent then
LevelAt limits level (Fault side code) sent then = then ≡ level
LevelAt limits level (End side) sent then = then ≡ level
LevelAt limits level Timeout sent then = then ≡ level
LevelAt limits level Stop sent then = then ≡ level

-- from one level to another, by the causes received and their moves
abbrev pub HaveLevels : Limits → Level → List Came → List Effect → Level → Type 0
HaveLevels limits level [] effects then = (effects ≡ []) × (then ≡ level)
HaveLevels limits level (came ∷ more) [] then = ⊥
HaveLevels limits level (came ∷ more) (effect ∷ effects) then =
    (next : Level) × LevelAt limits level came.cause effect.sent next × HaveLevels limits next more effects then

levels_join : (limits : Limits) (a b : List Came) (x y : List Effect) (l m n : Level) → HaveLevels limits l a x m →
    HaveLevels limits m b y n → HaveLevels limits l (a ++ b) (x ++ y) n
levels_join limits [] b x y l m n h k = rw h.0 (subst (λ (j : Level). HaveLevels limits j b y n) h.1 k)
levels_join limits (c ∷ a) b [] y l m n h k = absurd h
levels_join limits (c ∷ a) b (e ∷ x) y l m n h k = (h.0, h.1, levels_join limits a b x y h.0 m n h.2 k)

-- the level and the moves after an event
record Follows (limits : Limits) (level : Level) (came : List Came) (o : Successor) : Type 0 where
  next : Level
  levels : HaveLevels limits level came o.effects next
  ready : is_over o.state.phase ≡ false → (level_in o.state.phase ≡ next) × Ready o.state

-- the session is over
over_follows : (limits : Limits) (level : Level) (came : List Came) (o : Successor) → is_over o.state.phase ≡ true →
    HaveLevels limits level came o.effects level → Follows limits level came o
over_follows limits level came o e h = record {
  next = level;
  levels = h;
  ready = λ live. absurd (not_both (is_over o.state.phase) e live);
}

-- ---- a whole frame

abbrev one : SessionPhase → EventCause → List Came
one phase cause = record { phase = phase; cause = cause } ∷ []

abbrev made : Kind → ℕ → Head
made kind len = record { kind = kind; len = len }

-- of the bot, whose IM comes first
bot_frame : (phase : SessionPhase) (t : SessionState) (noted : Level) (kind : Kind) (len : ℕ) (body : List ℕ) (v : Verdict) →
    t.phase ≡ phase → is_over phase ≡ false → untimely phase Bot kind ≡ None →
    IsTimely phase Server (head_in t.limits.cap t.sides.server.pending) →
    IsNoted (head_in t.limits.cap t.sides.server.pending) t.sides.server.noted (level_in t.phase) →
    Follows t.limits (level_in t.phase) (one t.phase (frame_cause Bot noted (made kind len) body))
    (frame_outcome t Bot (made kind len) body v)
bot_frame WaitIm t noted Im len body v e o u s n = checked (im_of body)
  where
    checked : (r : Result (Unit {0}) Code) →
        Follows t.limits (level_in t.phase) (one t.phase (checked_frame Bot noted (made Im len) body r))
        (im_answered (answered t Bot (made Im len) body v) t Bot r)
    checked (Ok ok) = record {
      next = (level_in t.phase);
      levels = ((level_in t.phase), refl, (refl, refl));
      ready = λ live. (
        sym (ap level_in e),
        record {
          bot = none_timely t.limits.cap WaitRm Bot;
          server = λ head h. still_timely head.kind (s head h);
          noted = λ head h. n head h ∙ ap level_in e;
        },
      );
    }
    checked (Err code) = over_follows t.limits (level_in t.phase) _ _ refl ((level_in t.phase), refl, (refl, refl))
bot_frame WaitRm t noted Im len body v e o u s n = absurd (cc)
bot_frame (Open level) t noted Im len body v e o u s n = absurd (cc)
bot_frame (Over ending) t noted Im len body v e o u s n = absurd (cc)
bot_frame WaitIm t noted Rm len body v e o u s n = absurd (cc)
bot_frame WaitRm t noted Rm len body v e o u s n = absurd (cc)
bot_frame (Open level) t noted Rm len body v e o u s n = absurd (cc)
bot_frame (Over ending) t noted Rm len body v e o u s n = absurd (cc)
bot_frame phase t noted Dm len body v e o u s n = record {
  next = (level_in t.phase);
  levels = ((level_in t.phase), refl, (refl, refl));
  ready = λ live. (
    refl,
    record {
      bot = none_timely t.limits.cap t.phase Bot;
      server = subst (λ (p : SessionPhase). IsTimely p Server (head_in t.limits.cap t.sides.server.pending)) (sym e) s;
      noted = n;
    },
  );
}
bot_frame phase t noted Fm len body v e o u s n =
    over_follows t.limits (level_in t.phase) _ _ refl ((level_in t.phase), refl, (refl, refl))
bot_frame phase t noted Em len body v e o u s n =
    over_follows t.limits (level_in t.phase) _ _ refl ((level_in t.phase), refl, (refl, refl))

-- of the server
server_frame : (phase : SessionPhase) (t : SessionState) (noted : Level) (kind : Kind) (len : ℕ) (body : List ℕ)
    (v : Verdict) → t.phase ≡ phase → is_over phase ≡ false → untimely phase Server kind ≡ None →
    IsTimely phase Bot (head_in t.limits.cap t.sides.bot.pending) → noted ≡ (level_in t.phase) →
    IsCorrectVerdict t.limits.words t.limits.max_depth (question_of Server noted (made kind len) body) v →
    Follows t.limits (level_in t.phase) (one t.phase (frame_cause Server noted (made kind len) body))
    (frame_outcome t Server (made kind len) body v)
server_frame WaitIm t noted Im len body v e o u b n r = absurd (cc)
server_frame WaitRm t noted Im len body v e o u b n r = absurd (cc)
server_frame (Open level) t noted Im len body v e o u b n r = absurd (cc)
server_frame (Over ending) t noted Im len body v e o u b n r = absurd (cc)
server_frame WaitIm t noted Rm len body v e o u b n r = absurd (cc)
server_frame WaitRm t noted Rm len body v e o u b n r = record {
  next = (level_in t.phase);
  levels = ((level_in t.phase), refl, (refl, refl));
  ready = λ live. (
    sym (ap level_in e),
    record {
      bot = λ head h. and_then head.kind (b head h);
      server = none_timely t.limits.cap (Open L0) Server;
      noted = none_noted t.limits.cap t.sides.server.noted L0;
    },
  );
}
server_frame (Open level) t noted Rm len body v e o u b n r = absurd (cc)
server_frame (Over ending) t noted Rm len body v e o u b n r = absurd (cc)
server_frame WaitIm t noted Dm len body v e o u b n r = absurd (cc)
server_frame WaitRm t noted Dm len body v e o u b n r = absurd (cc)
server_frame (Open level) t noted Dm len body v e o u b n r =
    let top = t.limits.top_level in
    let after = level_then top v (tokens_of body) (level_in t.phase) in
    record {
      next = after;
      levels = (
        after,
        (v, n, subst (λ (l : Level). IsJudged t.limits Server l body v) n r, refl, refl),
        (refl, refl),
      );
      ready = λ live. (
        rw e refl,
        record {
          bot = subst (λ (p : SessionPhase). IsTimely (phase_after top Dm Server v (tokens_of body) p) Bot
              (head_in t.limits.cap t.sides.bot.pending)) (sym e)
              (λ head h. open_still top v (tokens_of body) level head.kind (b head h));
          server = none_timely t.limits.cap (phase_after top Dm Server v (tokens_of body) t.phase) Server;
          noted = none_noted t.limits.cap t.sides.server.noted
              (level_in (phase_after top Dm Server v (tokens_of body) t.phase));
        },
      );
    }
server_frame (Over ending) t noted Dm len body v e o u b n r = absurd (cc)
server_frame phase t noted Fm len body v e o u b n r =
    over_follows t.limits (level_in t.phase) _ _ refl ((level_in t.phase), refl, (refl, refl))
server_frame phase t noted Em len body v e o u b n r =
    over_follows t.limits (level_in t.phase) _ _ refl ((level_in t.phase), refl, (refl, refl))

-- ---- the frame events that end with one byte

-- no frame event follows a whole frame
alone : (limits : Limits) (level : Level) (came : List Came) (t : SessionState) (side : Side) (head : Head)
    (body : List ℕ) (v : Verdict) → is_over t.phase ≡ false → Follows limits level came (frame_outcome t side head body v) →
    Follows limits level came (items_outcome t side (Whole head body ∷ []) v)
alone limits level came t side head body v o h =
    let w = frame_outcome t side head body v in
    rw o (subst (λ (effects : List Effect). Follows limits level came (record { state = w.state; effects = effects }))
    (sym (append-nil w.effects)) h)

head_or : Head → Option Head → Head
head_or head None = head
head_or head (Some other_head) = other_head

same_head : (header : Option Head) (head other_head : Head) → header ≡ Some head → header ≡ Some other_head →
    head ≡ other_head
unfolding head_or
same_head header head other_head a b = ap (head_or head) (sym a ∙ b)

now_timely : (phase : SessionPhase) (side : Side) (header : Option Head) (head : Head) → header ≡ Some head →
    untimely phase side head.kind ≡ None → IsTimely phase side header
now_timely phase side header head a e other_head b =
    subst (λ (h : Head). untimely phase side h.kind ≡ None) (same_head header head other_head a b) e

bot_items : (s : SessionState) (bytes : List ℕ) (items : List FrameEvent) (v : Verdict) → is_over s.phase ≡ false → Ready s →
    Turn (head_in s.limits.cap s.sides.bot.pending) (head_in s.limits.cap bytes) items →
    Follows s.limits (level_in s.phase)
    (came_in_phase s.phase (items_cause Bot s.sides.bot.noted (level_in s.phase) (untimely s.phase Bot) items))
    (items_outcome (with_pending s Bot bytes) Bot items v)
bot_items s bytes items v o h (quiet e) = record {
  next = (level_in s.phase);
  levels = (refl, refl);
  ready = λ live. (
    refl,
    record {
      bot = λ head k. h.bot head (sym e ∙ k);
      server = h.server;
      noted = h.noted;
    },
  );
}
bot_items s bytes items v o h (headed head a) = rw o (go (untimely s.phase Bot head.kind) refl)
  where
    t : SessionState
    t = with_pending s Bot bytes

    go : (code : Option Code) → untimely s.phase Bot head.kind ≡ code →
        Follows s.limits (level_in s.phase) (came_in_phase s.phase (fault_or Bot code None))
        (record { state = (header_outcome t Bot code).state; effects = (header_outcome t Bot code).effects ++ [] })
    go None e = record {
      next = (level_in s.phase);
      levels = (refl, refl);
      ready = λ live. (
        refl,
        record {
          bot = now_timely s.phase Bot (head_in s.limits.cap bytes) head a e;
          server = h.server;
          noted = h.noted;
        },
      );
    }
    go (Some code) e = over_follows s.limits (level_in s.phase) _ _ refl ((level_in s.phase), refl, (refl, refl))
bot_items s bytes items v o h (at_once head) = rw o (go (untimely s.phase Bot head.kind) refl)
  where
    t : SessionState
    t = with_pending s Bot bytes

    go : (code : Option Code) → untimely s.phase Bot head.kind ≡ code →
        Follows s.limits (level_in s.phase)
        (came_in_phase s.phase (fault_or Bot code (Some (frame_cause Bot (level_in s.phase) head []))))
        (let more = items_outcome (header_outcome t Bot code).state Bot (Whole head [] ∷ []) v in
        record { state = more.state; effects = (header_outcome t Bot code).effects ++ more.effects })
    go None e =
        alone s.limits (level_in s.phase) (one s.phase (frame_cause Bot (level_in s.phase) head [])) (with_noted t Bot (level_in s.phase)) Bot head [] v o
        (bot_frame s.phase (with_noted t Bot (level_in s.phase)) (level_in s.phase) head.kind head.len [] v refl o e h.server h.noted)
    go (Some code) e = over_follows s.limits (level_in s.phase) _ _ refl ((level_in s.phase), refl, (refl, refl))
bot_items s bytes items v o h (ended head body b) =
    alone s.limits (level_in s.phase) (one s.phase (frame_cause Bot s.sides.bot.noted head body)) (with_pending s Bot bytes) Bot head body
    v o
    (bot_frame s.phase (with_pending s Bot bytes) s.sides.bot.noted head.kind head.len body v refl o (h.bot head b)
    h.server h.noted)
bot_items s bytes items v o h (wrong code) =
    rw o (over_follows s.limits (level_in s.phase) _ _ refl ((level_in s.phase), refl, (refl, refl)))

server_items : (s : SessionState) (bytes : List ℕ) (items : List FrameEvent) (v : Verdict) → is_over s.phase ≡ false →
    Ready s → Turn (head_in s.limits.cap s.sides.server.pending) (head_in s.limits.cap bytes) items →
    IsCorrectVerdict s.limits.words s.limits.max_depth (asked_by s Server items) v →
    Follows s.limits (level_in s.phase)
    (came_in_phase s.phase (items_cause Server s.sides.server.noted (level_in s.phase) (untimely s.phase Server) items))
    (items_outcome (with_pending s Server bytes) Server items v)
server_items s bytes items v o h (quiet e) r = record {
  next = (level_in s.phase);
  levels = (refl, refl);
  ready = λ live. (
    refl,
    record {
      bot = h.bot;
      server = λ head k. h.server head (sym e ∙ k);
      noted = λ head k. h.noted head (sym e ∙ k);
    },
  );
}
server_items s bytes items v o h (headed head a) r = rw o (go (untimely s.phase Server head.kind) refl)
  where
    t : SessionState
    t = with_pending s Server bytes

    go : (code : Option Code) → untimely s.phase Server head.kind ≡ code →
        Follows s.limits (level_in s.phase) (came_in_phase s.phase (fault_or Server code None))
        (record { state = (header_outcome t Server code).state; effects = (header_outcome t Server code).effects ++ [] })
    go None e = record {
      next = (level_in s.phase);
      levels = (refl, refl);
      ready = λ live. (
        refl,
        record {
          bot = h.bot;
          server = now_timely s.phase Server (head_in s.limits.cap bytes) head a e;
          noted = λ other_head b. refl;
        },
      );
    }
    go (Some code) e = over_follows s.limits (level_in s.phase) _ _ refl ((level_in s.phase), refl, (refl, refl))
server_items s bytes items v o h (at_once head) r = rw o (go (untimely s.phase Server head.kind) refl)
  where
    t : SessionState
    t = with_pending s Server bytes

    go : (code : Option Code) → untimely s.phase Server head.kind ≡ code →
        Follows s.limits (level_in s.phase)
        (came_in_phase s.phase (fault_or Server code (Some (frame_cause Server (level_in s.phase) head []))))
        (let more = items_outcome (header_outcome t Server code).state Server (Whole head [] ∷ []) v in
        record { state = more.state; effects = (header_outcome t Server code).effects ++ more.effects })
    go None e =
        alone s.limits (level_in s.phase) (one s.phase (frame_cause Server (level_in s.phase) head [])) (with_noted t Server (level_in s.phase)) Server
        head [] v o
        (server_frame s.phase (with_noted t Server (level_in s.phase)) (level_in s.phase) head.kind head.len [] v refl o e h.bot refl
        (let q = rw e at r in q))
    go (Some code) e = over_follows s.limits (level_in s.phase) _ _ refl ((level_in s.phase), refl, (refl, refl))
server_items s bytes items v o h (ended head body b) r =
    alone s.limits (level_in s.phase) (one s.phase (frame_cause Server s.sides.server.noted head body)) (with_pending s Server bytes)
    Server head body v o
    (server_frame s.phase (with_pending s Server bytes) s.sides.server.noted head.kind head.len body v refl o (h.server head b)
    h.bot (h.noted head b) r)
server_items s bytes items v o h (wrong code) r =
    rw o (over_follows s.limits (level_in s.phase) _ _ refl ((level_in s.phase), refl, (refl, refl)))

-- ---- one event

timer_follows : (phase : SessionPhase) (s : SessionState) → Ready s →
    Follows s.limits (level_in s.phase) (came_in_phase s.phase (timeout_in phase)) (im_timer_expired phase s)
timer_follows WaitIm s h = over_follows s.limits (level_in s.phase) _ _ refl ((level_in s.phase), refl, (refl, refl))
timer_follows WaitRm s h = record { next = (level_in s.phase); levels = (refl, refl); ready = λ live. (refl, h) }
timer_follows (Open level) s h = record { next = (level_in s.phase); levels = (refl, refl); ready = λ live. (refl, h) }
timer_follows (Over ending) s h = record { next = (level_in s.phase); levels = (refl, refl); ready = λ live. (refl, h) }

event_follows : (s : SessionState) (event : Event) (v : Verdict) → is_over s.phase ≡ false → Ready s →
    IsCorrectVerdict s.limits.words s.limits.max_depth (question s event) v →
    Follows s.limits (level_in s.phase) (came_in_phase s.phase (cause_at s event)) (event_outcome s event v)
event_follows s (Comes Bot x) v o h r =
    let bytes = s.sides.bot.pending ++ x ∷ [] in
    rw o (bot_items s bytes (last_items s.limits.cap bytes) v o h (turn s.limits.cap s.sides.bot.pending x))
event_follows s (Comes Server x) v o h r =
    let bytes = s.sides.server.pending ++ x ∷ [] in
    rw o (server_items s bytes (last_items s.limits.cap bytes) v o h (turn s.limits.cap s.sides.server.pending x)
    (let q = rw o at r in q))
event_follows s (Ends side) v o h r =
    rw o (over_follows s.limits (level_in s.phase) _ _ refl ((level_in s.phase), refl, (refl, refl)))
event_follows s (Loses side) v o h r =
    rw o (over_follows s.limits (level_in s.phase) _ _ refl ((level_in s.phase), refl, (refl, refl)))
event_follows s ImTimerExpired v o h r = timer_follows s.phase s h
event_follows s OperatorStops v o h r =
    rw o (over_follows s.limits (level_in s.phase) _ _ refl ((level_in s.phase), refl, (refl, refl)))

step_follows : (s : SessionState) (event : Event) (effects : List Effect) (m : SessionState) → Transition s event effects m →
    is_over s.phase ≡ false → Ready s →
    Follows s.limits (level_in s.phase) (came_in_phase s.phase (cause_at s event)) (record { state = m; effects = effects })
step_follows s event effects m t o h =
    subst (Follows s.limits (level_in s.phase) (came_in_phase s.phase (cause_at s event))) t.outcome
    (event_follows s event t.verdict o h t.right)

-- ---- a run

none_came : (limits : Limits) (came : List Came) → HaveFates limits came [] → came ≡ []
none_came limits [] f = refl
none_came limits (c ∷ more) f = absurd f

-- after the end of the session there are no further causes
over_levels : (s : SessionState) (events : List Event) (effects : List Effect) (new : SessionState)
    (run : Runs s events effects new) (limits : Limits) (level : Level) → is_over s.phase ≡ true →
    HaveLevels limits level (came_in s events effects new run) effects level
over_levels s events effects new run limits level e =
    let no_moves : effects ≡ [] = (one_run events s effects [] new s run (over_stays s events e)).0 in
    let none : came_in s events effects new run ≡ [] = none_came s.limits (came_in s events effects new run)
    (subst (HaveFates s.limits (came_in s events effects new run)) no_moves (run_fates s events effects new run)) in
    rw none (no_moves, refl)

pub run_levels : (s : SessionState) (events : List Event) (effects : List Effect) (new : SessionState)
    (run : Runs s events effects new) → is_over s.phase ≡ false → Ready s →
    (queue_final : Level) × HaveLevels s.limits (level_in s.phase) (came_in s events effects new run) effects queue_final
run_levels s [] effects new run o h = ((level_in s.phase), (run.0, refl))
run_levels s (event ∷ events) effects new run o h =
    go (is_over run.0.phase) refl (λ e k. run_levels run.0 events run.2 new run.4 e k)
  where
    f : Follows s.limits (level_in s.phase) (came_in_phase s.phase (cause_at s event)) (record { state = run.0; effects = run.1 })
    f = step_follows s event run.1 run.0 run.3 o h

    kept : run.0.limits ≡ s.limits
    kept =
        runs_limits (event ∷ []) s run.0 run.1 (run.0, run.1, [], run.3, (refl, refl), sym (append-nil run.1))

    later : List Came
    later = came_in run.0 events run.2 new run.4

    both : (queue_final : Level) → HaveLevels s.limits f.next later run.2 queue_final →
        (queue_final : Level) × HaveLevels s.limits (level_in s.phase) (came_in s (event ∷ events) effects new run) effects queue_final
    both queue_final k = (
      queue_final,
      subst (λ (es : List Effect). HaveLevels s.limits (level_in s.phase) (came_in s (event ∷ events) effects new run) es queue_final)
          (sym run.5)
          (levels_join s.limits (came_in_phase s.phase (cause_at s event)) later run.1 run.2 (level_in s.phase) f.next queue_final f.levels
          k),
    )

    go : (b : Bool) → is_over run.0.phase ≡ b → (is_over run.0.phase ≡ false → Ready run.0 →
        (queue_final : Level) × HaveLevels run.0.limits (level_in run.0.phase) later run.2 queue_final) →
        (queue_final : Level) × HaveLevels s.limits (level_in s.phase) (came_in s (event ∷ events) effects new run) effects queue_final
    go true e rest = both f.next (over_levels run.0 events run.2 new run.4 s.limits f.next e)
    go false e rest =
        let ready = f.ready e in
        let r = rest e ready.1 in
        both r.0 (subst (λ (l : Level). HaveLevels s.limits l later run.2 r.0) ready.0
        (subst (λ (l : Limits). HaveLevels l (level_in run.0.phase) later run.2 r.0) kept r.1))
