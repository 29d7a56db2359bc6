-- Each input of a run has one effect, its fate; and the frames among the inputs are those of the cut.
use Rattle.daide_protocol.proofs.Common.{◌≡◌, ℕ, Bool, true, false, List, [], ◌∷◌, ◌++◌, Option, Some, None, Result, Ok}
use Rattle.daide_protocol.proofs.Common.{Err, if◌then◌else◌, ◌⊎◌, inl, inr, refl, sym, ◌∙◌, ap, subst, append_assoc}
use Rattle.daide_protocol.proofs.Common.{append-nil, Side, Bot, Server, Kind, Im, Rm, Dm, Fm, Em, Head, Code, is_im}
use Rattle.daide_protocol.proofs.Common.{im_of, FrameEvent, Begun, Whole, Wrong, frame_events_of, last_items, cut}
use Rattle.daide_protocol.proofs.Common.{Level, Verdict, Relay, Prn, Huh, SessionPhase, WaitIm, WaitRm, Open, Over}
use Rattle.daide_protocol.proofs.Common.{answer_bytes, Event, Comes, Ends, Loses, ImTimerExpired, OperatorStops, Limits}
use Rattle.daide_protocol.proofs.Common.{SessionState, Effect, Successor, Transition, Runs, IsCorrectVerdict, coming}
use Rattle.daide_protocol.proofs.Common.{with_pending, with_noted, is_over, untimely, answered, im_answered}
use Rattle.daide_protocol.proofs.Common.{frame_outcome, items_outcome, reply_to, asked_by, question_of, event_outcome}
use Rattle.daide_protocol.proofs.Common.{im_timer_expired, initial_state, header_outcome, question, level_in, same_side}
use Rattle.daide_protocol.proofs.Common.{bytes_from, heard_at, items_heard}
use Rattle.daide_protocol.specs.Fates.{EventCause, Frame, End, Stop, Came, checked_frame, frame_cause, fault_or}
use Rattle.daide_protocol.specs.Fates.{items_cause, cause_at, timeout_in, came_in_phase, came_in}
use Rattle.daide_protocol.specs.Fates.{is_passed_on, is_answered_prn, is_answered_huh, HaveFates, frames_among}
use Rattle.daide_protocol.specs.Fates.{whole_frame_from, frames_from}
use Rattle.daide_protocol.proofs.FrameShapes.{Shape, quiet, headed, at_once, shape}
use Rattle.daide_protocol.proofs.FrameShapes as Shapes
use Rattle.daide_protocol.proofs.FramesHeard.{not_both, stays_over, over_hears, over_for_good, frames_heard}
use Rattle.daide_protocol.proofs.LimitsKept.{runs_limits}

-- ---- a whole frame

-- the input made of a frame, with its phase
abbrev came : SessionPhase → EventCause → List Came
came phase cause = record { phase = phase; cause = cause } ∷ []

frame_fates : (t : SessionState) (side : Side) (noted : Level) (kind : Kind) (len : ℕ) (body : List ℕ) (v : Verdict) →
    let head : Head = record { kind = kind; len = len } in
    IsCorrectVerdict t.limits.words t.limits.max_depth (question_of side noted head body) v →
    HaveFates t.limits (came t.phase (frame_cause side noted head body)) (frame_outcome t side head body v).effects
unfolding answer_bytes
frame_fates t side noted Im len body v r = checked (im_of body)
  where
    head : Head
    head = record { kind = Im; len = len }

    checked : (o : Result (Unit {0}) Code) →
        HaveFates t.limits (came t.phase (checked_frame side noted head body o))
        (im_answered (answered t side head body v) t side o).effects
    checked (Ok u) = (ap (λ (w : Verdict). reply_to side head body w ∷ []) r, refl)
    checked (Err code) = (refl, refl)
frame_fates t side noted Rm len body v r =
    (ap (λ (w : Verdict). reply_to side (record { kind = Rm; len = len }) body w ∷ []) r, refl)
frame_fates t side noted Dm len body Relay r = (is_passed_on r refl, refl)
frame_fates t side noted Dm len body Prn r = (is_answered_prn r refl, refl)
frame_fates t side noted Dm len body (Huh place) r = (is_answered_huh place r refl, refl)
frame_fates t side noted Fm len body v r = rw r (refl, refl)
frame_fates t side noted Em len body v r = rw r (refl, refl)

-- the effects of the last frame event, with none after it
one_more : (limits : Limits) (c : List Came) (effects : List Effect) → HaveFates limits c effects →
    HaveFates limits c (effects ++ [])
one_more limits c effects h = subst (HaveFates limits c) (sym (append-nil effects)) h

-- ---- the frame events that end with one byte

-- a frame whose header and body end with the same byte is judged by the current level
at_once_fates : (t : SessionState) (side : Side) (head : Head) (v : Verdict) → is_over t.phase ≡ false →
    IsCorrectVerdict t.limits.words t.limits.max_depth (question_of side (level_in t.phase) head []) v →
    HaveFates t.limits (came t.phase (frame_cause side (level_in t.phase) head []))
    (items_outcome (with_noted t side (level_in t.phase)) side (Whole head [] ∷ []) v).effects
at_once_fates t Bot head v o r = rw o
    (one_more t.limits (came t.phase (frame_cause Bot (level_in t.phase) head []))
    (frame_outcome (with_noted t Bot (level_in t.phase)) Bot head [] v).effects
    (frame_fates (with_noted t Bot (level_in t.phase)) Bot (level_in t.phase) head.kind head.len [] v r))
at_once_fates t Server head v o r = rw o
    (one_more t.limits (came t.phase (frame_cause Server (level_in t.phase) head []))
    (frame_outcome (with_noted t Server (level_in t.phase)) Server head [] v).effects
    (frame_fates (with_noted t Server (level_in t.phase)) Server (level_in t.phase) head.kind head.len [] v r))

items_fates : (t : SessionState) (side : Side) (items : List FrameEvent) (v : Verdict) → Shape t.limits.cap items →
    is_over t.phase ≡ false → IsCorrectVerdict t.limits.words t.limits.max_depth (asked_by t side items) v →
    HaveFates t.limits
    (came_in_phase t.phase (items_cause side (coming t side).noted (level_in t.phase) (untimely t.phase side) items))
    (items_outcome t side items v).effects
items_fates t side items v quiet o r = refl
items_fates t side items v (headed head) o r = rw o (go (untimely t.phase side head.kind))
  where
    go : (code : Option Code) →
        HaveFates t.limits (came_in_phase t.phase (fault_or side code None)) ((header_outcome t side code).effects ++ [])
    go None = refl
    go (Some code) = (refl, refl)
items_fates t side items v (at_once head w) o r =
    rw o (go (untimely t.phase side head.kind) refl)
  where
    Goal : Option Code → Type 0
    Goal code =
        HaveFates t.limits (came_in_phase t.phase (fault_or side code (Some (frame_cause side (level_in t.phase) head []))))
        ((header_outcome t side code).effects ++ (items_outcome (header_outcome t side code).state side (Whole head [] ∷ []) v).effects)

    go : (code : Option Code) → untimely t.phase side head.kind ≡ code → Goal code
    go None e = at_once_fates t side head v o (let h = rw e at r in h)
    go (Some code) e = (refl, refl)
items_fates t side items v (Shapes.whole head body w) o r = rw o
    (one_more t.limits (came t.phase (frame_cause side (coming t side).noted head body))
    (frame_outcome t side head body v).effects
    (frame_fates t side (coming t side).noted head.kind head.len body v r))
items_fates t side items v (Shapes.wrong code) o r = rw o (refl, refl)

-- ---- one event

-- a byte from a side extends that side's pending bytes, and changes nothing else
byte_fates : (s : SessionState) (side : Side) (bytes : List ℕ) (v : Verdict) → is_over s.phase ≡ false →
    IsCorrectVerdict s.limits.words s.limits.max_depth (asked_by s side (last_items s.limits.cap bytes)) v →
    HaveFates s.limits
    (came_in_phase s.phase (items_cause side (coming s side).noted (level_in s.phase) (untimely s.phase side)
    (last_items s.limits.cap bytes)))
    (items_outcome (with_pending s side bytes) side (last_items s.limits.cap bytes) v).effects
byte_fates s Bot bytes v o r =
    items_fates (with_pending s Bot bytes) Bot (last_items s.limits.cap bytes) v (shape s.limits.cap bytes) o r
byte_fates s Server bytes v o r =
    items_fates (with_pending s Server bytes) Server (last_items s.limits.cap bytes) v (shape s.limits.cap bytes) o r

timer_fates : (limits : Limits) (phase : SessionPhase) (s : SessionState) →
    HaveFates limits (came_in_phase phase (timeout_in phase)) (im_timer_expired phase s).effects
timer_fates limits WaitIm s = (refl, refl)
timer_fates limits WaitRm s = refl
timer_fates limits (Open level) s = refl
timer_fates limits (Over ending) s = refl

event_fates : (s : SessionState) (event : Event) (v : Verdict) →
    IsCorrectVerdict s.limits.words s.limits.max_depth (question s event) v →
    HaveFates s.limits (came_in_phase s.phase (cause_at s event)) (event_outcome s event v).effects
event_fates s (Comes side byte) v r = go (is_over s.phase) refl
  where
    go : (b : Bool) → is_over s.phase ≡ b →
        HaveFates s.limits (came_in_phase s.phase (cause_at s (Comes side byte))) (event_outcome s
        (Comes side byte) v).effects
    go true o = rw o refl
    go false o = rw o (byte_fates s side ((coming s side).pending ++ byte ∷ []) v o (let h = rw o at r in h))
event_fates s (Ends side) v r = go (is_over s.phase) refl
  where
    go : (b : Bool) → is_over s.phase ≡ b →
        HaveFates s.limits (came_in_phase s.phase (cause_at s (Ends side))) (event_outcome s (Ends side) v).effects
    go true o = rw o refl
    go false o = rw o (refl, refl)
event_fates s (Loses side) v r = go (is_over s.phase) refl
  where
    go : (b : Bool) → is_over s.phase ≡ b →
        HaveFates s.limits (came_in_phase s.phase (cause_at s (Loses side))) (event_outcome s (Loses side) v).effects
    go true o = rw o refl
    go false o = rw o (refl, refl)
event_fates s ImTimerExpired v r = timer_fates s.limits s.phase s
event_fates s OperatorStops v r = go (is_over s.phase) refl
  where
    go : (b : Bool) → is_over s.phase ≡ b →
        HaveFates s.limits (came_in_phase s.phase (cause_at s OperatorStops)) (event_outcome s OperatorStops v).effects
    go true o = rw o refl
    go false o = rw o (refl, refl)

step_fates : (s : SessionState) (event : Event) (effects : List Effect) (m : SessionState) → Transition s event effects m →
    HaveFates s.limits (came_in_phase s.phase (cause_at s event)) effects
step_fates s event effects m t =
    subst (λ (o : Successor). HaveFates s.limits (came_in_phase s.phase (cause_at s event)) o.effects) t.outcome
    (event_fates s event t.verdict t.right)

-- ---- a run

fates_join : (limits : Limits) (a b : List Came) (x y : List Effect) → HaveFates limits a x → HaveFates limits b y →
    HaveFates limits (a ++ b) (x ++ y)
fates_join limits [] b x y h k = rw h k
fates_join limits (c ∷ a) b [] y h k = absurd h
fates_join limits (c ∷ a) b (e ∷ x) y h k = (h.0, fates_join limits a b x y h.1 k)

pub run_fates : (s : SessionState) (events : List Event) (effects : List Effect) (new : SessionState)
    (run : Runs s events effects new) →
    HaveFates s.limits (came_in s events effects new run) effects
run_fates s [] effects new run = run.0
run_fates s (event ∷ events) effects new run =
    let kept : run.0.limits ≡ s.limits = runs_limits (event ∷ []) s run.0 run.1
    (run.0, run.1, [], run.3, (refl, refl), sym (append-nil run.1)) in
    let rest = subst (λ (l : Limits). HaveFates l (came_in run.0 events run.2 new run.4) run.2) kept
    (run_fates run.0 events run.2 new run.4) in
    subst (HaveFates s.limits (came_in s (event ∷ events) effects new run)) (sym run.5)
    (fates_join s.limits (came_in_phase s.phase (cause_at s event)) (came_in run.0 events run.2 new run.4) run.1 run.2
    (step_fates s event run.1 run.0 run.3) rest)

-- ---- the frames among the inputs

pub frames_among-append : (a b : List FrameEvent) → frames_among (a ++ b) ≡ frames_among a ++ frames_among b
frames_among-append [] b = refl
frames_among-append (Begun head ∷ a) b = frames_among-append a b
frames_among-append (Whole head body ∷ a) b = ap (λ (t : List FrameEvent). Whole head body ∷ t) (frames_among-append a b)
frames_among-append (Wrong code ∷ a) b = frames_among-append a b

frames_from-append : (side : Side) (a b : List Came) → frames_from side (a ++ b)
    ≡ frames_from side a ++ frames_from side b
frames_from-append side [] b = refl
frames_from-append side (c ∷ a) b =
    ap (λ (t : List FrameEvent). whole_frame_from side c.cause ++ t) (frames_from-append side a b)
    ∙ sym (append_assoc (whole_frame_from side c.cause) (frames_from side a) (frames_from side b))

over_causes : (s : SessionState) (event : Event) → is_over s.phase ≡ true → cause_at s event ≡ None
over_causes s (Comes side byte) o = rw o refl
over_causes s (Ends side) o = rw o refl
over_causes s (Loses side) o = rw o refl
over_causes s ImTimerExpired o = by_phase s.phase o
  where
    by_phase : (phase : SessionPhase) → is_over phase ≡ true → timeout_in phase ≡ None
    by_phase WaitIm e = absurd (cc)
    by_phase WaitRm e = refl
    by_phase (Open level) e = refl
    by_phase (Over ending) e = refl
over_causes s OperatorStops o = rw o refl

-- there is no input once the session is over
over_comes : (s : SessionState) (events : List Event) (effects : List Effect) (new : SessionState)
    (run : Runs s events effects new) →
    is_over s.phase ≡ true → came_in s events effects new run ≡ []
over_comes s [] effects new run o = refl
over_comes s (event ∷ events) effects new run o =
    let same = stays_over s event run.1 run.0 run.3 o in
    rw (over_causes s event o)
    (over_comes run.0 events run.2 new run.4 (ap (λ (q : SessionState). is_over q.phase) same ∙ o))

-- the frames that end at an event are inputs, or the session is over
abbrev ComeHere : Side → List FrameEvent → List Came → SessionState → Type 0
ComeHere side items c after =
    (frames_among items ≡ frames_from side c) ⊎ ((frames_from side c ≡ []) × (is_over after.phase ≡ true))

own_frame : (side : Side) (noted : Level) (head : Head) (body : List ℕ) →
    Whole head body ∷ [] ≡ whole_frame_from side (Frame side noted head body) ++ []
own_frame Bot noted head body = refl
own_frame Server noted head body = refl

frame_comes : (t : SessionState) (side : Side) (noted : Level) (kind : Kind) (len : ℕ) (body : List ℕ) (v : Verdict) →
    let head : Head = record { kind = kind; len = len } in
    ComeHere side (Whole head body ∷ []) (came t.phase (frame_cause side noted head body))
    (frame_outcome t side head body v).state
frame_comes t side noted Im len body v = checked (im_of body)
  where
    head : Head
    head = record { kind = Im; len = len }

    checked : (o : Result (Unit {0}) Code) →
        ComeHere side (Whole head body ∷ []) (came t.phase (checked_frame side noted head body o))
        (im_answered (answered t side head body v) t side o).state
    checked (Ok u) = inl (own_frame side noted head body)
    checked (Err code) = inr (refl, refl)
frame_comes t side noted Rm len body v = inl (own_frame side noted (record { kind = Rm; len = len }) body)
frame_comes t side noted Dm len body v = inl (own_frame side noted (record { kind = Dm; len = len }) body)
frame_comes t side noted Fm len body v = inl (own_frame side noted (record { kind = Fm; len = len }) body)
frame_comes t side noted Em len body v = inl (own_frame side noted (record { kind = Em; len = len }) body)

at_once_comes : (t : SessionState) (side : Side) (head : Head) (v : Verdict) → is_over t.phase ≡ false →
    ComeHere side (Begun head ∷ Whole head [] ∷ []) (came t.phase (frame_cause side (level_in t.phase) head []))
    (items_outcome (with_noted t side (level_in t.phase)) side (Whole head [] ∷ []) v).state
at_once_comes t Bot head v o = rw o (frame_comes (with_noted t Bot (level_in t.phase)) Bot (level_in t.phase) head.kind head.len [] v)
at_once_comes t Server head v o = rw o (frame_comes
    (with_noted t Server (level_in t.phase)) Server (level_in t.phase) head.kind head.len [] v)

items_come : (t : SessionState) (side : Side) (items : List FrameEvent) (v : Verdict) → Shape t.limits.cap items →
    is_over t.phase ≡ false →
    ComeHere side items
    (came_in_phase t.phase (items_cause side (coming t side).noted (level_in t.phase) (untimely t.phase side) items))
    (items_outcome t side items v).state
items_come t side items v quiet o = inl refl
items_come t side items v (headed head) o = go (untimely t.phase side head.kind)
  where
    go : (code : Option Code) →
        ComeHere side (Begun head ∷ []) (came_in_phase t.phase (fault_or side code None))
        (items_outcome t side (Begun head ∷ []) v).state
    go None = inl refl
    go (Some code) = inl refl
items_come t side items v (at_once head w) o = rw o (go (untimely t.phase side head.kind))
  where
    go : (code : Option Code) →
        ComeHere side (Begun head ∷ Whole head [] ∷ [])
        (came_in_phase t.phase (fault_or side code (Some (frame_cause side (level_in t.phase) head []))))
        (items_outcome (header_outcome t side code).state side (Whole head [] ∷ []) v).state
    go None = at_once_comes t side head v o
    go (Some code) = inr (refl, refl)
items_come t side items v (Shapes.whole head body w) o =
    rw o (frame_comes t side (coming t side).noted head.kind head.len body v)
items_come t side items v (Shapes.wrong code) o = inl refl

byte_comes : (s : SessionState) (side : Side) (bytes : List ℕ) (v : Verdict) → is_over s.phase ≡ false →
    ComeHere side (last_items s.limits.cap bytes)
    (came_in_phase s.phase (items_cause side (coming s side).noted (level_in s.phase) (untimely s.phase side)
    (last_items s.limits.cap bytes)))
    (items_outcome (with_pending s side bytes) side (last_items s.limits.cap bytes) v).state
byte_comes s Bot bytes v o =
    items_come (with_pending s Bot bytes) Bot (last_items s.limits.cap bytes) v (shape s.limits.cap bytes) o
byte_comes s Server bytes v o =
    items_come (with_pending s Server bytes) Server (last_items s.limits.cap bytes) v (shape s.limits.cap bytes) o

-- an input from the other side is no frame from this one
beside_comes : (side from : Side) → same_side from side ≡ false → (phase : SessionPhase) (noted now : Level)
    (refusal : Kind → Option Code) (items : List FrameEvent) →
    [] ≡ frames_from side (came_in_phase phase (items_cause from noted now refusal items))
beside_comes side from e phase noted now refusal [] = refl
beside_comes side from e phase noted now refusal (Begun head ∷ items) =
    go (refusal head.kind) (beside_comes side from e phase now now refusal items)
  where
    go : (code : Option Code) → [] ≡ frames_from side (came_in_phase phase (items_cause from now now refusal items)) →
        [] ≡ frames_from side (came_in_phase phase (fault_or from code (items_cause from now now refusal items)))
    go None later = later
    go (Some code) later = refl
beside_comes side from e phase noted now refusal (Whole head body ∷ items) =
    go (if is_im head.kind then im_of body else Ok tt)
  where
    go : (o : Result (Unit {0}) Code) → [] ≡ frames_from side (came phase (checked_frame from noted head body o))
    go (Ok u) = rw e refl
    go (Err code) = refl
beside_comes side from e phase noted now refusal (Wrong code ∷ items) = refl

event_comes : (side : Side) (s : SessionState) (event : Event) (v : Verdict) →
    ComeHere side (heard_at side s event) (came_in_phase s.phase (cause_at s event)) (event_outcome s event v).state
event_comes side s (Comes from x) v = go (is_over s.phase) refl
  where
    items : List FrameEvent
    items = last_items s.limits.cap ((coming s from).pending ++ x ∷ [])

    Goal : Side → Side → Type 0
    Goal side from =
        ComeHere side (heard_at side s (Comes from x)) (came_in_phase s.phase (cause_at s (Comes from x)))
        (event_outcome s (Comes from x) v).state

    by_side : (side from : Side) → is_over s.phase ≡ false → Goal side from
    by_side Bot Bot o = rw o (byte_comes s Bot ((coming s Bot).pending ++ x ∷ []) v o)
    by_side Server Server o = rw o (byte_comes s Server ((coming s Server).pending ++ x ∷ []) v o)
    by_side Bot Server o = rw o (inl (beside_comes Bot Server refl s.phase (coming s Server).noted (level_in s.phase)
        (untimely s.phase Server) (last_items s.limits.cap ((coming s Server).pending ++ x ∷ []))))
    by_side Server Bot o = rw o (inl (beside_comes Server Bot refl s.phase (coming s Bot).noted (level_in s.phase)
        (untimely s.phase Bot) (last_items s.limits.cap ((coming s Bot).pending ++ x ∷ []))))

    go : (b : Bool) → is_over s.phase ≡ b → Goal side from
    go true o = rw o (inl refl)
    go false o = by_side side from o
event_comes side s (Ends from) v = go (is_over s.phase)
  where
    go : (b : Bool) →
        ComeHere side [] (came_in_phase s.phase (if b then None else Some (End from))) (event_outcome s
        (Ends from) v).state
    go true = inl refl
    go false = inl refl
event_comes side s (Loses from) v = go (is_over s.phase)
  where
    go : (b : Bool) →
        ComeHere side [] (came_in_phase s.phase (if b then None else Some (End from))) (event_outcome s
        (Loses from) v).state
    go true = inl refl
    go false = inl refl
event_comes side s ImTimerExpired v = go s.phase
  where
    go : (phase : SessionPhase) → ComeHere side [] (came_in_phase s.phase (timeout_in phase)) (event_outcome s ImTimerExpired v).state
    go WaitIm = inl refl
    go WaitRm = inl refl
    go (Open level) = inl refl
    go (Over ending) = inl refl
event_comes side s OperatorStops v = go (is_over s.phase)
  where
    go : (b : Bool) →
        ComeHere side [] (came_in_phase s.phase (if b then None else Some Stop)) (event_outcome s OperatorStops v).state
    go true = inl refl
    go false = inl refl

-- a run's frames are those among its inputs, and then those after its end
abbrev AreFrames : Side → (s : SessionState) (events : List Event) (effects : List Effect) (new : SessionState) →
    Runs s events effects new → Type 0
AreFrames side s events effects new run =
    (later : List FrameEvent)
    × (frames_among (items_heard side s events effects new run)
    ≡ frames_from side (came_in s events effects new run) ++ later)
    × (is_over new.phase ≡ false → later ≡ [])

run_frames : (side : Side) (s : SessionState) (events : List Event) (effects : List Effect) (new : SessionState)
    (run : Runs s events effects new) →
    AreFrames side s events effects new run
run_frames side s [] effects new run = ([], refl, λ p. refl)
run_frames side s (event ∷ events) effects new run =
    go here (run_frames side run.0 events run.2 new run.4)
  where
    items : List FrameEvent
    items = heard_at side s event

    now : List Came
    now = came_in_phase s.phase (cause_at s event)

    heard : List FrameEvent
    heard = items_heard side run.0 events run.2 new run.4

    later_came : List Came
    later_came = came_in run.0 events run.2 new run.4

    here : ComeHere side items now run.0
    here = subst (λ (o : Successor). ComeHere side items now o.state) run.3.outcome
        (event_comes side s event run.3.verdict)

    go : ComeHere side items now run.0 → AreFrames side run.0 events run.2 new run.4 →
        AreFrames side s (event ∷ events) effects new run
    go (inl e) later = (
      later.0,
      frames_among-append items heard ∙ ap (λ (t : List FrameEvent). t ++ frames_among heard) e
          ∙ ap (λ (t : List FrameEvent). frames_from side now ++ t) later.1
          ∙ sym (append_assoc (frames_from side now) (frames_from side later_came) later.0)
          ∙ ap (λ (t : List FrameEvent). t ++ later.0) (sym (frames_from-append side now later_came)),
      later.2,
    )
    go (inr e) later =
        let silent : heard ≡ [] = over_hears side run.0 events run.2 new run.4 e.1 in
        let none : later_came ≡ [] = over_comes run.0 events run.2 new run.4 e.1 in
        let all : frames_from side (now ++ later_came) ≡ [] =
        frames_from-append side now later_came ∙ ap (λ (t : List FrameEvent). t ++ frames_from side later_came) e.0
        ∙ ap (frames_from side) none in (
          frames_among items,
          ap (λ (t : List FrameEvent). frames_among (items ++ t)) silent ∙ ap frames_among (append-nil items)
              ∙ ap (λ (t : List FrameEvent). t ++ frames_among items) (sym all),
          λ p. absurd (not_both (is_over new.phase) (over_for_good run.0 events run.2 new run.4 e.1) p),
        )

pub frames_come : (side : Side) (limits : Limits) (events : List Event) (effects : List Effect) (new : SessionState)
    (run : Runs (initial_state limits) events effects new) →
    (later : List FrameEvent)
    × (frames_among (frame_events_of (cut limits.cap (bytes_from side events)))
    ≡ frames_from side (came_in (initial_state limits) events effects new run) ++ later)
    × (is_over new.phase ≡ false → later ≡ [])
frames_come side limits events effects new run =
    let cuts = frames_heard side limits events effects new run in
    let comes = run_frames side (initial_state limits) events effects new run in
    let heard = items_heard side (initial_state limits) events effects new run in
    let all = frames_from side (came_in (initial_state limits) events effects new run) in (
      comes.0 ++ frames_among cuts.0,
      ap frames_among cuts.1 ∙ frames_among-append heard cuts.0
          ∙ ap (λ (t : List FrameEvent). t ++ frames_among cuts.0) comes.1 ∙ append_assoc all comes.0 (frames_among cuts.0),
      λ p. rw (comes.2 p, cuts.2 p) refl,
    )
