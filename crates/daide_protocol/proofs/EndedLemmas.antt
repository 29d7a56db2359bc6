-- The first event that ended a session is known, and so is its ending.
use Rattle.daide_protocol.proofs.Common.{◌≡◌, ℕ, Bool, true, false, List, [], ◌∷◌, ◌++◌, Option, Some, None, Result, Ok}
use Rattle.daide_protocol.proofs.Common.{Err, refl, sym, ◌∙◌, ap, subst, Side, Bot, Server, Kind, Im, Rm, Dm, Fm, Em}
use Rattle.daide_protocol.proofs.Common.{Head, Code, im_of, FrameEvent, Whole, last_items, Level, Verdict, SessionPhase}
use Rattle.daide_protocol.proofs.Common.{WaitIm, WaitRm, Open, Over, Event, Comes, Ends, Loses, ImTimerExpired}
use Rattle.daide_protocol.proofs.Common.{OperatorStops, SessionState, Effect, Successor, Transition, Runs, coming}
use Rattle.daide_protocol.proofs.Common.{with_pending, with_noted, is_over, level_in, ending_in, header_outcome}
use Rattle.daide_protocol.proofs.Common.{untimely, frame_outcome, answered, im_answered, items_outcome}
use Rattle.daide_protocol.proofs.Common.{im_timer_expired, event_outcome, tokens_of}
use Rattle.daide_protocol.specs.Fates.{EventCause, checked_frame, frame_cause, fault_or, items_cause, timeout_in}
use Rattle.daide_protocol.specs.Ended.{cause_ending, ending_at, IsEndedBy}
use Rattle.daide_protocol.proofs.FrameShapes.{Shape, quiet, headed, at_once, shape}
use Rattle.daide_protocol.proofs.FrameShapes as Shapes
use Rattle.daide_protocol.proofs.FramesHeard.{not_both}
use Rattle.daide_protocol.proofs.OneRun.{one_run}
use Rattle.daide_protocol.proofs.PhaseLemmas.{message_ends_nothing}
use Rattle.daide_protocol.proofs.PieceRuns.{over_stays}

-- ---- a whole frame

-- if the session is over, this cause ended it
abbrev EndsBy : Option EventCause → SessionState → Type 0
EndsBy cause new = is_over new.phase ≡ true → ending_in new.phase ≡ cause_ending cause

frame_ends : (s : SessionState) (side : Side) (noted : Level) (kind : Kind) (len : ℕ) (body : List ℕ) (v : Verdict) →
    let head : Head = record { kind = kind; len = len } in is_over s.phase ≡ false →
    EndsBy (Some (frame_cause side noted head body)) (frame_outcome s side head body v).state
frame_ends s side noted Im len body v o = checked (im_of body)
  where
    head : Head
    head = record { kind = Im; len = len }

    checked : (r : Result (Unit {0}) Code) →
        EndsBy (Some (checked_frame side noted head body r)) (im_answered (answered s side head body v) s side r).state
    checked (Ok u) = λ h. absurd (cc)
    checked (Err code) = λ h. refl
frame_ends s side noted Rm len body v o = λ h. absurd (cc)
frame_ends s side noted Dm len body v o = λ h.
    absurd (not_both (is_over s.phase)
    (sym (message_ends_nothing s.limits.top_level side v (tokens_of body) s.phase) ∙ h) o)
frame_ends s side noted Fm len body v o = λ h. refl
frame_ends s side noted Em len body v o = λ h. refl

-- ---- the frame events that end with one byte

noted_ends : (s : SessionState) (side : Side) (l : Level) → is_over s.phase ≡ false → EndsBy None (with_noted s side l)
noted_ends s Bot l o = λ h. absurd (not_both (is_over s.phase) h o)
noted_ends s Server l o = λ h. absurd (not_both (is_over s.phase) h o)

at_once_ends : (s : SessionState) (side : Side) (head : Head) (v : Verdict) → is_over s.phase ≡ false →
    EndsBy (Some (frame_cause side (level_in s.phase) head []))
    (items_outcome (with_noted s side (level_in s.phase)) side (Whole head [] ∷ []) v).state
at_once_ends s Bot head v o = rw o (frame_ends (with_noted s Bot (level_in s.phase)) Bot (level_in s.phase) head.kind head.len [] v o)
at_once_ends s Server head v o = rw o (frame_ends
    (with_noted s Server (level_in s.phase)) Server (level_in s.phase) head.kind head.len [] v o)

items_end : (s : SessionState) (side : Side) (items : List FrameEvent) (v : Verdict) → Shape s.limits.cap items →
    is_over s.phase ≡ false →
    EndsBy (items_cause side (coming s side).noted (level_in s.phase) (untimely s.phase side) items)
    (items_outcome s side items v).state
items_end s side items v quiet o = λ h. absurd (not_both (is_over s.phase) h o)
items_end s side items v (headed head) o = rw o (go (untimely s.phase side head.kind))
  where
    go : (code : Option Code) → EndsBy (fault_or side code None) (header_outcome s side code).state
    go None = noted_ends s side (level_in s.phase) o
    go (Some code) = λ h. refl
items_end s side items v (at_once head w) o = rw o (go (untimely s.phase side head.kind))
  where
    go : (code : Option Code) →
        EndsBy (fault_or side code (Some (frame_cause side (level_in s.phase) head [])))
        (items_outcome (header_outcome s side code).state side (Whole head [] ∷ []) v).state
    go None = at_once_ends s side head v o
    go (Some code) = λ h. refl
items_end s side items v (Shapes.whole head body w) o =
    rw o (frame_ends s side (coming s side).noted head.kind head.len body v o)
items_end s side items v (Shapes.wrong code) o = rw o (λ h. refl)

-- ---- one event

byte_ends : (s : SessionState) (side : Side) (bytes : List ℕ) (v : Verdict) → is_over s.phase ≡ false →
    EndsBy (items_cause side (coming s side).noted (level_in s.phase) (untimely s.phase side) (last_items s.limits.cap bytes))
    (items_outcome (with_pending s side bytes) side (last_items s.limits.cap bytes) v).state
byte_ends s Bot bytes v o =
    items_end (with_pending s Bot bytes) Bot (last_items s.limits.cap bytes) v (shape s.limits.cap bytes) o
byte_ends s Server bytes v o =
    items_end (with_pending s Server bytes) Server (last_items s.limits.cap bytes) v (shape s.limits.cap bytes) o

timer_ends : (phase : SessionPhase) (s : SessionState) → s.phase ≡ phase → is_over phase ≡ false →
    EndsBy (timeout_in phase) (im_timer_expired phase s).state
timer_ends WaitIm s e o = λ h. refl
timer_ends WaitRm s e o = λ h. absurd (not_both (is_over s.phase) h (ap is_over e))
timer_ends (Open level) s e o = λ h. absurd (not_both (is_over s.phase) h (ap is_over e))
timer_ends (Over ending) s e o = λ h. absurd (cc)

event_ends : (s : SessionState) (event : Event) (v : Verdict) → is_over s.phase ≡ false →
    let new = (event_outcome s event v).state in is_over new.phase ≡ true → ending_in new.phase ≡ ending_at s event
event_ends s (Comes side byte) v o = rw o (byte_ends s side ((coming s side).pending ++ byte ∷ []) v o)
event_ends s (Ends side) v o = rw o (λ h. refl)
event_ends s (Loses side) v o = rw o (λ h. refl)
event_ends s ImTimerExpired v o = timer_ends s.phase s refl o
event_ends s OperatorStops v o = rw o (λ h. refl)

step_ends : (s : SessionState) (event : Event) (moves : List Effect) (new : SessionState) → Transition s event moves new →
    is_over s.phase ≡ false → is_over new.phase ≡ true → ending_in new.phase ≡ ending_at s event
step_ends s event moves new t o =
    subst (λ (x : Successor). is_over x.state.phase ≡ true → ending_in x.state.phase ≡ ending_at s event) t.outcome
    (event_ends s event t.verdict o)

-- ---- a run

pub runs_end : (first : SessionState) (events : List Event) (effects : List Effect) (new : SessionState) →
    Runs first events effects new → is_over first.phase ≡ false → is_over new.phase ≡ true →
    IsEndedBy first events new
runs_end first [] effects new run o over =
    absurd (not_both (is_over first.phase) (ap (λ (s : SessionState). is_over s.phase) (sym run.1) ∙ over) o)
runs_end first (event ∷ events) effects new run o over =
    go (is_over run.0.phase) refl (λ e. runs_end run.0 events run.2 new run.4 e over)
  where
    go : (b : Bool) → is_over run.0.phase ≡ b → (is_over run.0.phase ≡ false → IsEndedBy run.0 events new) →
        IsEndedBy first (event ∷ events) new
    go true e later =
        let same : new ≡ run.0 = (one_run events run.0 run.2 [] new run.0 run.4 (over_stays run.0 events e)).1 in
        let step = subst (λ (s : SessionState). Transition first event run.1 s) (sym same) run.3 in
        record {
          before = [];
          event = event;
          after = events;
          events_are = refl;
          old = first;
          moves_before = [];
          run_before = (refl, refl);
          not_over = o;
          moves = run.1;
          step = step;
          ending = step_ends first event run.1 new step o over;
        }
    go false e later =
        let rest = later e in
        record {
          before = event ∷ rest.before;
          event = rest.event;
          after = rest.after;
          events_are = ap (λ (es : List Event). event ∷ es) rest.events_are;
          old = rest.old;
          moves_before = run.1 ++ rest.moves_before;
          run_before = (run.0, run.1, rest.moves_before, run.3, rest.run_before, refl);
          not_over = rest.not_over;
          moves = rest.moves;
          step = rest.step;
          ending = rest.ending;
        }
