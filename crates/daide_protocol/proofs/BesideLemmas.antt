-- Events other than bytes from a side do not depend on that side's input, and leave it unchanged.
use Rattle.daide_protocol.proofs.Common.{◌≡◌, ℕ, Bool, true, false, cond, List, [], ◌∷◌, ◌++◌, Option, Some, None}
use Rattle.daide_protocol.proofs.Common.{Result, Ok, Err, if◌then◌else◌, refl, ◌∙◌, ap, Side, Bot, Server, Head, Code}
use Rattle.daide_protocol.proofs.Common.{is_im, im_of, FrameEvent, Begun, Whole, Wrong, last_items, Verdict}
use Rattle.daide_protocol.proofs.Common.{SessionPhase, WaitIm, WaitRm, Open, Over, other, same_side, Event, Comes, Ends}
use Rattle.daide_protocol.proofs.Common.{Loses, ImTimerExpired, OperatorStops, Coming, SessionState, Effect, Successor}
use Rattle.daide_protocol.proofs.Common.{Transition, with_coming, with_pending, is_over, untimely, header_outcome}
use Rattle.daide_protocol.proofs.Common.{answered, im_answered, item_outcome, items_outcome, im_timer_expired}
use Rattle.daide_protocol.proofs.Common.{event_outcome, nothing, question, end, stop, Ending, Ended, Lost}

-- ---- events other than a side's bytes

-- whether an event is a byte from the side
abbrev pub is_own : Side → Event → Bool
is_own side (Comes from byte) = same_side from side
is_own side (Ends from) = false
is_own side (Loses from) = false
is_own side ImTimerExpired = false
is_own side OperatorStops = false

-- an outcome with another input from a side
abbrev pub put : Side → Coming → Successor → Successor
put side c o = record { state = with_coming o.state side c; effects = o.effects }

begun_commutes : (side : Side) (s : SessionState) (c : Coming) (code : Option Code) →
    header_outcome (with_coming s side c) (other side) code ≡ put side c (header_outcome s (other side) code)
begun_commutes Bot s c None = refl
begun_commutes Bot s c (Some code) = refl
begun_commutes Server s c None = refl
begun_commutes Server s c (Some code) = refl

whole_commutes : (side : Side) (s : SessionState) (c : Coming) (head : Head) (body : List ℕ) (v : Verdict) (b : Bool)
    (r : Result (Unit {0}) Code) →
    cond b (im_answered (answered (with_coming s side c) (other side) head body v) (with_coming s side c)
    (other side) r)
    (answered (with_coming s side c) (other side) head body v)
    ≡ put side c (cond b (im_answered (answered s (other side) head body v) s (other side) r)
    (answered s (other side) head body v))
whole_commutes Bot s c head body v true (Ok u) = refl
whole_commutes Bot s c head body v true (Err code) = refl
whole_commutes Bot s c head body v false r = refl
whole_commutes Server s c head body v true (Ok u) = refl
whole_commutes Server s c head body v true (Err code) = refl
whole_commutes Server s c head body v false r = refl

item_commutes : (side : Side) (s : SessionState) (c : Coming) (item : FrameEvent) (v : Verdict) →
    item_outcome (with_coming s side c) (other side) item v ≡ put side c (item_outcome s (other side) item v)
item_commutes Bot s c (Begun head) v = begun_commutes Bot s c (untimely s.phase Server head.kind)
item_commutes Server s c (Begun head) v = begun_commutes Server s c (untimely s.phase Bot head.kind)
item_commutes side s c (Whole head body) v = whole_commutes side s c head body v (is_im head.kind) (im_of body)
item_commutes Bot s c (Wrong code) v = refl
item_commutes Server s c (Wrong code) v = refl

pub same_phase : (side : Side) (s : SessionState) (c : Coming) → (with_coming s side c).phase ≡ s.phase
same_phase Bot s c = refl
same_phase Server s c = refl

same_limits : (side : Side) (s : SessionState) (c : Coming) → (with_coming s side c).limits ≡ s.limits
same_limits Bot s c = refl
same_limits Server s c = refl

-- an outcome, and then the rest of the frame events
abbrev going_on : Side → List FrameEvent → Verdict → Successor → Successor
going_on side items v o = record {
  state = (items_outcome o.state side items v).state;
  effects = o.effects ++ (items_outcome o.state side items v).effects;
}

items_commute : (side : Side) (s : SessionState) (c : Coming) (items : List FrameEvent) (v : Verdict) →
    items_outcome (with_coming s side c) (other side) items v ≡ put side c (items_outcome s (other side) items v)
items_commute side s c [] v = refl
items_commute side s c (item ∷ items) v =
    go (is_over s.phase) refl (items_commute side (item_outcome s (other side) item v).state c items v)
  where
    one : Successor
    one = item_outcome s (other side) item v

    Later : Type 0
    Later = items_outcome (with_coming one.state side c) (other side) items v
        ≡ put side c (items_outcome one.state (other side) items v)

    go : (b : Bool) → is_over s.phase ≡ b → Later →
        items_outcome (with_coming s side c) (other side) (item ∷ items) v
        ≡ put side c (items_outcome s (other side) (item ∷ items) v)
    go true o later = rw (same_phase side s c, o) refl
    go false o later =
        rw (same_phase side s c, o)
        (ap (going_on (other side) items v) (item_commutes side s c item v)
        ∙ ap (λ (q : Successor). record { state = q.state; effects = one.effects ++ q.effects }) later)

bytes_commute : (side : Side) (s : SessionState) (c : Coming) (bytes : List ℕ) →
    with_pending (with_coming s side c) (other side) bytes ≡ with_coming (with_pending s (other side) bytes) side c
bytes_commute Bot s c bytes = refl
bytes_commute Server s c bytes = refl

-- bytes from the other side do not depend on this side's input, and leave it unchanged
byte_commutes : (side : Side) (s : SessionState) (c : Coming) (bytes : List ℕ) (items : List FrameEvent) (v : Verdict) →
    items_outcome (with_pending (with_coming s side c) (other side) bytes) (other side) items v
    ≡ put side c (items_outcome (with_pending s (other side) bytes) (other side) items v)
byte_commutes side s c bytes items v =
    ap (λ (t : SessionState). items_outcome t (other side) items v) (bytes_commute side s c bytes)
    ∙ items_commute side (with_pending s (other side) bytes) c items v

timer_commutes : (side : Side) (s : SessionState) (c : Coming) (phase : SessionPhase) →
    im_timer_expired phase (with_coming s side c) ≡ put side c (im_timer_expired phase s)
timer_commutes Bot s c WaitIm = refl
timer_commutes Server s c WaitIm = refl
timer_commutes side s c WaitRm = refl
timer_commutes side s c (Open level) = refl
timer_commutes side s c (Over ending) = refl

end_commutes : (side from : Side) (ending : Ending) (s : SessionState) (c : Coming) →
    end (with_coming s side c) ending from ≡ put side c (end s ending from)
end_commutes Bot from ending s c = refl
end_commutes Server from ending s c = refl

ends_commute : (side : Side) (s : SessionState) (c : Coming) (ending : Ending) (from : Side) (b : Bool) →
    is_over s.phase ≡ b →
    (if is_over (with_coming s side c).phase then nothing (with_coming s side c)
    else end (with_coming s side c) ending from)
    ≡ put side c (if is_over s.phase then nothing s else end s ending from)
ends_commute Bot s c ending from true o = rw o refl
ends_commute Bot s c ending from false o = rw o (end_commutes Bot from ending s c)
ends_commute Server s c ending from true o = rw o refl
ends_commute Server s c ending from false o = rw o (end_commutes Server from ending s c)

stops_commute : (side : Side) (s : SessionState) (c : Coming) (b : Bool) → is_over s.phase ≡ b →
    (if is_over (with_coming s side c).phase then nothing (with_coming s side c) else stop (with_coming s side c))
    ≡ put side c (if is_over s.phase then nothing s else stop s)
stops_commute Bot s c true o = rw o refl
stops_commute Bot s c false o = rw o refl
stops_commute Server s c true o = rw o refl
stops_commute Server s c false o = rw o refl

pub event_commutes : (side : Side) (s : SessionState) (c : Coming) (event : Event) (v : Verdict) →
    is_own side event ≡ false → event_outcome (with_coming s side c) event v ≡ put side c (event_outcome s event v)
event_commutes Bot s c (Comes Bot x) v e = absurd (cc)
event_commutes Server s c (Comes Server x) v e = absurd (cc)
event_commutes Bot s c (Comes Server x) v e = go (is_over s.phase) refl
  where
    go : (b : Bool) → is_over s.phase ≡ b →
        event_outcome (with_coming s Bot c) (Comes Server x) v ≡ put Bot c (event_outcome s (Comes Server x) v)
    go true o = rw o refl
    go false o = rw o (byte_commutes Bot s c (s.sides.server.pending ++ x ∷ [])
        (last_items s.limits.cap (s.sides.server.pending ++ x ∷ [])) v)
event_commutes Server s c (Comes Bot x) v e = go (is_over s.phase) refl
  where
    go : (b : Bool) → is_over s.phase ≡ b →
        event_outcome (with_coming s Server c) (Comes Bot x) v ≡ put Server c (event_outcome s (Comes Bot x) v)
    go true o = rw o refl
    go false o = rw o (byte_commutes Server s c (s.sides.bot.pending ++ x ∷ [])
        (last_items s.limits.cap (s.sides.bot.pending ++ x ∷ [])) v)
event_commutes side s c (Ends from) v e = ends_commute side s c (Ended from) from (is_over s.phase) refl
event_commutes side s c (Loses from) v e = ends_commute side s c (Lost from) from (is_over s.phase) refl
event_commutes Bot s c ImTimerExpired v e = timer_commutes Bot s c s.phase
event_commutes Server s c ImTimerExpired v e = timer_commutes Server s c s.phase
event_commutes side s c OperatorStops v e = stops_commute side s c (is_over s.phase) refl

question_commutes : (side : Side) (s : SessionState) (c : Coming) (event : Event) → is_own side event ≡ false →
    question (with_coming s side c) event ≡ question s event
question_commutes Bot s c (Comes Bot x) e = absurd (cc)
question_commutes Server s c (Comes Server x) e = absurd (cc)
question_commutes Bot s c (Comes Server x) e = refl
question_commutes Server s c (Comes Bot x) e = refl
question_commutes side s c (Ends from) e = refl
question_commutes side s c (Loses from) e = refl
question_commutes side s c ImTimerExpired e = refl
question_commutes side s c OperatorStops e = refl

pub step_beside : (side : Side) (s : SessionState) (c : Coming) (event : Event) (effects : List Effect)
    (m : SessionState) →
    is_own side event ≡ false → Transition s event effects m →
    Transition (with_coming s side c) event effects (with_coming m side c)
step_beside side s c event effects m e t = record {
  verdict = t.verdict;
  right = rw (same_limits side s c, question_commutes side s c event e) t.right;
  outcome = event_commutes side s c event t.verdict e ∙ ap (put side c) t.outcome;
}
