-- The frames that a run uses are those in the cut of the bytes from a side, and bytes of the next frame are missing.
use Rattle.daide_protocol.proofs.Common.{◌≡◌, ℕ, ◌+◌, ◌<◌, Bool, true, false, cond, ◌||◌, List, [], ◌∷◌, ◌++◌, ◌⊎◌, inl}
use Rattle.daide_protocol.proofs.Common.{inr, ⊎_elim, Option, Some, None, Result, Ok, Err, refl, sym, ap, ◌∙◌, subst}
use Rattle.daide_protocol.proofs.Common.{arith, append_assoc, append-nil, Side, Bot, Server, Code, Head, im_of}
use Rattle.daide_protocol.proofs.Common.{FrameEvent, Begun, Whole, Wrong, frame_events_of, last_items, missing, cut}
use Rattle.daide_protocol.proofs.Common.{Verdict, Ended, Lost, SessionPhase, WaitIm, WaitRm, Open, Over, other, Event}
use Rattle.daide_protocol.proofs.Common.{Comes, Ends, Loses, ImTimerExpired, OperatorStops, Limits, SessionState}
use Rattle.daide_protocol.proofs.Common.{Effect, Successor, Transition, Runs, initial_state, coming, with_pending}
use Rattle.daide_protocol.proofs.Common.{is_over, fault, end, header_outcome, untimely, answered, im_answered}
use Rattle.daide_protocol.proofs.Common.{frame_outcome, item_outcome, items_outcome, im_timer_expired, stop}
use Rattle.daide_protocol.proofs.Common.{event_outcome, is_im, bytes_from, heard_at, items_heard}
use Rattle.daide_frame.specs.Frames.{EventAtOffset, event_at_offset, is_whole_frame, is_wrong, any_item, items_by_byte}
use Rattle.daide_frame.proofs.FramesLemmas.{missing-short}
use Rattle.daide_frame.proofs.OneByte.{ByteTells, byte_tells}
use Rattle.daide_frame.proofs.CutsAgree.{by_byte-cut}
use Rattle.daide_protocol.proofs.OneRun.{one_run}
use Rattle.daide_protocol.proofs.WireLemmas.{same_self}
use Rattle.daide_protocol.proofs.PieceRuns.{over_outcome, over_stays, phase_is, limits_are}

-- ---- sides and frame events

frame_events_of-placed : (n : ℕ) (items : List FrameEvent) (more : List EventAtOffset) →
    frame_events_of (event_at_offset n items ++ more) ≡ items ++ frame_events_of more
frame_events_of-placed n [] more = refl
frame_events_of-placed n (item ∷ items) more = ap (λ (t : List FrameEvent). item ∷ t) (frame_events_of-placed n items more)

pub not_both : (b : Bool) → b ≡ true → b ≡ false → ⊥
not_both true e f = absurd (cc)
not_both false e f = absurd (cc)

-- ---- what frame events change

-- the bytes of the side's next frame, after frame events that leave the session open
abbrev LeavesOpen : SessionState → SessionState → Side → Bool → Bool → Type 0
LeavesOpen old new side wrong frame_outcome =
    (wrong ≡ false) × ((coming new side).pending ≡ cond frame_outcome [] (coming old side).pending)

begun_leaves : (s : SessionState) (side : Side) (code : Option Code) → is_over (header_outcome s side code).state.phase ≡ false →
    (coming (header_outcome s side code).state side).pending ≡ (coming s side).pending
begun_leaves s Bot None o = refl
begun_leaves s Server None o = refl
begun_leaves s side (Some code) o = absurd (cc)

answered_leaves : (s : SessionState) (side : Side) (head : Head) (body : List ℕ) (v : Verdict) →
    (coming (answered s side head body v).state side).pending ≡ []
answered_leaves s Bot head body v = refl
answered_leaves s Server head body v = refl

checked_leaves : (s : SessionState) (side : Side) (head : Head) (body : List ℕ) (v : Verdict)
    (r : Result (Unit {0}) Code) →
    is_over (im_answered (answered s side head body v) s side r).state.phase ≡ false →
    (coming (im_answered (answered s side head body v) s side r).state side).pending ≡ []
checked_leaves s side head body v (Ok u) o = answered_leaves s side head body v
checked_leaves s side head body v (Err code) o = absurd (cc)

whole_leaves : (s : SessionState) (side : Side) (head : Head) (body : List ℕ) (v : Verdict) (im : Bool) →
    let o = cond im (im_answered (answered s side head body v) s side (im_of body)) (answered s side head body v) in
    is_over o.state.phase ≡ false → (coming o.state side).pending ≡ []
whole_leaves s side head body v true o = checked_leaves s side head body v (im_of body) o
whole_leaves s side head body v false o = answered_leaves s side head body v

item_leaves : (s : SessionState) (side : Side) (item : FrameEvent) (v : Verdict) →
    is_over (item_outcome s side item v).state.phase ≡ false →
    LeavesOpen s (item_outcome s side item v).state side (is_wrong item) (is_whole_frame item)
item_leaves s side (Begun head) v o = (refl, begun_leaves s side (untimely s.phase side head.kind) o)
item_leaves s side (Whole head body) v o = (refl, whole_leaves s side head body v (is_im head.kind) o)
item_leaves s side (Wrong code) v o = absurd (cc)

two_leave : (a b : Bool) (x y z : List ℕ) → y ≡ cond a [] x → z ≡ cond b [] y → z ≡ cond (a || b) [] x
two_leave true true x y z e f = f
two_leave true false x y z e f = f ∙ e
two_leave false true x y z e f = f
two_leave false false x y z e f = f ∙ e

items_leave : (s : SessionState) (side : Side) (items : List FrameEvent) (v : Verdict) → is_over s.phase ≡ false →
    is_over (items_outcome s side items v).state.phase ≡ false →
    LeavesOpen s (items_outcome s side items v).state side (any_item is_wrong items) (any_item is_whole_frame items)
items_leave s side [] v o p = (refl, refl)
items_leave s side (item ∷ items) v o p = go (is_over first.phase) refl (λ e. items_leave first side items v e live)
  where
    first : SessionState
    first = (item_outcome s side item v).state

    last : SessionState
    last = (items_outcome first side items v).state

    same : (items_outcome s side (item ∷ items) v).state ≡ last
    same = rw o refl

    live : is_over last.phase ≡ false
    live = ap (λ (t : SessionState). is_over t.phase) (sym same) ∙ p

    stays : (items : List FrameEvent) → is_over first.phase ≡ true → (items_outcome first side items v).state ≡ first
    stays [] e = refl
    stays (item ∷ items) e = rw e refl

    Later : Type 0
    Later = is_over first.phase ≡ false → LeavesOpen first last side (any_item is_wrong items) (any_item is_whole_frame items)

    go : (b : Bool) → is_over first.phase ≡ b → Later →
        LeavesOpen s (items_outcome s side (item ∷ items) v).state side (any_item is_wrong (item ∷ items))
        (any_item is_whole_frame (item ∷ items))
    go true e later = absurd (not_both (is_over last.phase)
        (ap (λ (t : SessionState). is_over t.phase) (stays items e) ∙ e) live)
    go false e later =
        let a = item_leaves s side item v e in
        let b = later e in (
          rw a.0 b.0,
          ap (λ (t : SessionState). (coming t side).pending) same
              ∙ two_leave (is_whole_frame item) (any_item is_whole_frame items) (coming s side).pending (coming first side).pending
              (coming last side).pending a.1 b.1,
        )

-- ---- what frame events leave unchanged

begun_beside : (s : SessionState) (side : Side) (code : Option Code) →
    (coming (header_outcome s side code).state (other side)).pending ≡ (coming s (other side)).pending
begun_beside s Bot None = refl
begun_beside s Server None = refl
begun_beside s Bot (Some code) = refl
begun_beside s Server (Some code) = refl

answered_beside : (s : SessionState) (side : Side) (head : Head) (body : List ℕ) (v : Verdict) →
    (coming (answered s side head body v).state (other side)).pending ≡ (coming s (other side)).pending
answered_beside s Bot head body v = refl
answered_beside s Server head body v = refl

over_beside : (s : SessionState) (side : Side) (code : Code) →
    (coming (fault s side code).state (other side)).pending ≡ (coming s (other side)).pending
over_beside s Bot code = refl
over_beside s Server code = refl

checked_beside : (s : SessionState) (side : Side) (head : Head) (body : List ℕ) (v : Verdict)
    (r : Result (Unit {0}) Code) →
    (coming (im_answered (answered s side head body v) s side r).state (other side)).pending
    ≡ (coming s (other side)).pending
checked_beside s side head body v (Ok u) = answered_beside s side head body v
checked_beside s side head body v (Err code) = over_beside s side code

whole_beside : (s : SessionState) (side : Side) (head : Head) (body : List ℕ) (v : Verdict) (im : Bool) →
    let o = cond im (im_answered (answered s side head body v) s side (im_of body)) (answered s side head body v) in
    (coming o.state (other side)).pending ≡ (coming s (other side)).pending
whole_beside s side head body v true = checked_beside s side head body v (im_of body)
whole_beside s side head body v false = answered_beside s side head body v

item_beside : (s : SessionState) (side : Side) (item : FrameEvent) (v : Verdict) →
    (coming (item_outcome s side item v).state (other side)).pending ≡ (coming s (other side)).pending
item_beside s side (Begun head) v = begun_beside s side (untimely s.phase side head.kind)
item_beside s side (Whole head body) v = whole_beside s side head body v (is_im head.kind)
item_beside s side (Wrong code) v = over_beside s side code

items_beside : (s : SessionState) (side : Side) (items : List FrameEvent) (v : Verdict) →
    (coming (items_outcome s side items v).state (other side)).pending ≡ (coming s (other side)).pending
items_beside s side [] v = refl
items_beside s side (item ∷ items) v =
    go (is_over s.phase) refl (items_beside (item_outcome s side item v).state side items v)
  where
    first : SessionState
    first = (item_outcome s side item v).state

    go : (b : Bool) → is_over s.phase ≡ b →
        (coming (items_outcome first side items v).state (other side)).pending ≡ (coming first (other side)).pending →
        (coming (items_outcome s side (item ∷ items) v).state (other side)).pending ≡ (coming s (other side)).pending
    go true e later = rw e refl
    go false e later = rw e (later ∙ item_beside s side item v)

begun_limits : (s : SessionState) (side : Side) (code : Option Code) → (header_outcome s side code).state.limits ≡ s.limits
begun_limits s Bot None = refl
begun_limits s Server None = refl
begun_limits s side (Some code) = refl

answered_limits : (s : SessionState) (side : Side) (head : Head) (body : List ℕ) (v : Verdict) →
    (answered s side head body v).state.limits ≡ s.limits
answered_limits s Bot head body v = refl
answered_limits s Server head body v = refl

checked_limits : (s : SessionState) (side : Side) (head : Head) (body : List ℕ) (v : Verdict)
    (r : Result (Unit {0}) Code) →
    (im_answered (answered s side head body v) s side r).state.limits ≡ s.limits
checked_limits s side head body v (Ok u) = answered_limits s side head body v
checked_limits s side head body v (Err code) = refl

whole_limits : (s : SessionState) (side : Side) (head : Head) (body : List ℕ) (v : Verdict) (im : Bool) →
    (cond im (im_answered (answered s side head body v) s side (im_of body))
    (answered s side head body v)).state.limits ≡ s.limits
whole_limits s side head body v true = checked_limits s side head body v (im_of body)
whole_limits s side head body v false = answered_limits s side head body v

item_limits : (s : SessionState) (side : Side) (item : FrameEvent) (v : Verdict) →
    (item_outcome s side item v).state.limits ≡ s.limits
item_limits s side (Begun head) v = begun_limits s side (untimely s.phase side head.kind)
item_limits s side (Whole head body) v = whole_limits s side head body v (is_im head.kind)
item_limits s side (Wrong code) v = refl

pub items_limits : (s : SessionState) (side : Side) (items : List FrameEvent) (v : Verdict) →
    (items_outcome s side items v).state.limits ≡ s.limits
items_limits s side [] v = refl
items_limits s side (item ∷ items) v =
    go (is_over s.phase) refl (items_limits (item_outcome s side item v).state side items v)
  where
    first : SessionState
    first = (item_outcome s side item v).state

    go : (b : Bool) → is_over s.phase ≡ b → (items_outcome first side items v).state.limits ≡ first.limits →
        (items_outcome s side (item ∷ items) v).state.limits ≡ s.limits
    go true e later = rw e refl
    go false e later = rw e (later ∙ item_limits s side item v)

with_own : (s : SessionState) (side : Side) (bytes : List ℕ) → (coming (with_pending s side bytes) side).pending ≡ bytes
with_own s Bot bytes = refl
with_own s Server bytes = refl

with_beside : (s : SessionState) (side : Side) (bytes : List ℕ) →
    (coming (with_pending s side bytes) (other side)).pending ≡ (coming s (other side)).pending
with_beside s Bot bytes = refl
with_beside s Server bytes = refl

-- ---- a byte

-- the bytes with one more, and the frame events that end with it
abbrev with_byte : SessionState → Side → ℕ → List ℕ
with_byte s side x = (coming s side).pending ++ x ∷ []

abbrev items_at : SessionState → Side → ℕ → List FrameEvent
items_at s side x = last_items s.limits.cap (with_byte s side x)

abbrev after_byte : SessionState → Side → ℕ → Verdict → SessionState
after_byte s side x v = (items_outcome (with_pending s side (with_byte s side x)) side (items_at s side x) v).state

byte_came : (s : SessionState) (side : Side) (x : ℕ) (effects : List Effect) (m : SessionState)
    (t : Transition s (Comes side x) effects m) →
    is_over s.phase ≡ false → m ≡ after_byte s side x t.verdict
byte_came s side x effects m t o =
    let outcome = items_outcome (with_pending s side (with_byte s side x)) side (items_at s side x) t.verdict in
    let came : event_outcome s (Comes side x) t.verdict ≡ outcome = rw o refl in
    ap (λ (q : Successor). q.state) (sym t.outcome ∙ came)

-- a byte that leaves the session open
byte_leaves : (s : SessionState) (side : Side) (x : ℕ) (effects : List Effect) (m : SessionState) →
    Transition s (Comes side x) effects m →
    is_over s.phase ≡ false → is_over m.phase ≡ false →
    (any_item is_wrong (items_at s side x) ≡ false)
    × ((coming m side).pending ≡ cond (any_item is_whole_frame (items_at s side x)) [] (with_byte s side x))
byte_leaves s side x effects m t o p =
    let bytes = with_byte s side x in
    let items = items_at s side x in
    let came = byte_came s side x effects m t o in
    let live = ap is_over (phase_is s side bytes) ∙ o in
    let left = items_leave (with_pending s side bytes) side items t.verdict live
    (ap (λ (q : SessionState). is_over q.phase) (sym came) ∙ p) in (
      left.0,
      ap (λ (q : SessionState). (coming q side).pending) came ∙ left.1
          ∙ ap (λ (q : List ℕ). cond (any_item is_whole_frame items) [] q) (with_own s side bytes),
    )

byte_beside : (s : SessionState) (side : Side) (x : ℕ) (effects : List Effect) (m : SessionState) →
    Transition s (Comes side x) effects m →
    is_over s.phase ≡ false → (coming m (other side)).pending ≡ (coming s (other side)).pending
byte_beside s side x effects m t o =
    ap (λ (q : SessionState). (coming q (other side)).pending) (byte_came s side x effects m t o)
    ∙ items_beside (with_pending s side (with_byte s side x)) side (items_at s side x) t.verdict
    ∙ with_beside s side (with_byte s side x)

byte_limits : (s : SessionState) (side : Side) (x : ℕ) (effects : List Effect) (m : SessionState) →
    Transition s (Comes side x) effects m →
    is_over s.phase ≡ false → m.limits ≡ s.limits
byte_limits s side x effects m t o =
    ap (λ (q : SessionState). q.limits) (byte_came s side x effects m t o)
    ∙ items_limits (with_pending s side (with_byte s side x)) side (items_at s side x) t.verdict
    ∙ limits_are s side (with_byte s side x)

-- ---- after the end

pub stays_over : (s : SessionState) (e : Event) (effects : List Effect) (m : SessionState) → Transition s e effects m →
    is_over s.phase ≡ true → m ≡ s
stays_over s e effects m t o = ap (λ (q : Successor). q.state) (sym t.outcome ∙ over_outcome s e t.verdict o)

hears_nothing : (side : Side) (s : SessionState) (e : Event) → is_over s.phase ≡ true → heard_at side s e ≡ []
hears_nothing side s (Comes from x) o = rw o refl
hears_nothing side s (Ends from) o = refl
hears_nothing side s (Loses from) o = refl
hears_nothing side s ImTimerExpired o = refl
hears_nothing side s OperatorStops o = refl

pub over_hears : (side : Side) (s : SessionState) (events : List Event) (effects : List Effect) (new : SessionState)
    (run : Runs s events effects new) →
    is_over s.phase ≡ true → items_heard side s events effects new run ≡ []
over_hears side s [] effects new run o = refl
over_hears side s (e ∷ events) effects new run o =
    let same = stays_over s e run.1 run.0 run.3 o in
    rw (hears_nothing side s e o)
    (over_hears side run.0 events run.2 new run.4 (ap (λ (q : SessionState). is_over q.phase) same ∙ o))

pub over_for_good : (s : SessionState) (events : List Event) (effects : List Effect) (new : SessionState) →
    Runs s events effects new →
    is_over s.phase ≡ true → is_over new.phase ≡ true
over_for_good s events effects new run o =
    ap (λ (q : SessionState). is_over q.phase) (one_run events s effects [] new s run (over_stays s events o)).1 ∙ o

-- ---- a run

-- the frame events in the bytes from a side, from a state on, are those that the run uses, and then those after its end
abbrev IsHeard : Side → ℕ → (s : SessionState) (events : List Event) (effects : List Effect) (new : SessionState) →
    Runs s events effects new → Type 0
IsHeard side k s events effects new run =
    (later : List FrameEvent)
    × (frame_events_of (items_by_byte s.limits.cap k (coming s side).pending (bytes_from side events))
    ≡ items_heard side s events effects new run ++ later)
    × (is_over new.phase ≡ false → later ≡ [])

-- an event that ends the session, without a frame event from the side
ends_here : (side : Side) (k : ℕ) (s : SessionState) (e : Event) (events : List Event) (effects : List Effect)
    (new : SessionState)
    (run : Runs s (e ∷ events) effects new) → heard_at side s e ≡ [] → is_over run.0.phase ≡ true →
    IsHeard side k s (e ∷ events) effects new run
ends_here side k s e events effects new run h o =
    let all = frame_events_of (items_by_byte s.limits.cap k (coming s side).pending (bytes_from side (e ∷ events))) in
    let none : items_heard side s (e ∷ events) effects new run ≡ [] =
    rw h (over_hears side run.0 events run.2 new run.4 o) in (
      all,
      ap (λ (t : List FrameEvent). t ++ all) (sym none),
      λ p. absurd (not_both (is_over new.phase) (over_for_good run.0 events run.2 new run.4 o) p),
    )

-- an event other than a byte from the side, which leaves its bytes unchanged
passes : (side : Side) (k : ℕ) (s : SessionState) (e : Event) (events : List Event) (effects : List Effect)
    (new : SessionState)
    (run : Runs s (e ∷ events) effects new) → heard_at side s e ≡ [] →
    bytes_from side (e ∷ events) ≡ bytes_from side events →
    run.0.limits ≡ s.limits → (coming run.0 side).pending ≡ (coming s side).pending →
    IsHeard side k run.0 events run.2 new run.4 → IsHeard side k s (e ∷ events) effects new run
passes side k s e events effects new run h b l p later =
    let all : items_by_byte s.limits.cap k (coming s side).pending (bytes_from side (e ∷ events))
    ≡ items_by_byte run.0.limits.cap k (coming run.0 side).pending (bytes_from side events) =
    rw (b, p) (ap (λ (q : Limits). items_by_byte q.cap k (coming s side).pending (bytes_from side events))
    (sym l)) in
    let heard : items_heard side s (e ∷ events) effects new run ≡ items_heard side run.0 events run.2 new run.4 =
    rw h refl in (
      later.0,
      ap frame_events_of all ∙ later.1 ∙ ap (λ (t : List FrameEvent). t ++ later.0) (sym heard),
      later.2,
    )

-- a byte from the side
comes : (side : Side) (k x : ℕ) (s : SessionState) (events : List Event) (effects : List Effect) (new : SessionState)
    (run : Runs s (Comes side x ∷ events) effects new) → is_over s.phase ≡ false →
    IsHeard side (k + 1) run.0 events run.2 new run.4 → IsHeard side k s (Comes side x ∷ events) effects new run
comes side k x s events effects new run o later = go (is_over run.0.phase) refl
  where
    items : List FrameEvent
    items = items_at s side x

    bytes : List ℕ
    bytes = with_byte s side x

    next : List EventAtOffset
    next = cond (any_item is_wrong items) []
        (items_by_byte s.limits.cap (k + 1) (cond (any_item is_whole_frame items) [] bytes) (bytes_from side events))

    rest : List FrameEvent
    rest = items_heard side run.0 events run.2 new run.4

    now : frame_events_of (items_by_byte s.limits.cap k (coming s side).pending (bytes_from side (Comes side x ∷ events)))
        ≡ items ++ frame_events_of next
    now = rw (same_self side) (frame_events_of-placed (k + 1) items next)

    heard : items_heard side s (Comes side x ∷ events) effects new run ≡ items ++ rest
    heard =
        let here : heard_at side s (Comes side x) ≡ items = rw (o, same_self side) refl in
        ap (λ (t : List FrameEvent). t ++ rest) here

    go : (b : Bool) → is_over run.0.phase ≡ b → IsHeard side k s (Comes side x ∷ events) effects new run
    go true e =
        let none = over_hears side run.0 events run.2 new run.4 e in (
          frame_events_of next,
          now ∙ ap (λ (t : List FrameEvent). t ++ frame_events_of next)
              (sym (heard ∙ ap (λ (t : List FrameEvent). items ++ t) none ∙ append-nil items)),
          λ p. absurd (not_both (is_over new.phase) (over_for_good run.0 events run.2 new run.4 e) p),
        )
    go false e =
        let left = byte_leaves s side x run.1 run.0 run.3 o e in
        let limits = byte_limits s side x run.1 run.0 run.3 o in
        let goes_on : next ≡ items_by_byte run.0.limits.cap (k + 1) (coming run.0 side).pending
        (bytes_from side events) =
        ap (λ (b : Bool). cond b []
        (items_by_byte s.limits.cap (k + 1) (cond (any_item is_whole_frame items) [] bytes)
        (bytes_from side events))) left.0
        ∙ ap (λ (q : List ℕ). items_by_byte s.limits.cap (k + 1) q (bytes_from side events)) (sym left.1)
        ∙ ap (λ (q : Limits). items_by_byte q.cap (k + 1) (coming run.0 side).pending (bytes_from side events))
        (sym limits) in (
          later.0,
          now ∙ ap (λ (t : List EventAtOffset). items ++ frame_events_of t) goes_on ∙ ap (λ (t : List FrameEvent). items ++ t) later.1
              ∙ sym (append_assoc items rest later.0) ∙ ap (λ (t : List FrameEvent). t ++ later.0) (sym heard),
          later.2,
        )

-- the timer ends the session, or does nothing
im_timer_expired_is : (phase : SessionPhase) (s : SessionState) →
    (is_over (im_timer_expired phase s).state.phase ≡ true) ⊎ ((im_timer_expired phase s).state ≡ s)
im_timer_expired_is WaitIm s = inl refl
im_timer_expired_is WaitRm s = inr refl
im_timer_expired_is (Open level) s = inr refl
im_timer_expired_is (Over ending) s = inr refl

pub pops : (s : SessionState) (effects : List Effect) (m : SessionState) → Transition s ImTimerExpired effects m →
    (is_over m.phase ≡ true) ⊎ (m ≡ s)
pops s effects m t =
    let came : m ≡ (im_timer_expired s.phase s).state = ap (λ (q : Successor). q.state) (sym t.outcome) in
    ⊎_elim
    (λ (h : is_over (im_timer_expired s.phase s).state.phase ≡ true). inl (ap (λ (q : SessionState). is_over q.phase) came ∙ h))
    (λ (h : (im_timer_expired s.phase s).state ≡ s). inr (came ∙ h))
    (im_timer_expired_is s.phase s)

pub ended : (s : SessionState) (side : Side) (effects : List Effect) (m : SessionState) → Transition s (Ends side) effects m →
    is_over s.phase ≡ false → is_over m.phase ≡ true
ended s side effects m t o =
    let came : event_outcome s (Ends side) t.verdict ≡ end s (Ended side) side = rw o refl in
    ap (λ (q : Successor). is_over q.state.phase) (sym t.outcome ∙ came)

pub lost : (s : SessionState) (side : Side) (effects : List Effect) (m : SessionState) → Transition s (Loses side) effects m →
    is_over s.phase ≡ false → is_over m.phase ≡ true
lost s side effects m t o =
    let came : event_outcome s (Loses side) t.verdict ≡ end s (Lost side) side = rw o refl in
    ap (λ (q : Successor). is_over q.state.phase) (sym t.outcome ∙ came)

pub stopped : (s : SessionState) (effects : List Effect) (m : SessionState) → Transition s OperatorStops effects m →
    is_over s.phase ≡ false → is_over m.phase ≡ true
stopped s effects m t o =
    let came : event_outcome s OperatorStops t.verdict ≡ stop s = rw o refl in
    ap (λ (q : Successor). is_over q.state.phase) (sym t.outcome ∙ came)

is_heard : (side : Side) (k : ℕ) (s : SessionState) (events : List Event) (effects : List Effect) (new : SessionState)
    (run : Runs s events effects new) →
    IsHeard side k s events effects new run
is_heard side k s [] effects new run = ([], refl, λ p. refl)
is_heard side k s (e ∷ events) effects new run =
    go (is_over s.phase) refl e run (λ n. is_heard side n run.0 events run.2 new run.4)
  where
    Later : (e : Event) → Runs s (e ∷ events) effects new → Type 0
    Later e run = (n : ℕ) → IsHeard side n run.0 events run.2 new run.4

    go : (b : Bool) → is_over s.phase ≡ b → (e : Event) (run : Runs s (e ∷ events) effects new) → Later e run →
        IsHeard side k s (e ∷ events) effects new run
    go true o e run later =
        ends_here side k s e events effects new run (hears_nothing side s e o)
        (ap (λ (q : SessionState). is_over q.phase) (stays_over s e run.1 run.0 run.3 o) ∙ o)
    go false o (Comes from x) run later = by_side side from run later
      where
        by_side : (side from : Side) (run : Runs s (Comes from x ∷ events) effects new) →
            ((n : ℕ) → IsHeard side n run.0 events run.2 new run.4) →
            IsHeard side k s (Comes from x ∷ events) effects new run
        by_side Bot Bot run later = comes Bot k x s events effects new run o (later (k + 1))
        by_side Server Server run later = comes Server k x s events effects new run o (later (k + 1))
        by_side Bot Server run later =
            passes Bot k s (Comes Server x) events effects new run (rw o refl) refl
            (byte_limits s Server x run.1 run.0 run.3 o) (byte_beside s Server x run.1 run.0 run.3 o) (later k)
        by_side Server Bot run later =
            passes Server k s (Comes Bot x) events effects new run (rw o refl) refl
            (byte_limits s Bot x run.1 run.0 run.3 o) (byte_beside s Bot x run.1 run.0 run.3 o) (later k)
    go false o (Ends from) run later =
        ends_here side k s (Ends from) events effects new run refl (ended s from run.1 run.0 run.3 o)
    go false o (Loses from) run later =
        ends_here side k s (Loses from) events effects new run refl (lost s from run.1 run.0 run.3 o)
    go false o ImTimerExpired run later = ⊎_elim
        (λ (h : is_over run.0.phase ≡ true). ends_here side k s ImTimerExpired events effects new run refl h)
        (λ (h : run.0 ≡ s). passes side k s ImTimerExpired events effects new run refl refl
        (ap (λ (q : SessionState). q.limits) h) (ap (λ (q : SessionState). (coming q side).pending) h) (later k))
        (pops s run.1 run.0 run.3)
    go false o OperatorStops run later =
        ends_here side k s OperatorStops events effects new run refl (stopped s run.1 run.0 run.3 o)

pub frames_heard : (side : Side) (limits : Limits) (events : List Event) (effects : List Effect) (new : SessionState)
    (run : Runs (initial_state limits) events effects new) →
    (later : List FrameEvent)
    × (frame_events_of (cut limits.cap (bytes_from side events))
    ≡ items_heard side (initial_state limits) events effects new run ++ later)
    × (is_over new.phase ≡ false → later ≡ [])
frames_heard Bot limits events effects new run =
    let h = is_heard Bot 0 (initial_state limits) events effects new run in
    (h.0, ap frame_events_of (sym (by_byte-cut limits.cap (bytes_from Bot events))) ∙ h.1, h.2)
frames_heard Server limits events effects new run =
    let h = is_heard Server 0 (initial_state limits) events effects new run in
    (h.0, ap frame_events_of (sym (by_byte-cut limits.cap (bytes_from Server events))) ∙ h.1, h.2)

-- ---- room

-- bytes of the next frame are missing from each side
abbrev pub IsWaitedFor : SessionState → Type 0
IsWaitedFor s = (side : Side) → 0 < missing s.limits.cap (coming s side).pending

by_sides : (P : Side → Type 0) (one : Side) → P one → P (other one) → (side : Side) → P side
by_sides P Bot p q Bot = p
by_sides P Bot p q Server = q
by_sides P Server p q Bot = q
by_sides P Server p q Server = p

byte_waits : (s : SessionState) (side : Side) (x : ℕ) (effects : List Effect) (m : SessionState) →
    Transition s (Comes side x) effects m →
    is_over s.phase ≡ false → is_over m.phase ≡ false → IsWaitedFor s → IsWaitedFor m
byte_waits s side x effects m t o p wait =
    by_sides (λ side. 0 < missing m.limits.cap (coming m side).pending) side own beside
  where
    left : (any_item is_wrong (items_at s side x) ≡ false)
        × ((coming m side).pending ≡ cond (any_item is_whole_frame (items_at s side x)) [] (with_byte s side x))
    left = byte_leaves s side x effects m t o p

    limits : m.limits ≡ s.limits
    limits = byte_limits s side x effects m t o

    more : 0 < missing s.limits.cap (cond (any_item is_whole_frame (items_at s side x)) [] (with_byte s side x))
    more = by_byte (byte_tells s.limits.cap (coming s side).pending x (wait side))
      where
        by_byte : ByteTells s.limits.cap (coming s side).pending x →
            0 < missing s.limits.cap (cond (any_item is_whole_frame (items_at s side x)) [] (with_byte s side x))
        by_byte (inl h) = rw h.told.whole_is h.left
        by_byte (inr (inl h)) = rw h.told.whole_is (omega (arith, missing-short s.limits.cap [] (omega arith)))
        by_byte (inr (inr h)) = absurd (not_both (any_item is_wrong (items_at s side x)) h.told.wrong_is left.0)

    own : 0 < missing m.limits.cap (coming m side).pending
    own = rw (limits, left.1) more

    beside : 0 < missing m.limits.cap (coming m (other side)).pending
    beside = rw (limits, byte_beside s side x effects m t o) (wait (other side))

step_waits : (s : SessionState) (e : Event) (effects : List Effect) (m : SessionState) → Transition s e effects m →
    is_over s.phase ≡ false → is_over m.phase ≡ false → IsWaitedFor s → IsWaitedFor m
step_waits s (Comes side x) effects m t o p wait = byte_waits s side x effects m t o p wait
step_waits s (Ends side) effects m t o p wait = absurd (not_both (is_over m.phase) (ended s side effects m t o) p)
step_waits s (Loses side) effects m t o p wait = absurd (not_both (is_over m.phase) (lost s side effects m t o) p)
step_waits s ImTimerExpired effects m t o p wait = ⊎_elim
    (λ (h : is_over m.phase ≡ true). absurd (not_both (is_over m.phase) h p))
    (λ (h : m ≡ s). subst IsWaitedFor (sym h) wait)
    (pops s effects m t)
step_waits s OperatorStops effects m t o p wait = absurd (not_both (is_over m.phase) (stopped s effects m t o) p)

pub run_waits : (s : SessionState) (events : List Event) (effects : List Effect) (new : SessionState) →
    Runs s events effects new →
    is_over new.phase ≡ false → IsWaitedFor s → IsWaitedFor new
run_waits s [] effects new run p wait = subst IsWaitedFor (sym run.1) wait
run_waits s (e ∷ events) effects new run p wait = go (is_over s.phase) refl (is_over run.0.phase) refl
    (λ w. run_waits run.0 events run.2 new run.4 p w)
  where
    go : (a : Bool) → is_over s.phase ≡ a → (b : Bool) → is_over run.0.phase ≡ b →
        (IsWaitedFor run.0 → IsWaitedFor new) → IsWaitedFor new
    go true o b q later = absurd (not_both (is_over new.phase) (over_for_good s (e ∷ events) effects new run o) p)
    go false o true q later = absurd (not_both (is_over new.phase) (over_for_good run.0 events run.2 new run.4 q) p)
    go false o false q later = later (step_waits s e run.1 run.0 run.3 o q wait)

pub waited_for : (events : List Event) (limits : Limits) (effects : List Effect) (new : SessionState) →
    Runs (initial_state limits) events effects new →
    is_over new.phase ≡ false → (side : Side) → 0 < missing new.limits.cap (coming new side).pending
waited_for events limits effects new run p = run_waits (initial_state limits) events effects new run p first
  where
    first : IsWaitedFor (initial_state limits)
    first Bot = omega (arith, missing-short limits.cap [] (omega arith))
    first Server = omega (arith, missing-short limits.cap [] (omega arith))
