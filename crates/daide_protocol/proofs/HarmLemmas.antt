-- Without a refused message a run has the same effects, except the refusal.
use Rattle.std.proofs.lemmas.Bool.{cases_lt}
use Rattle.daide_protocol.proofs.Common.{◌≡◌, ℕ, ◌+◌, ◌≤◌, ◌<◌, Bool, true, false, cond, List, [], ◌∷◌, ◌++◌, length}
use Rattle.daide_protocol.proofs.Common.{Option, Some, None, Result, Ok, Err, ◌⊎◌, inl, inr, refl, sym, ◌∙◌, ap, subst}
use Rattle.daide_protocol.proofs.Common.{arith, append-nil, length-append, eqb, Side, Bot, Server, Kind, Im, Rm, Dm, Fm}
use Rattle.daide_protocol.proofs.Common.{Em, Head, Code, parse_head, im_of, FrameEvent, Begun, Whole, Wrong, last_items}
use Rattle.daide_protocol.proofs.Common.{Level, Verdict, Relay, Prn, Huh, Note, Over, other, Event, Comes, Ends, Loses}
use Rattle.daide_protocol.proofs.Common.{ImTimerExpired, OperatorStops, Coming, Limits, SessionState, Sent, Effect}
use Rattle.daide_protocol.proofs.Common.{Successor, Question, Transition, Runs, coming, with_coming, with_pending}
use Rattle.daide_protocol.proofs.Common.{with_noted, is_over, untimely, answered, level_in, im_answered, frame_outcome}
use Rattle.daide_protocol.proofs.Common.{items_outcome, event_outcome, nothing, question_of, asked_by, IsCorrectVerdict}
use Rattle.daide_protocol.proofs.Common.{deed_of, initial_state, fault, sent_to, heard_at, items_heard}
use Rattle.daide_frame.proofs.FramesLemmas.{last_items-short, at_head, last_items-head}
use Rattle.daide_protocol.specs.declared.note.Note.TheVariants as Notes
use Rattle.daide_protocol.specs.declared.ending.Ending.TheVariants as Endings
use Rattle.daide_protocol.specs.Machine.{question_in, may_reach}
use Rattle.daide_protocol.specs.Fates.{frames_among}
use Rattle.daide_protocol.specs.Harm.{without_bytes, IsRefusal, HasRefused, IsAsIfUnsent}
use Rattle.daide_protocol.proofs.FrameShapes.{Shape, quiet, headed, at_once, shape}
use Rattle.daide_protocol.proofs.FrameShapes as Shapes
use Rattle.daide_protocol.proofs.FateLemmas.{frames_among-append}
use Rattle.daide_protocol.proofs.FramesHeard.{not_both, over_for_good}
use Rattle.daide_protocol.proofs.PieceRuns.{over_outcome, over_stays}
use Rattle.daide_protocol.proofs.OneRun.{runs_join, one_run}
use Rattle.daide_protocol.proofs.WireLemmas.{same_self, sent_to-append}
use Rattle.daide_protocol.proofs.BesideLemmas.{is_own, put, same_phase, event_commutes, step_beside}

-- ---- a byte from the side that ends no frame

-- the state after it, except for the side's own input
abbrev SameBut : Side → SessionState → SessionState → Type 0
SameBut side new old = (c : Coming) → with_coming new side c ≡ with_coming old side c

noting_same : (side : Side) (t : SessionState) (l : Level) → SameBut side (with_noted t side l) t
noting_same Bot t l c = refl
noting_same Server t l c = refl

pending_same : (side : Side) (t : SessionState) (bytes : List ℕ) → SameBut side (with_pending t side bytes) t
pending_same Bot t bytes c = refl
pending_same Server t bytes c = refl

-- no frame is whole and the session goes on: nothing is sent
leaves : (t : SessionState) (side : Side) (items : List FrameEvent) (v : Verdict) → Shape t.limits.cap items →
    is_over t.phase ≡ false → is_over (items_outcome t side items v).state.phase ≡ false → frames_among items ≡ [] →
    ((items_outcome t side items v).effects ≡ []) × SameBut side (items_outcome t side items v).state t
leaves t side items v quiet o p f = (refl, λ c. refl)
leaves t side items v (headed head) o p f = go (untimely t.phase side head.kind) refl
  where
    go : (code : Option Code) → untimely t.phase side head.kind ≡ code →
        ((items_outcome t side (Begun head ∷ []) v).effects ≡ [])
        × SameBut side (items_outcome t side (Begun head ∷ []) v).state t
    go None e = rw (o, e) (refl, noting_same side t (level_in t.phase))
    go (Some code) e =
        absurd (let q : true ≡ false = (let h = rw (o, e) at p in h) in cc)
leaves t side items v (at_once head w) o p f = absurd (cc)
leaves t side items v (Shapes.whole head body w) o p f = absurd (cc)
leaves t side items v (Shapes.wrong code) o p f = absurd (let q : true ≡ false = (let h = rw o at p in h) in cc)

-- ---- the byte at which a message is refused

abbrev reported_first : List Effect → Note
reported_first [] = Notes.Nothing
reported_first (effect ∷ effects) = effect.reported

-- nothing of the side's next frame is pending, the rest is unchanged, and nothing is sent to the other side
abbrev IsFresh : Side → Successor → SessionState → Type 0
IsFresh side new old =
    SameBut side new.state old × ((coming new.state side).pending ≡ []) × (sent_to (other side) new.effects ≡ [])

dm_fresh : (t : SessionState) (side : Side) (len : ℕ) (body : List ℕ) (v : Verdict) →
    IsRefusal (Notes.Frame (record { kind = Dm; len = len }) (deed_of true v)) →
    IsFresh side (answered t side (record { kind = Dm; len = len }) body v) t
dm_fresh t Bot len body Relay h = absurd h
dm_fresh t Server len body Relay h = absurd h
dm_fresh t Bot len body Prn h = (λ c. refl, refl, refl)
dm_fresh t Server len body Prn h = (λ c. refl, refl, refl)
dm_fresh t Bot len body (Huh place) h = (λ c. refl, refl, refl)
dm_fresh t Server len body (Huh place) h = (λ c. refl, refl, refl)

-- a relayed or dropped frame is no refusal
not_refused : (head : Head) (b : Bool) → IsRefusal (Notes.Frame head (deed_of b Relay)) → ⊥
not_refused head true h = h
not_refused head false h = h

frame_fresh : (t : SessionState) (side : Side) (noted : Level) (kind : Kind) (len : ℕ) (body : List ℕ) (v : Verdict) →
    let head : Head = record { kind = kind; len = len } in
    IsCorrectVerdict t.limits.words t.limits.max_depth (question_of side noted head body) v →
    IsRefusal (reported_first (frame_outcome t side head body v).effects) → IsFresh side (frame_outcome t side head body v) t
frame_fresh t side noted Im len body v r h = checked (im_of body) h
  where
    head : Head
    head = record { kind = Im; len = len }

    checked : (o : Result (Unit {0}) Code) →
        IsRefusal (reported_first (im_answered (answered t side head body v) t side o).effects) →
        IsFresh side (im_answered (answered t side head body v) t side o) t
    checked (Ok u) h =
        absurd (not_refused head true (subst (λ (w : Verdict). IsRefusal (Notes.Frame head (deed_of true w))) r h))
    checked (Err code) h = absurd h
frame_fresh t side noted Rm len body v r h =
    absurd (not_refused (record { kind = Rm; len = len }) true
    (subst (λ (w : Verdict). IsRefusal (Notes.Frame (record { kind = Rm; len = len }) (deed_of true w))) r h))
frame_fresh t side noted Dm len body v r h = dm_fresh t side len body v h
frame_fresh t side noted Fm len body v r h =
    absurd (not_refused (record { kind = Fm; len = len }) (may_reach t.phase (other side))
    (let k = rw r at h in k))
frame_fresh t side noted Em len body v r h =
    absurd (not_refused (record { kind = Em; len = len }) (may_reach t.phase (other side))
    (let k = rw r at h in k))

-- the first report is also that of the effects with none after them
reported_alone : (effects : List Effect) → IsRefusal (reported_first (effects ++ [])) → IsRefusal (reported_first effects)
reported_alone effects h = subst (λ (e : List Effect). IsRefusal (reported_first e)) (append-nil effects) h

fresh_over : (side : Side) (new : Successor) (mid old : SessionState) → SameBut side mid old → IsFresh side new mid →
    IsFresh side new old
fresh_over side new mid old same f = (λ k. f.0 k ∙ same k, f.1, f.2)

-- with no effect after it
alone_fresh : (side : Side) (new : Successor) (old : SessionState) → IsFresh side new old →
    IsFresh side (record { state = new.state; effects = new.effects ++ [] }) old
alone_fresh side new old f = (f.0, f.1, ap (sent_to (other side)) (append-nil new.effects) ∙ f.2)

at_once_fresh : (t : SessionState) (side : Side) (head : Head) (v : Verdict) → is_over t.phase ≡ false →
    IsCorrectVerdict t.limits.words t.limits.max_depth (question_of side (level_in t.phase) head []) v →
    IsRefusal (reported_first (items_outcome (with_noted t side (level_in t.phase)) side (Whole head [] ∷ []) v).effects) →
    IsFresh side (items_outcome (with_noted t side (level_in t.phase)) side (Whole head [] ∷ []) v) t
at_once_fresh t Bot head v o r h =
    let k = rw o at h in
    let w = frame_outcome (with_noted t Bot (level_in t.phase)) Bot head [] v in
    rw o (alone_fresh Bot w t (fresh_over Bot w (with_noted t Bot (level_in t.phase)) t (noting_same Bot t (level_in t.phase))
    (frame_fresh (with_noted t Bot (level_in t.phase)) Bot (level_in t.phase) head.kind head.len [] v r (reported_alone w.effects k))))
at_once_fresh t Server head v o r h =
    let k = rw o at h in
    let w = frame_outcome (with_noted t Server (level_in t.phase)) Server head [] v in
    rw o (alone_fresh Server w t (fresh_over Server w (with_noted t Server (level_in t.phase)) t (noting_same Server t (level_in t.phase))
    (frame_fresh (with_noted t Server (level_in t.phase)) Server (level_in t.phase) head.kind head.len [] v r (reported_alone w.effects k))))

items_fresh : (t : SessionState) (side : Side) (items : List FrameEvent) (v : Verdict) → Shape t.limits.cap items →
    is_over t.phase ≡ false → IsCorrectVerdict t.limits.words t.limits.max_depth (asked_by t side items) v →
    IsRefusal (reported_first (items_outcome t side items v).effects) → IsFresh side (items_outcome t side items v) t
items_fresh t side items v quiet o r h = absurd h
items_fresh t side items v (headed head) o r h = go (untimely t.phase side head.kind) refl
  where
    go : (code : Option Code) → untimely t.phase side head.kind ≡ code →
        IsFresh side (items_outcome t side (Begun head ∷ []) v) t
    go None e = absurd (let k = rw (o, e) at h in k)
    go (Some code) e = absurd (let k = rw (o, e) at h in k)
items_fresh t side items v (at_once head w) o r h = go (untimely t.phase side head.kind) refl
  where
    go : (code : Option Code) → untimely t.phase side head.kind ≡ code →
        IsFresh side (items_outcome t side (Begun head ∷ Whole head [] ∷ []) v) t
    go None e = rw (o, e) (at_once_fresh t side head v o (let q = rw e at r in q) (let k = rw (o, e) at h in k))
    go (Some code) e = absurd (let k = rw (o, e) at h in k)
items_fresh t side items v (Shapes.whole head body w) o r h =
    let one = frame_outcome t side head body v in
    rw o (alone_fresh side one t (frame_fresh t side (coming t side).noted head.kind head.len body v r
    (reported_alone one.effects (let k = rw o at h in k))))
items_fresh t side items v (Shapes.wrong code) o r h = absurd (let k = rw o at h in k)

-- ---- one step at a byte from the side

live_phase : (side : Side) (s : SessionState) (bytes : List ℕ) → is_over s.phase ≡ false →
    is_over (with_pending s side bytes).phase ≡ false
live_phase Bot s bytes o = o
live_phase Server s bytes o = o

own_shape : (side : Side) (s : SessionState) (bytes : List ℕ) →
    Shape (with_pending s side bytes).limits.cap (last_items s.limits.cap bytes)
own_shape Bot s bytes = shape s.limits.cap bytes
own_shape Server s bytes = shape s.limits.cap bytes

own_right : (side : Side) (s : SessionState) (bytes : List ℕ) (v : Verdict) →
    IsCorrectVerdict s.limits.words s.limits.max_depth (asked_by s side (last_items s.limits.cap bytes)) v →
    IsCorrectVerdict (with_pending s side bytes).limits.words (with_pending s side bytes).limits.max_depth
    (asked_by (with_pending s side bytes) side (last_items s.limits.cap bytes)) v
own_right Bot s bytes v r = r
own_right Server s bytes v r = r

abbrev bytes_at : SessionState → Side → ℕ → List ℕ
bytes_at s side x = (coming s side).pending ++ x ∷ []

abbrev after_byte : SessionState → Side → ℕ → Verdict → Successor
after_byte s side x v =
    items_outcome (with_pending s side (bytes_at s side x)) side (last_items s.limits.cap (bytes_at s side x)) v

came_byte : (s : SessionState) (side : Side) (x : ℕ) (effects : List Effect) (m : SessionState)
    (t : Transition s (Comes side x) effects m) → is_over s.phase ≡ false →
    after_byte s side x t.verdict ≡ record { state = m; effects = effects }
came_byte s side x effects m t o =
    let e : event_outcome s (Comes side x) t.verdict ≡ after_byte s side x t.verdict = rw o refl in
    sym e ∙ t.outcome

-- a byte that ends no frame, if the session goes on
own_quiet : (s : SessionState) (side : Side) (x : ℕ) (effects : List Effect) (m : SessionState) →
    Transition s (Comes side x) effects m → is_over s.phase ≡ false → is_over m.phase ≡ false →
    frames_among (last_items s.limits.cap (bytes_at s side x)) ≡ [] → (effects ≡ []) × SameBut side m s
own_quiet s side x effects m t o p f =
    let came = came_byte s side x effects m t o in
    let l = leaves (with_pending s side (bytes_at s side x)) side (last_items s.limits.cap
    (bytes_at s side x)) t.verdict
    (own_shape side s (bytes_at s side x)) (live_phase side s (bytes_at s side x) o)
    (ap (λ (q : Successor). is_over q.state.phase) came ∙ p) f in (
      sym (ap (λ (q : Successor). q.effects) came) ∙ l.0,
      λ c. sym (ap (λ (q : Successor). with_coming q.state side c) came) ∙ l.1 c ∙ pending_same side s
          (bytes_at s side x) c,
    )

own_refused : (s : SessionState) (side : Side) (x : ℕ) (refusal : Effect) (m : SessionState) →
    Transition s (Comes side x) (refusal ∷ []) m → is_over s.phase ≡ false → IsRefusal refusal.reported →
    IsFresh side (record { state = m; effects = refusal ∷ [] }) s
own_refused s side x refusal m t o h =
    let came = came_byte s side x (refusal ∷ []) m t o in
    let reported = subst IsRefusal (sym (ap (λ (q : Successor). reported_first q.effects) came)) h in
    let right = own_right side s (bytes_at s side x) t.verdict (let r = t.right in let k = rw o at r in k) in
    let f = items_fresh (with_pending s side (bytes_at s side x)) side (last_items s.limits.cap (bytes_at s side x))
    t.verdict (own_shape side s (bytes_at s side x)) (live_phase side s (bytes_at s side x) o) right reported in
    subst (λ (q : Successor). IsFresh side q s) came
    (fresh_over side (after_byte s side x t.verdict) (with_pending s side (bytes_at s side x)) s
    (pending_same side s (bytes_at s side x)) f)

-- ---- while the message arrives

live_before : (s : SessionState) (events : List Event) (effects : List Effect) (m : SessionState) →
    Runs s events effects m → is_over m.phase ≡ false → is_over s.phase ≡ false
live_before s events effects m run p = go (is_over s.phase) refl
  where
    go : (b : Bool) → is_over s.phase ≡ b → is_over s.phase ≡ false
    go true o = absurd (not_both (is_over m.phase) (over_for_good s events effects m run o) p)
    go false o = o

none_of : (a b : List FrameEvent) → a ++ b ≡ [] → (a ≡ []) × (b ≡ [])
none_of [] b e = (refl, e)
none_of (item ∷ a) b e = absurd (cc)

-- an event other than a byte from the side
passes_on : (side : Side) (c : Coming) (e : Event) (events : List Event) (s : SessionState) (b : List Effect)
    (m : SessionState) (run : Runs s (e ∷ events) b m) → is_own side e ≡ false →
    Runs (with_coming run.0 side c) (without_bytes side events) run.2 (with_coming m side c) →
    Runs (with_coming s side c) (e ∷ without_bytes side events) b (with_coming m side c)
passes_on side c e events s b m run own later =
    (with_coming run.0 side c, run.1, run.2, step_beside side s c e run.1 run.0 own run.3, later, run.5)

-- a byte from the side
stays_out : (side : Side) (c : Coming) (x : ℕ) (events : List Event) (s : SessionState) (b : List Effect)
    (m : SessionState) (run : Runs s (Comes side x ∷ events) b m) → is_over m.phase ≡ false →
    frames_among (heard_at side s (Comes side x)) ≡ [] →
    Runs (with_coming run.0 side c) (without_bytes side events) run.2 (with_coming m side c) →
    Runs (with_coming s side c) (without_bytes side events) b (with_coming m side c)
stays_out side c x events s b m run p f later =
    let o = live_before s (Comes side x ∷ events) b m run p in
    let next = live_before run.0 events run.2 m run.4 p in
    let heard : heard_at side s (Comes side x) ≡ last_items s.limits.cap (bytes_at s side x) = rw
    (o, same_self side) refl in
    let q = own_quiet s side x run.1 run.0 run.3 o next (sym (ap frames_among heard) ∙ f) in
    let moves : b ≡ run.2 = run.5 ∙ ap (λ (t : List Effect). t ++ run.2) q.0 in
    subst (λ (t : SessionState). Runs t (without_bytes side events) b (with_coming m side c)) (q.1 c)
    (subst (λ (t : List Effect). Runs (with_coming run.0 side c) (without_bytes side events) t (with_coming m side c))
    (sym moves) later)

one_event : (side : Side) (c : Coming) (e : Event) (events : List Event) (s : SessionState) (b : List Effect)
    (m : SessionState) (run : Runs s (e ∷ events) b m) → is_over m.phase ≡ false → frames_among (heard_at side s e)
    ≡ [] →
    Runs (with_coming run.0 side c) (without_bytes side events) run.2 (with_coming m side c) →
    Runs (with_coming s side c) (without_bytes side (e ∷ events)) b (with_coming m side c)
one_event Bot c (Comes Bot x) events s b m run p f later = stays_out Bot c x events s b m run p f later
one_event Server c (Comes Server x) events s b m run p f later = stays_out Server c x events s b m run p f later
one_event Bot c (Comes Server x) events s b m run p f later =
    passes_on Bot c (Comes Server x) events s b m run refl later
one_event Server c (Comes Bot x) events s b m run p f later =
    passes_on Server c (Comes Bot x) events s b m run refl later
one_event side c (Ends from) events s b m run p f later = passes_on side c (Ends from) events s b m run refl later
one_event side c (Loses from) events s b m run p f later = passes_on side c (Loses from) events s b m run refl later
one_event side c ImTimerExpired events s b m run p f later = passes_on side c ImTimerExpired events s b m run refl later
one_event side c OperatorStops events s b m run p f later = passes_on side c OperatorStops events s b m run refl later

between_runs : (side : Side) (c : Coming) (events : List Event) (s : SessionState) (b : List Effect)
    (m : SessionState) (run : Runs s events b m) → frames_among (items_heard side s events b m run) ≡ [] →
    is_over m.phase ≡ false → Runs (with_coming s side c) (without_bytes side events) b (with_coming m side c)
between_runs side c [] s b m run f p = (run.0, ap (λ (q : SessionState). with_coming q side c) run.1)
between_runs side c (e ∷ events) s b m run f p =
    let none = none_of (frames_among (heard_at side s e)) (frames_among (items_heard side run.0 events run.2 m run.4))
    (sym (frames_among-append (heard_at side s e) (items_heard side run.0 events run.2 m run.4)) ∙ f) in
    one_event side c e events s b m run p none.0 (between_runs side c events run.0 run.2 m run.4 none.1 p)

-- ---- after it, with another recorded level

-- if another level is recorded for a side, it has no whole header pending, or the session is over
abbrev MayDiffer : Side → SessionState → Level → Type 0
MayDiffer side s n = is_over s.phase ≡ false → 4 ≤ length (coming s side).pending → n ≡ (coming s side).noted

abbrev put_noted : Side → Level → Successor → Successor
put_noted side l o = record { state = with_noted o.state side l; effects = o.effects }

-- the same step with another level recorded before and after
abbrev StepsToo : Side → SessionState → Level → Event → List Effect → SessionState → Type 0
StepsToo side s n e effects m =
    (l : Level) × Transition (with_noted s side n) e effects (with_noted m side l) × MayDiffer side m l

own_noted : (side : Side) (s : SessionState) → with_noted s side (coming s side).noted ≡ s
own_noted Bot s = refl
own_noted Server s = refl

own_coming : (side : Side) (s : SessionState) → with_coming s side (coming s side) ≡ s
own_coming Bot s = refl
own_coming Server s = refl

coming_is : (side : Side) (s : SessionState) (c : Coming) → coming (with_coming s side c) side ≡ c
coming_is Bot s c = refl
coming_is Server s c = refl

-- an event other than a byte from a side leaves its input unchanged
keeps : (side : Side) (s : SessionState) (e : Event) (effects : List Effect) (m : SessionState) → is_own side e
    ≡ false →
    Transition s e effects m → coming m side ≡ coming s side
keeps side s e effects m own t =
    let same : event_outcome s e t.verdict ≡ put side (coming s side) (event_outcome s e t.verdict) =
    ap (λ (q : SessionState). event_outcome q e t.verdict) (sym (own_coming side s))
    ∙ event_commutes side s (coming s side) e t.verdict own in
    ap (λ (q : Successor). coming q.state side) (sym t.outcome ∙ same)
    ∙ coming_is side (event_outcome s e t.verdict).state (coming s side)

beside_too : (side : Side) (s : SessionState) (n : Level) (e : Event) (effects : List Effect) (m : SessionState) →
    is_own side e ≡ false → Transition s e effects m → MayDiffer side s n → StepsToo side s n e effects m
beside_too side s n e effects m own t may =
    let kept = keeps side s e effects m own t in
    let c : Coming = record { pending = (coming s side).pending; noted = n } in (
      n,
      subst (λ (k : Coming). Transition (with_noted s side n) e effects
          (with_coming m side (record { pending = k.pending; noted = n }))) (sym kept)
          (step_beside side s c e effects m own t),
      λ o l. may (live_before s (e ∷ []) (effects ++ []) m (m, effects, [], t, (refl, refl), refl) o)
          (subst (λ (k : Coming). 4 ≤ length k.pending) kept l) ∙ ap (λ (k : Coming). k.noted) (sym kept),
    )

-- with a whole header the level is the same
long_too : (side : Side) (s : SessionState) (n : Level) (e : Event) (effects : List Effect) (m : SessionState) →
    Transition s e effects m → n ≡ (coming s side).noted → StepsToo side s n e effects m
long_too side s n e effects m t same = (
  (coming m side).noted,
  subst (λ (q : SessionState). Transition q e effects (with_noted m side (coming m side).noted))
      (sym (ap (λ (l : Level). with_noted s side l) same ∙ own_noted side s))
      (subst (λ (q : SessionState). Transition s e effects q) (sym (own_noted side m)) t),
  λ o l. refl,
)

-- the frame events that end with a header
data Early : List FrameEvent → Type 0 where
  early_wrong : (code : Code) → Early (Wrong code ∷ [])
  early_begun : (head : Head) (rest : List FrameEvent) → Early (Begun head ∷ rest)

early_head : (r : Result Head Code) → Early (at_head r)
early_head (Err code) = early_wrong code
early_head (Ok head) = early_begun head (cond (eqb head.len 0) (Whole head [] ∷ []) [])

over_items : (t : SessionState) (side : Side) (items : List FrameEvent) (v : Verdict) → is_over t.phase ≡ true →
    items_outcome t side items v ≡ nothing t
over_items t side [] v o = refl
over_items t side (item ∷ items) v o = rw o refl

-- only the current level judges them
early_asks : (side : Side) (m n now : Level) (refusal : Kind → Option Code) (items : List FrameEvent) → Early items →
    question_in side m now refusal items ≡ question_in side n now refusal items
early_asks side m n now refusal items (early_wrong code) = refl
early_asks side m n now refusal items (early_begun head []) = refl
early_asks side m n now refusal items (early_begun head (Begun again ∷ rest)) = refl
early_asks side m n now refusal items (early_begun head (Whole again body ∷ rest)) = refl
early_asks side m n now refusal items (early_begun head (Wrong code ∷ rest)) = refl

early_too_bot : (t : SessionState) (n : Level) (items : List FrameEvent) (v : Verdict) → Early items → is_over t.phase
    ≡ false →
    (l : Level) × (items_outcome (with_noted t Bot n) Bot items v ≡ put_noted Bot l (items_outcome t Bot items v))
    × MayDiffer Bot (items_outcome t Bot items v).state l
early_too_bot t n items v (early_wrong code) o = (
  n,
  rw o refl,
  λ p l. absurd (let q : true ≡ false = (let h = rw o at p in h) in cc),
)
early_too_bot t n items v (early_begun head rest) o = go (untimely t.phase Bot head.kind) refl
  where
    all : Successor
    all = items_outcome t Bot (Begun head ∷ rest) v

    Goal : Type 0
    Goal = (l : Level) × (items_outcome (with_noted t Bot n) Bot (Begun head ∷ rest) v ≡ put_noted Bot l all)
        × MayDiffer Bot all.state l

    go : (code : Option Code) → untimely t.phase Bot head.kind ≡ code → Goal
    go None e = (
      (coming all.state Bot).noted,
      (let same : items_outcome (with_noted t Bot n) Bot (Begun head ∷ rest) v ≡ all = rw (o, e) refl in same),
      λ p l. refl,
    )
    go (Some code) e =
        let was : all ≡ fault t Bot code =
        rw (o, e) (ap (λ (q : Successor). record { state = q.state; effects = (fault t Bot code).effects ++ q.effects })
        (over_items (record t { phase = Over (Endings.Fault Bot code) }) Bot rest v refl)) in
        let is : items_outcome (with_noted t Bot n) Bot (Begun head ∷ rest) v ≡ fault (with_noted t Bot n) Bot code =
        rw (o, e) (ap (λ (q : Successor). record { state = q.state; effects = (fault t Bot code).effects ++ q.effects })
        (over_items (record (with_noted t Bot n) { phase = Over (Endings.Fault Bot code) }) Bot rest v refl)) in (
          n,
          is ∙ ap (put_noted Bot n) (sym was),
          λ p l. absurd (let q : true ≡ false = sym (ap (λ (k : Successor). is_over k.state.phase) was) ∙ p in cc),
        )

short_too_bot : (s : SessionState) (n : Level) (x : ℕ) (effects : List Effect) (m : SessionState) →
    Transition s (Comes Bot x) effects m → is_over s.phase ≡ false → length s.sides.bot.pending < 4 →
    StepsToo Bot s n (Comes Bot x) effects m
short_too_bot s n x effects m t o short = by_length (cases_lt (length b) 4)
  where
    b : List ℕ
    b = s.sides.bot.pending ++ x ∷ []

    came : items_outcome (with_pending s Bot b) Bot (last_items s.limits.cap b) t.verdict
        ≡ record { state = m; effects = effects }
    came = came_byte s Bot x effects m t o

    right : IsCorrectVerdict s.limits.words s.limits.max_depth (asked_by s Bot (last_items s.limits.cap b)) t.verdict
    right = let r = t.right in let k = rw o at r in k

    longer : length b ≡ length s.sides.bot.pending + 1
    longer = length-append s.sides.bot.pending (x ∷ [])

    by_length : (length b < 4) ⊎ (4 ≤ length b) → StepsToo Bot s n (Comes Bot x) effects m
    by_length (inl few) =
        let none = last_items-short s.limits.cap b few in
        let quiet_one : nothing (with_pending s Bot b) ≡ record { state = m; effects = effects } =
        (let h = rw none at came in h) in (
          n,
          record {
            verdict = t.verdict;
            right = rw (o, none) (let h = rw none at right in h);
            outcome = rw (o, none) (ap (put_noted Bot n) quiet_one);
          },
          λ p l. absurd (omega (arith, ap (λ (q : Successor). length q.state.sides.bot.pending) quiet_one, few, l)),
        )
    by_length (inr many) =
        let four : length b ≡ 4 = omega (arith, longer, short, many) in
        let early : Early (last_items s.limits.cap b) =
        subst Early (sym (last_items-head s.limits.cap b four)) (early_head (parse_head b s.limits.cap)) in
        let e = early_too_bot (with_pending s Bot b) n (last_items s.limits.cap b) t.verdict early o in (
          e.0,
          record {
            verdict = t.verdict;
            right = rw o (subst (λ (q : Option Question). IsCorrectVerdict s.limits.words s.limits.max_depth q t.verdict)
                (early_asks Bot s.sides.bot.noted n (level_in s.phase) (untimely s.phase Bot) (last_items s.limits.cap b) early) right);
            outcome = rw o (e.1 ∙ ap (put_noted Bot e.0) came);
          },
          subst (λ (q : Successor). MayDiffer Bot q.state e.0) came e.2,
        )

early_too_server : (t : SessionState) (n : Level) (items : List FrameEvent) (v : Verdict) → Early items → is_over t.phase
    ≡ false →
    (l : Level) × (items_outcome (with_noted t Server n) Server items v ≡ put_noted Server l
    (items_outcome t Server items v))
    × MayDiffer Server (items_outcome t Server items v).state l
early_too_server t n items v (early_wrong code) o = (
  n,
  rw o refl,
  λ p l. absurd (let q : true ≡ false = (let h = rw o at p in h) in cc),
)
early_too_server t n items v (early_begun head rest) o = go (untimely t.phase Server head.kind) refl
  where
    all : Successor
    all = items_outcome t Server (Begun head ∷ rest) v

    Goal : Type 0
    Goal = (l : Level) × (items_outcome (with_noted t Server n) Server (Begun head ∷ rest) v ≡ put_noted Server l all)
        × MayDiffer Server all.state l

    go : (code : Option Code) → untimely t.phase Server head.kind ≡ code → Goal
    go None e = (
      (coming all.state Server).noted,
      (let same : items_outcome (with_noted t Server n) Server (Begun head ∷ rest) v ≡ all = rw (o, e) refl in same),
      λ p l. refl,
    )
    go (Some code) e =
        let was : all ≡ fault t Server code =
        rw (o, e) (ap (λ (q : Successor). record {
          state = q.state;
          effects =
              (fault t Server code).effects ++ q.effects;
        })
        (over_items (record t { phase = Over (Endings.Fault Server code) }) Server rest v refl)) in
        let is : items_outcome (with_noted t Server n) Server (Begun head ∷ rest) v ≡ fault
        (with_noted t Server n) Server code =
        rw (o, e) (ap (λ (q : Successor). record {
          state = q.state;
          effects =
              (fault t Server code).effects ++ q.effects;
        })
        (over_items (record (with_noted t Server n) { phase = Over (Endings.Fault Server code) }) Server rest v refl)) in (
          n,
          is ∙ ap (put_noted Server n) (sym was),
          λ p l. absurd (let q : true ≡ false = sym (ap (λ (k : Successor). is_over k.state.phase) was) ∙ p in cc),
        )

short_too_server : (s : SessionState) (n : Level) (x : ℕ) (effects : List Effect) (m : SessionState) →
    Transition s (Comes Server x) effects m → is_over s.phase ≡ false → length s.sides.server.pending < 4 →
    StepsToo Server s n (Comes Server x) effects m
short_too_server s n x effects m t o short = by_length (cases_lt (length b) 4)
  where
    b : List ℕ
    b = s.sides.server.pending ++ x ∷ []

    came : items_outcome (with_pending s Server b) Server (last_items s.limits.cap b) t.verdict
        ≡ record { state = m; effects = effects }
    came = came_byte s Server x effects m t o

    right : IsCorrectVerdict s.limits.words s.limits.max_depth (asked_by s Server (last_items s.limits.cap b)) t.verdict
    right = let r = t.right in let k = rw o at r in k

    longer : length b ≡ length s.sides.server.pending + 1
    longer = length-append s.sides.server.pending (x ∷ [])

    by_length : (length b < 4) ⊎ (4 ≤ length b) → StepsToo Server s n (Comes Server x) effects m
    by_length (inl few) =
        let none = last_items-short s.limits.cap b few in
        let quiet_one : nothing (with_pending s Server b) ≡ record { state = m; effects = effects } =
        (let h = rw none at came in h) in (
          n,
          record {
            verdict = t.verdict;
            right = rw (o, none) (let h = rw none at right in h);
            outcome = rw (o, none) (ap (put_noted Server n) quiet_one);
          },
          λ p l. absurd (omega (arith, ap (λ (q : Successor). length q.state.sides.server.pending) quiet_one, few, l)),
        )
    by_length (inr many) =
        let four : length b ≡ 4 = omega (arith, longer, short, many) in
        let early : Early (last_items s.limits.cap b) =
        subst Early (sym (last_items-head s.limits.cap b four)) (early_head (parse_head b s.limits.cap)) in
        let e = early_too_server (with_pending s Server b) n (last_items s.limits.cap b) t.verdict early o in (
          e.0,
          record {
            verdict = t.verdict;
            right = rw o (subst (λ (q : Option Question). IsCorrectVerdict s.limits.words s.limits.max_depth q t.verdict)
                (early_asks Server s.sides.server.noted n (level_in s.phase) (untimely s.phase Server)
                (last_items s.limits.cap b) early) right);
            outcome = rw o (e.1 ∙ ap (put_noted Server e.0) came);
          },
          subst (λ (q : Successor). MayDiffer Server q.state e.0) came e.2,
        )

-- one step
too : (side : Side) (s : SessionState) (n : Level) (e : Event) (effects : List Effect) (m : SessionState) →
    Transition s e effects m → is_over s.phase ≡ false → MayDiffer side s n → StepsToo side s n e effects m
too Bot s n (Comes Bot x) effects m t o may =
    elim (cases_lt (length s.sides.bot.pending) 4) [
      | inl few ↦ short_too_bot s n x effects m t o few
      | inr many ↦ long_too Bot s n (Comes Bot x) effects m t (may o many)
    ]
too Server s n (Comes Server x) effects m t o may =
    elim (cases_lt (length s.sides.server.pending) 4) [
      | inl few ↦ short_too_server s n x effects m t o few
      | inr many ↦ long_too Server s n (Comes Server x) effects m t (may o many)
    ]
too Bot s n (Comes Server x) effects m t o may = beside_too Bot s n (Comes Server x) effects m refl t may
too Server s n (Comes Bot x) effects m t o may = beside_too Server s n (Comes Bot x) effects m refl t may
too side s n (Ends from) effects m t o may = beside_too side s n (Ends from) effects m refl t may
too side s n (Loses from) effects m t o may = beside_too side s n (Loses from) effects m refl t may
too side s n ImTimerExpired effects m t o may = beside_too side s n ImTimerExpired effects m refl t may
too side s n OperatorStops effects m t o may = beside_too side s n OperatorStops effects m refl t may

abbrev RunsToo : Side → SessionState → Level → List Event → List Effect → SessionState → Type 0
RunsToo side s n events effects m = (l : Level) × Runs (with_noted s side n) events effects (with_noted m side l)

after_runs : (side : Side) (events : List Event) (s : SessionState) (n : Level) (d : List Effect) (m : SessionState) →
    Runs s events d m → MayDiffer side s n → RunsToo side s n events d m
after_runs side [] s n d m run may = (n, (run.0, ap (λ (q : SessionState). with_noted q side n) run.1))
after_runs side (e ∷ events) s n d m run may =
    go (is_over s.phase) refl (λ l k. after_runs side events run.0 l run.2 m run.4 k)
  where
    Later : Type 0
    Later = (l : Level) → MayDiffer side run.0 l → RunsToo side run.0 l events run.2 m

    go : (b : Bool) → is_over s.phase ≡ b → Later → RunsToo side s n (e ∷ events) d m
    go true o later =
        let stays = one_run (e ∷ events) s d [] m s run (over_stays s (e ∷ events) o) in
        let live = ap is_over (same_phase side s (record { pending = (coming s side).pending; noted = n })) ∙ o in (
          n,
          subst (λ (q : SessionState). Runs (with_noted s side n) (e ∷ events) d (with_noted q side n)) (sym stays.1)
              (subst (λ (t : List Effect). Runs (with_noted s side n) (e ∷ events) t (with_noted s side n))
              (sym stays.0)
              (over_stays (with_noted s side n) (e ∷ events) live)),
        )
    go false o later =
        let now = too side s n e run.1 run.0 run.3 o may in
        let rest = later now.0 now.2 in
        (rest.0, (with_noted run.0 side now.0, run.1, run.2, now.1, rest.1, run.5))

-- ---- the law

pub harms_alone : (limits : Limits) (side : Side) (before between : List Event) (byte : ℕ) (after : List Event)
    (first among : List Effect) (refusal : Effect) (last : List Effect) (new : SessionState) →
    HasRefused limits side before between byte after first among refusal last new →
    IsAsIfUnsent limits side before between after first among refusal last new
harms_alone limits side before between byte after first among refusal last new h = record {
  noted = later.0;
  run = runs_join before (without_bytes side between ++ after) (initial_state limits) h.begun
      (with_noted new side later.0) first
      (among ++ last) h.first_run
      (runs_join (without_bytes side between) after h.begun (with_coming h.come side c)
      (with_noted new side later.0) among
      last
      (subst (λ (q : SessionState). Runs q (without_bytes side between) among (with_coming h.come side c))
      (own_coming side h.begun)
      (between_runs side c between h.begun among h.come h.among_run h.no_frame live))
      (subst (λ (q : SessionState). Runs q after last (with_noted new side later.0)) same later.1));
  sent = sent_to-append to first (among ++ (refusal ∷ last))
      ∙ ap (λ (t : List Sent). sent_to to first ++ t)
      (sent_to-append to among (refusal ∷ last)
      ∙ ap (λ (t : List Sent). sent_to to among ++ t) (sent_to-append to (refusal ∷ []) last ∙ unheard)
      ∙ sym (sent_to-append to among last))
      ∙ sym (sent_to-append to first (among ++ last));
}
  where
    to : Side
    to = other side

    c : Coming
    c = coming h.begun side

    live : is_over h.come.phase ≡ false
    live = go (is_over h.come.phase) refl
      where
        go : (b : Bool) → is_over h.come.phase ≡ b → is_over h.come.phase ≡ false
        go false o = o
        go true o =
            let none : refusal ∷ [] ≡ [] =
            ap (λ (q : Successor). q.effects)
            (sym h.step.outcome ∙ over_outcome h.come (Comes side byte) h.step.verdict o) in
            absurd (cc)

    fresh : IsFresh side (record { state = h.answered; effects = refusal ∷ [] }) h.come
    fresh = own_refused h.come side byte refusal h.answered h.step live h.refused

    later : RunsToo side h.answered c.noted after last new
    later = after_runs side after h.answered c.noted last new h.last_run
        (λ o l. absurd (omega (arith, ap length fresh.1, l)))

    same : with_noted h.answered side c.noted ≡ with_coming h.come side c
    same =
        ap (λ (p : List ℕ). with_coming h.answered side (record { pending = p; noted = c.noted }))
        (fresh.1 ∙ sym h.fresh) ∙ fresh.0 c

    unheard : sent_to to (refusal ∷ []) ++ sent_to to last ≡ sent_to to last
    unheard = ap (λ (t : List Sent). t ++ sent_to to last) fresh.2
