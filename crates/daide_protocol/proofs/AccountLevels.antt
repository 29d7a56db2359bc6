-- While a session is open, the level of its account is that of its phase.
use Rattle.daide_protocol.proofs.Common.{◌≡◌, ℕ, Bool, true, false, cond, List, [], ◌∷◌, ◌++◌, Option, Some, None}
use Rattle.daide_protocol.proofs.Common.{Result, Ok, Err, refl, sym, ap, ◌∙◌, subst, tokens_of, Side, Bot, Server, Head}
use Rattle.daide_protocol.proofs.Common.{Kind, Im, Rm, Dm, Fm, Em, Code, is_im, im_of, FrameEvent, Begun, Whole, Wrong}
use Rattle.daide_protocol.proofs.Common.{Level, Verdict, Relay, Prn, Huh, Account, Deed, SessionPhase, WaitIm, WaitRm}
use Rattle.daide_protocol.proofs.Common.{Open, Over, nothing_accounted, accounted, Event, Comes, Ends, Loses}
use Rattle.daide_protocol.proofs.Common.{ImTimerExpired, OperatorStops, level_reported, Limits, SessionState, Effect}
use Rattle.daide_protocol.proofs.Common.{Successor, Runs, coming, with_pending, destination, is_over, is_sent}
use Rattle.daide_protocol.proofs.Common.{phase_after, deed_of, answered, im_answered, fault, untimely, header_outcome}
use Rattle.daide_protocol.proofs.Common.{item_outcome, items_outcome, im_timer_expired, event_outcome, initial_state}
use Rattle.daide_protocol.specs.Account.{level_after, frame_accounted}
use Rattle.daide_protocol.proofs.AccountLemmas.{accounted-append, answer_by_body}
use Rattle.daide_protocol.proofs.FramesHeard.{items_limits}
use Rattle.daide_protocol.proofs.LimitsKept.{event_limits}

-- in an open session the account has the level of the phase
abbrev HasLevel : SessionPhase → Account → Type 0
HasLevel phase a = (level : Level) → phase ≡ Open level → a.level ≡ level

-- and so it has after an outcome
abbrev Leaves : Level → Account → Successor → Type 0
Leaves top a o = HasLevel o.state.phase (accounted top o.effects a)

-- ---- a whole frame

after_frame : (top : Level) (kind : Kind) (side : Side) (v : Verdict) (tokens : List ℕ) (phase : SessionPhase)
    (a : Account) → HasLevel phase a → (level : Level) → phase_after top kind side v tokens phase ≡ Open level →
    level_after top kind side (deed_of true v) tokens a.level ≡ level
after_frame top Im side v tokens phase a h level e = absurd cc
after_frame top Rm side v tokens phase a h level e = cc
after_frame top Dm Bot v tokens phase a h level e = h level e
after_frame top Dm Server Relay tokens WaitIm a h level e = absurd cc
after_frame top Dm Server Relay tokens WaitRm a h level e = absurd cc
after_frame top Dm Server Relay tokens (Open l) a h level e =
    let same : level_reported top tokens l ≡ level = cc in ap (level_reported top tokens) (h l refl) ∙ same
after_frame top Dm Server Relay tokens (Over ending) a h level e = absurd cc
after_frame top Dm Server Prn tokens phase a h level e = h level e
after_frame top Dm Server (Huh place) tokens phase a h level e = h level e
after_frame top Fm side v tokens phase a h level e = absurd cc
after_frame top Em side v tokens phase a h level e = absurd cc

-- only a frame that ends the session can be unsent
after_dropped : (top : Level) (kind : Kind) (side to : Side) (v : Verdict) (tokens : List ℕ) (phase : SessionPhase) →
    is_sent phase kind to ≡ false → (level : Level) → phase_after top kind side v tokens phase ≡ Open level → ⊥
after_dropped top Im side to v tokens phase e level k = cc
after_dropped top Rm side to v tokens phase e level k = cc
after_dropped top Dm side to v tokens phase e level k = cc
after_dropped top Fm side to v tokens phase e level k = cc
after_dropped top Em side to v tokens phase e level k = cc

frame_level : (top : Level) (side : Side) (kind : Kind) (deed : Deed) (tokens : List ℕ) (a : Account) →
    (frame_accounted top side kind deed tokens a).level ≡ level_after top kind side deed tokens a.level
frame_level top Bot kind deed tokens a = refl
frame_level top Server kind deed tokens a = refl

answered_level : (s : SessionState) (side : Side) (head : Head) (body : List ℕ) (v : Verdict) (a : Account) →
    HasLevel s.phase a → Leaves s.limits.top_level a (answered s side head body v)
answered_level s side head body v a h = go (is_sent s.phase head.kind (destination side v)) refl
  where
    top : Level
    top = s.limits.top_level

    go : (goes : Bool) → is_sent s.phase head.kind (destination side v) ≡ goes →
        Leaves top a (answered s side head body v)
    go true e = rw e (λ level k.
        ap (λ (x : Account). x.level) (answer_by_body top side head body v a)
        ∙ (frame_level top side head.kind (deed_of true v) (tokens_of body) a
        ∙ after_frame top head.kind side v (tokens_of body) s.phase a h level k))
    go false e = rw e (λ level k.
        absurd (after_dropped top head.kind side (destination side v) v (tokens_of body) s.phase e level k))

-- ---- the outcome of an event

fault_level : (s : SessionState) (side : Side) (code : Code) (a : Account) → Leaves s.limits.top_level a (fault s side code)
fault_level s side code a = λ level e. absurd cc

begun_level : (s : SessionState) (side : Side) (code : Option Code) (a : Account) → HasLevel s.phase a →
    Leaves s.limits.top_level a (header_outcome s side code)
begun_level s Bot None a h = h
begun_level s Server None a h = h
begun_level s side (Some code) a h = fault_level s side code a

whole_level : (s : SessionState) (side : Side) (head : Head) (body : List ℕ) (v : Verdict) (a : Account) →
    HasLevel s.phase a → (im : Bool) (r : Result (Unit {0}) Code) →
    Leaves s.limits.top_level a
    (cond im (im_answered (answered s side head body v) s side r) (answered s side head body v))
whole_level s side head body v a h true (Ok u) = answered_level s side head body v a h
whole_level s side head body v a h true (Err code) = fault_level s side code a
whole_level s side head body v a h false r = answered_level s side head body v a h

item_level : (s : SessionState) (side : Side) (item : FrameEvent) (v : Verdict) (a : Account) → HasLevel s.phase a →
    Leaves s.limits.top_level a (item_outcome s side item v)
item_level s side (Begun head) v a h = begun_level s side (untimely s.phase side head.kind) a h
item_level s side (Whole head body) v a h = whole_level s side head body v a h (is_im head.kind) (im_of body)
item_level s side (Wrong code) v a h = fault_level s side code a

-- one outcome after another
then_level : (top : Level) (a : Account) (first second : Successor) →
    Leaves top (accounted top first.effects a) second →
    Leaves top a (record { state = second.state; effects = first.effects ++ second.effects })
then_level top a first second h = λ level e.
    ap (λ (x : Account). x.level) (accounted-append top first.effects second.effects a) ∙ h level e

item_limits : (s : SessionState) (side : Side) (item : FrameEvent) (v : Verdict) → is_over s.phase ≡ false →
    (item_outcome s side item v).state.limits ≡ s.limits
item_limits s side item v live =
    let same : (items_outcome s side (item ∷ []) v).state ≡ (item_outcome s side item v).state = rw live refl in
    ap (λ (t : SessionState). t.limits) (sym same) ∙ items_limits s side (item ∷ []) v

items_level : (s : SessionState) (side : Side) (items : List FrameEvent) (v : Verdict) (a : Account) →
    HasLevel s.phase a → Leaves s.limits.top_level a (items_outcome s side items v)
items_level s side [] v a h = h
items_level s side (item ∷ items) v a h =
    go (is_over s.phase) refl
    (λ same. subst (λ (l : Limits). Leaves l.top_level (accounted s.limits.top_level first.effects a)
    (items_outcome first.state side items v)) same
    (items_level first.state side items v (accounted s.limits.top_level first.effects a) (item_level s side item v a h)))
  where
    first : Successor
    first = item_outcome s side item v

    go : (b : Bool) → is_over s.phase ≡ b →
        (first.state.limits ≡ s.limits →
        Leaves s.limits.top_level (accounted s.limits.top_level first.effects a) (items_outcome first.state side items v)) →
        Leaves s.limits.top_level a (items_outcome s side (item ∷ items) v)
    go true o later = rw o h
    go false o later = rw o (then_level s.limits.top_level a first (items_outcome first.state side items v)
        (later (item_limits s side item v o)))

timer_level : (phase : SessionPhase) (s : SessionState) (a : Account) → s.phase ≡ phase → HasLevel s.phase a →
    Leaves s.limits.top_level a (im_timer_expired phase s)
timer_level WaitIm s a e h = λ level k. absurd cc
timer_level WaitRm s a e h = h
timer_level (Open level) s a e h = h
timer_level (Over ending) s a e h = h

over_or : (s : SessionState) (a : Account) (o : Successor) → HasLevel s.phase a → Leaves s.limits.top_level a o →
    (b : Bool) → Leaves s.limits.top_level a (cond b (record { state = s; effects = [] }) o)
over_or s a o h k true = h
over_or s a o h k false = k

event_level : (s : SessionState) (event : Event) (v : Verdict) (a : Account) → HasLevel s.phase a →
    Leaves s.limits.top_level a (event_outcome s event v)
event_level s (Comes Bot x) v a h =
    over_or s a _ h (items_level (with_pending s Bot ((coming s Bot).pending ++ x ∷ [])) Bot _ v a h) (is_over s.phase)
event_level s (Comes Server x) v a h =
    over_or s a _ h (items_level (with_pending s Server ((coming s Server).pending ++ x ∷ [])) Server _ v a h) (is_over s.phase)
event_level s (Ends side) v a h = over_or s a _ h (λ level e. absurd cc) (is_over s.phase)
event_level s (Loses side) v a h = over_or s a _ h (λ level e. absurd cc) (is_over s.phase)
event_level s ImTimerExpired v a h = timer_level s.phase s a refl h
event_level s OperatorStops v a h = over_or s a _ h (λ level e. absurd cc) (is_over s.phase)

-- ---- a run

runs_level : (old : SessionState) (events : List Event) (effects : List Effect) (new : SessionState) (a : Account) →
    Runs old events effects new → HasLevel old.phase a →
    HasLevel new.phase (accounted old.limits.top_level effects a)
runs_level old [] effects new a run h = rw (run.0, run.1) h
runs_level old (event ∷ events) effects new a run h =
    let made : Leaves old.limits.top_level a (record { state = run.0; effects = run.1 }) =
    subst (Leaves old.limits.top_level a) run.3.outcome (event_level old event run.3.verdict a h) in
    let same : run.0.limits ≡ old.limits =
    ap (λ (o : Successor). o.state.limits) (sym run.3.outcome) ∙ event_limits old event run.3.verdict in
    let rest : Leaves old.limits.top_level (accounted old.limits.top_level run.1 a) (record { state = new; effects = run.2 }) =
    subst (λ (l : Limits). Leaves l.top_level (accounted old.limits.top_level run.1 a) (record { state = new; effects = run.2 })) same
    (runs_level run.0 events run.2 new (accounted old.limits.top_level run.1 a) run.4 made) in
    subst (λ (e : List Effect). HasLevel new.phase (accounted old.limits.top_level e a)) (sym run.5)
    (then_level old.limits.top_level a (record { state = run.0; effects = run.1 }) (record { state = new; effects = run.2 }) rest)

pub level_is_kept : (limits : Limits) (events : List Event) (effects : List Effect) (new : SessionState) (level : Level) →
    Runs (initial_state limits) events effects new → new.phase ≡ Open level →
    (accounted limits.top_level effects nothing_accounted).level ≡ level
level_is_kept limits events effects new level run =
    runs_level (initial_state limits) events effects new nothing_accounted run (λ l e. absurd cc) level
