-- A run that leaves a session open sends replies to frames, and no final frame.
use Rattle.daide_session.proofs.Common.{◌≡◌, ℕ, Bool, true, false, cond, List, [], ◌∷◌, ◌++◌, Option, Some, None}
use Rattle.daide_session.proofs.Common.{Result, Ok, Err, refl, sym, ap, ◌∙◌, subst, ◌||◌, Side, Code, Head, is_im}
use Rattle.daide_session.proofs.Common.{im_of, FrameEvent, Begun, Whole, Wrong, last_items, Verdict, SessionPhase}
use Rattle.daide_session.proofs.Common.{WaitIm, WaitRm, Open, Over, Event, Comes, Ends, Loses, ImTimerExpired}
use Rattle.daide_session.proofs.Common.{OperatorStops, Sent, Effect, Successor, SessionState, Transition, Runs, coming}
use Rattle.daide_session.proofs.Common.{with_pending, is_over, header_outcome, answered, im_answered, is_sent, reply_to}
use Rattle.daide_session.proofs.Common.{event_outcome, same_side, sent_to, not_both, has_final_frame}
use Rattle.daide_protocol.specs.Machine.{untimely, destination, item_outcome, items_outcome, im_timer_expired}
use Rattle.daide_protocol.proofs.WireLemmas.{sent_to-append}
use Rattle.daide_protocol.proofs.FramesHeard.{over_for_good, ended, lost, stopped}
use Rattle.daide_channels.specs.Channels.{is_final_frame}

-- the moves send no final frame to either wire
abbrev pub NoEnd : List Effect → Type 0
NoEnd effects = (wire : Side) → has_final_frame (sent_to wire effects) ≡ false

pub has_final_frame-append : (a b : List Sent) → has_final_frame a ≡ false → has_final_frame b ≡ false → has_final_frame (a ++ b) ≡ false
has_final_frame-append [] b e f = f
has_final_frame-append (x ∷ a) b e f = both (is_final_frame x.answers) (has_final_frame a) e (λ q. has_final_frame-append a b q f)
  where
    both : (c d : Bool) → (c || d) ≡ false → (d ≡ false → has_final_frame (a ++ b) ≡ false) → (c || has_final_frame (a ++ b)) ≡ false
    both true d p later = absurd (cc)
    both false d p later = later p

-- ---- one frame event

begun_sends : (s : SessionState) (side : Side) (code : Option Code) → is_over (header_outcome s side code).state.phase ≡ false →
    NoEnd (header_outcome s side code).effects
begun_sends s side None o wire = refl
begun_sends s side (Some code) o wire = absurd (cc)

answered_sends : (s : SessionState) (side : Side) (head : Head) (body : List ℕ) (v : Verdict) →
    NoEnd (answered s side head body v).effects
answered_sends s side head body v wire = go (is_sent s.phase head.kind to) refl
  where
    to : Side
    to = destination side v

    go : (b : Bool) → is_sent s.phase head.kind to ≡ b →
        has_final_frame (sent_to wire (answered s side head body v).effects) ≡ false
    go true e = rw e (for_wire (same_side to wire))
      where
        for_wire : (b : Bool) → has_final_frame (cond b (reply_to side head body v ∷ []) [] ++ []) ≡ false
        for_wire true = refl
        for_wire false = refl
    go false e = rw e refl

checked_sends : (s : SessionState) (side : Side) (head : Head) (body : List ℕ) (v : Verdict)
    (r : Result (Unit {0}) Code) →
    is_over (im_answered (answered s side head body v) s side r).state.phase ≡ false →
    NoEnd (im_answered (answered s side head body v) s side r).effects
checked_sends s side head body v (Ok u) o = answered_sends s side head body v
checked_sends s side head body v (Err code) o = absurd (cc)

whole_sends : (s : SessionState) (side : Side) (head : Head) (body : List ℕ) (v : Verdict) (im : Bool) →
    let o = cond im (im_answered (answered s side head body v) s side (im_of body)) (answered s side head body v) in
    is_over o.state.phase ≡ false → NoEnd o.effects
whole_sends s side head body v true o = checked_sends s side head body v (im_of body) o
whole_sends s side head body v false o = answered_sends s side head body v

item_sends : (s : SessionState) (side : Side) (item : FrameEvent) (v : Verdict) →
    is_over (item_outcome s side item v).state.phase ≡ false → NoEnd (item_outcome s side item v).effects
item_sends s side (Begun head) v o = begun_sends s side (untimely s.phase side head.kind) o
item_sends s side (Whole head body) v o = whole_sends s side head body v (is_im head.kind) o
item_sends s side (Wrong code) v o = absurd (cc)

-- ---- frame events

items_send : (s : SessionState) (side : Side) (items : List FrameEvent) (v : Verdict) →
    is_over (items_outcome s side items v).state.phase ≡ false → NoEnd (items_outcome s side items v).effects
items_send s side [] v o = λ wire. refl
items_send s side (item ∷ items) v o = go (is_over s.phase) refl (items_send first side items v)
  where
    first : SessionState
    first = (item_outcome s side item v).state

    last : Successor
    last = items_outcome first side items v

    same : is_over s.phase ≡ false → items_outcome s side (item ∷ items) v
        ≡ record { state = last.state; effects = (item_outcome s side item v).effects ++ last.effects }
    same e = rw e refl

    stays : (items : List FrameEvent) → is_over first.phase ≡ true → (items_outcome first side items v).state ≡ first
    stays [] e = refl
    stays (item ∷ items) e = rw e refl

    go : (b : Bool) → is_over s.phase ≡ b → (is_over last.state.phase ≡ false → NoEnd last.effects) →
        NoEnd (items_outcome s side (item ∷ items) v).effects
    go true e later wire = rw e refl
    go false e later wire =
        let live : is_over last.state.phase ≡ false =
        ap (λ (x : Successor). is_over x.state.phase) (sym (same e)) ∙ o in
        let open_first : is_over first.phase ≡ false = not_over (is_over first.phase) refl live in
        rw (same e, sent_to-append wire (item_outcome s side item v).effects last.effects)
        (has_final_frame-append (sent_to wire (item_outcome s side item v).effects) (sent_to wire last.effects)
        (item_sends s side item v open_first wire) (later live wire))
      where
        not_over : (b : Bool) → is_over first.phase ≡ b → is_over last.state.phase ≡ false →
            is_over first.phase ≡ false
        not_over false f live = f
        not_over true f live = absurd (not_both (is_over last.state.phase)
            (ap (λ (t : SessionState). is_over t.phase) (stays items f) ∙ f) live)

-- ---- a run

step_sends : (s : SessionState) (e : Event) (effects : List Effect) (m : SessionState) → Transition s e effects m →
    is_over s.phase ≡ false → is_over m.phase ≡ false → NoEnd effects
step_sends s (Comes side x) effects m t o p =
    let bytes = (coming s side).pending ++ x ∷ [] in
    let made = items_outcome (with_pending s side bytes) side (last_items s.limits.cap bytes) t.verdict in
    let comes : event_outcome s (Comes side x) t.verdict ≡ made = rw o refl in
    let came : made ≡ record { state = m; effects = effects } = sym comes ∙ t.outcome in
    let live = ap (λ (q : Successor). is_over q.state.phase) came ∙ p in
    subst NoEnd (ap (λ (q : Successor). q.effects) came)
    (items_send (with_pending s side bytes) side (last_items s.limits.cap bytes) t.verdict live)
step_sends s (Ends side) effects m t o p = absurd (not_both (is_over m.phase) (ended s side effects m t o) p)
step_sends s (Loses side) effects m t o p = absurd (not_both (is_over m.phase) (lost s side effects m t o) p)
step_sends s ImTimerExpired effects m t o p =
    subst NoEnd (ap (λ (q : Successor). q.effects) t.outcome)
    (timer s.phase s (ap (λ (q : Successor). is_over q.state.phase) t.outcome ∙ p))
  where
    timer : (phase : SessionPhase) (s : SessionState) → is_over (im_timer_expired phase s).state.phase ≡ false →
        NoEnd (im_timer_expired phase s).effects
    timer WaitIm s q wire = absurd (cc)
    timer WaitRm s q wire = refl
    timer (Open level) s q wire = refl
    timer (Over ending) s q wire = refl
step_sends s OperatorStops effects m t o p = absurd (not_both (is_over m.phase) (stopped s effects m t o) p)

pub run_sends : (s : SessionState) (events : List Event) (effects : List Effect) (new : SessionState) →
    Runs s events effects new → is_over new.phase ≡ false → NoEnd effects
run_sends s [] effects new run p = subst NoEnd (sym run.0) (λ wire. refl)
run_sends s (e ∷ events) effects new run p = go (is_over s.phase) refl (is_over run.0.phase) refl
    (run_sends run.0 events run.2 new run.4 p)
  where
    go : (a : Bool) → is_over s.phase ≡ a → (b : Bool) → is_over run.0.phase ≡ b → NoEnd run.2 → NoEnd effects
    go true o b q later = absurd (not_both (is_over new.phase) (over_for_good s (e ∷ events) effects new run o) p)
    go false o true q later = absurd (not_both (is_over new.phase) (over_for_good run.0 events run.2 new run.4 q) p)
    go false o false q later = λ wire.
        rw (run.5, sent_to-append wire run.1 run.2)
        (has_final_frame-append (sent_to wire run.1) (sent_to wire run.2) (step_sends s e run.1 run.0 run.3 o q wire)
        (later wire))
