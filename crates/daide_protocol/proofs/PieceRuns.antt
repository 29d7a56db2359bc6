-- A piece is the run over its bytes: the outcome of the frame events in a piece is the machine's outcome of its bytes,
-- one by one.
use Rattle.daide_protocol.proofs.Common.{◌≡◌, ℕ, Bool, true, false, List, [], ◌∷◌, ◌++◌, length, Option, None, refl}
use Rattle.daide_protocol.proofs.Common.{sym, ap, ◌∙◌, subst, arith, append_assoc, append-nil, length-append, ◌⊎◌, inl}
use Rattle.daide_protocol.proofs.Common.{inr, ⊎_elim, Side, Bot, Server, FrameEvent, last_items, Verdict, Relay}
use Rattle.daide_protocol.proofs.Common.{SessionPhase, WaitIm, WaitRm, Open, Over, Event, Comes, Ends, Loses}
use Rattle.daide_protocol.proofs.Common.{ImTimerExpired, OperatorStops, bytes_come, Limits, SessionState, Successor}
use Rattle.daide_protocol.proofs.Common.{Question, Transition, Runs, coming, with_pending, items_outcome, asked_by}
use Rattle.daide_protocol.proofs.Common.{question, IsCorrectVerdict, event_outcome, nothing, is_over, im_timer_expired}
use Rattle.daide_frame.specs.Frames.{is_nothing, fed, fed_items}

-- ---- a session that is over

timer_over : (p : SessionPhase) (s : SessionState) → is_over p ≡ true → im_timer_expired p s ≡ nothing s
timer_over WaitIm s e = absurd (cc)
timer_over WaitRm s e = absurd (cc)
timer_over (Open level) s e = absurd (cc)
timer_over (Over ending) s e = refl

pub over_outcome : (s : SessionState) (e : Event) (v : Verdict) → is_over s.phase ≡ true →
    event_outcome s e v ≡ nothing s
over_outcome s (Comes side byte) v h = rw h refl
over_outcome s (Ends side) v h = rw h refl
over_outcome s (Loses side) v h = rw h refl
over_outcome s ImTimerExpired v h = timer_over s.phase s h
over_outcome s OperatorStops v h = rw h refl

over_asks : (s : SessionState) (e : Event) → is_over s.phase ≡ true → question s e ≡ None
over_asks s (Comes side byte) h = rw h refl
over_asks s (Ends side) h = refl
over_asks s (Loses side) h = refl
over_asks s ImTimerExpired h = refl
over_asks s OperatorStops h = refl

-- once over, a session is unchanged
pub over_stays : (s : SessionState) (es : List Event) → is_over s.phase ≡ true → Runs s es [] s
over_stays s [] h = (refl, refl)
over_stays s (e ∷ es) h =
    let right = subst (λ (q : Option Question). IsCorrectVerdict s.limits.words s.limits.max_depth q Relay)
    (sym (over_asks s e h)) refl in
    (s, [], [], record { verdict = Relay; right = right; outcome = over_outcome s e Relay h }, over_stays s es h, refl)

-- ---- the bytes from a side, replaced

pub phase_is : (s : SessionState) (side : Side) (a : List ℕ) → (with_pending s side a).phase ≡ s.phase
phase_is s Bot a = refl
phase_is s Server a = refl

pub limits_are : (s : SessionState) (side : Side) (a : List ℕ) → (with_pending s side a).limits ≡ s.limits
limits_are s Bot a = refl
limits_are s Server a = refl

same_pending : (s : SessionState) (side : Side) → with_pending s side (coming s side).pending ≡ s
same_pending s Bot = refl
same_pending s Server = refl

nothing_is : (items : List FrameEvent) → is_nothing items ≡ true → items ≡ []
nothing_is [] e = refl
nothing_is (item ∷ items) e = absurd (cc)

-- ---- a piece

-- the outcome of a piece
abbrev pub piece_outcome : SessionState → Side → List ℕ → Verdict → Successor
piece_outcome s side piece v =
    items_outcome (with_pending s side (fed s.limits.cap (coming s side).pending piece)) side
    (fed_items s.limits.cap (coming s side).pending piece) v

-- the message that is judged in it
abbrev pub piece_asks : SessionState → Side → List ℕ → Option Question
piece_asks s side piece = asked_by s side (fed_items s.limits.cap (coming s side).pending piece)

-- the whole piece was taken, or the session is over
abbrev pub IsTaken : SessionState → Side → List ℕ → Verdict → Type 0
IsTaken s side piece v =
    (fed s.limits.cap (coming s side).pending piece ≡ (coming s side).pending ++ piece)
    ⊎ (is_over (piece_outcome s side piece v).state.phase ≡ true)

-- the bytes with one more, and the frame events that end with it
abbrev with_byte : SessionState → Side → ℕ → List ℕ
with_byte s side x = (coming s side).pending ++ x ∷ []

abbrev items_at : SessionState → Side → ℕ → List FrameEvent
items_at s side x = last_items s.limits.cap (with_byte s side x)

-- a byte that ends no frame event

later_outcome : (s : SessionState) (side : Side) (x : ℕ) (piece : List ℕ) (v : Verdict) →
    is_nothing (items_at s side x) ≡ true →
    piece_outcome (with_pending s side (with_byte s side x)) side piece v ≡ piece_outcome s side (x ∷ piece) v
later_outcome s Bot x piece v n = rw n refl
later_outcome s Server x piece v n = rw n refl

later_asks : (s : SessionState) (side : Side) (x : ℕ) (piece : List ℕ) → is_nothing (items_at s side x) ≡ true →
    piece_asks (with_pending s side (with_byte s side x)) side piece ≡ piece_asks s side (x ∷ piece)
later_asks s Bot x piece n = rw n refl
later_asks s Server x piece n = rw n refl

later_fed : (s : SessionState) (side : Side) (x : ℕ) (piece : List ℕ) → is_nothing (items_at s side x) ≡ true →
    fed s.limits.cap (coming s side).pending (x ∷ piece) ≡ (coming s side).pending ++ x ∷ piece →
    fed (with_pending s side (with_byte s side x)).limits.cap
    (coming (with_pending s side (with_byte s side x)) side).pending piece
    ≡ (coming (with_pending s side (with_byte s side x)) side).pending ++ piece
later_fed s Bot x piece n e = (let h = rw n at e in h) ∙ sym (append_assoc s.sides.bot.pending (x ∷ []) piece)
later_fed s Server x piece n e = (let h = rw n at e in h) ∙ sym (append_assoc s.sides.server.pending (x ∷ []) piece)

quiet_step : (s : SessionState) (side : Side) (x : ℕ) → is_over s.phase ≡ false → items_at s side x ≡ [] →
    Transition s (Comes side x) [] (with_pending s side (with_byte s side x))
quiet_step s side x o n = record {
  verdict = Relay;
  right = rw (o, n) refl;
  outcome = rw (o, n) refl;
}

-- a byte that ends a frame event

loud_step : (s : SessionState) (side : Side) (x : ℕ) (v : Verdict) → is_over s.phase ≡ false →
    IsCorrectVerdict s.limits.words s.limits.max_depth (asked_by s side (items_at s side x)) v →
    let r = items_outcome (with_pending s side (with_byte s side x)) side (items_at s side x) v in
    Transition s (Comes side x) r.effects r.state
loud_step s side x v o r = record {
  verdict = v;
  right = rw o r;
  outcome = rw o refl;
}

loud_outcome : (s : SessionState) (side : Side) (x : ℕ) (piece : List ℕ) (v : Verdict) →
    is_nothing (items_at s side x) ≡ false →
    piece_outcome s side (x ∷ piece) v
    ≡ items_outcome (with_pending s side (with_byte s side x)) side (items_at s side x) v
loud_outcome s side x piece v e = rw e refl

loud_asks : (s : SessionState) (side : Side) (x : ℕ) (piece : List ℕ) → is_nothing (items_at s side x) ≡ false →
    piece_asks s side (x ∷ piece) ≡ asked_by s side (items_at s side x)
loud_asks s side x piece e = rw e refl

loud_fed : (s : SessionState) (side : Side) (x : ℕ) (piece : List ℕ) → is_nothing (items_at s side x) ≡ false →
    fed s.limits.cap (coming s side).pending (x ∷ piece) ≡ with_byte s side x
loud_fed s side x piece e = rw e refl

short : (b : List ℕ) (x : ℕ) (piece : List ℕ) → b ++ x ∷ [] ≡ b ++ x ∷ piece → length piece ≡ 0
short b x piece e = omega (arith, ap length e, length-append b (x ∷ []), length-append b (x ∷ piece))

rest_runs : (s : SessionState) (side : Side) (piece : List ℕ) → length piece ≡ 0 → Runs s (bytes_come side piece) [] s
rest_runs s side [] e = (refl, refl)
rest_runs s side (x ∷ piece) e = absurd (omega arith)

-- the run over the bytes of a piece
pub piece_runs : (piece : List ℕ) (s : SessionState) (side : Side) (v : Verdict) → is_over s.phase ≡ false →
    IsTaken s side piece v → IsCorrectVerdict s.limits.words s.limits.max_depth (piece_asks s side piece) v →
    Runs s (bytes_come side piece) (piece_outcome s side piece v).effects (piece_outcome s side piece v).state
piece_runs [] s side v o t r = (refl, same_pending s side)
piece_runs (x ∷ piece) s side v o t r =
    go (is_nothing (items_at s side x)) refl (λ s' v' o' t' r'. piece_runs piece s' side v' o' t' r')
  where
    next : SessionState
    next = with_pending s side (with_byte s side x)

    Later : Type 0
    Later = (s' : SessionState) (v' : Verdict) → is_over s'.phase ≡ false → IsTaken s' side piece v' →
        IsCorrectVerdict s'.limits.words s'.limits.max_depth (piece_asks s' side piece) v' →
        Runs s' (bytes_come side piece) (piece_outcome s' side piece v').effects (piece_outcome s' side piece v').state

    go : (n : Bool) → is_nothing (items_at s side x) ≡ n → Later →
        Runs s (bytes_come side (x ∷ piece)) (piece_outcome s side (x ∷ piece) v).effects
        (piece_outcome s side (x ∷ piece) v).state
    go true e later =
        let same = later_outcome s side x piece v e in
        let taken : IsTaken next side piece v = ⊎_elim
        (λ (h : fed s.limits.cap (coming s side).pending (x ∷ piece) ≡ (coming s side).pending ++ x ∷ piece). inl
        (later_fed s side x piece e h))
        (λ (h : is_over (piece_outcome s side (x ∷ piece) v).state.phase ≡ true). inr
        (ap (λ (q : Successor). is_over q.state.phase) same ∙ h))
        t in
        let asks = subst (λ (q : Option Question). IsCorrectVerdict s.limits.words s.limits.max_depth q v)
        (sym (later_asks s side x piece e)) r in
        let asks_there = subst (λ (l : Limits). IsCorrectVerdict l.words l.max_depth (piece_asks next side piece) v)
        (sym (limits_are s side (with_byte s side x))) asks in
        let more = later next v (ap is_over (phase_is s side (with_byte s side x)) ∙ o) taken asks_there in (
          next,
          [],
          (piece_outcome s side (x ∷ piece) v).effects,
          quiet_step s side x o (nothing_is _ e),
          subst (λ (q : Successor). Runs next (bytes_come side piece) q.effects q.state) same more,
          refl,
        )
    go false e later =
        let result = items_outcome next side (items_at s side x) v in
        let same : piece_outcome s side (x ∷ piece) v ≡ result = loud_outcome s side x piece v e in
        let asks = subst (λ (q : Option Question). IsCorrectVerdict s.limits.words s.limits.max_depth q v)
        (loud_asks s side x piece e) r in
        let rest : Runs result.state (bytes_come side piece) [] result.state = ⊎_elim
        (λ (h : fed s.limits.cap (coming s side).pending (x ∷ piece)
        ≡ (coming s side).pending ++ x ∷ piece). rest_runs result.state side piece
        (short (coming s side).pending x piece (sym (loud_fed s side x piece e) ∙ h)))
        (λ (h : is_over (piece_outcome s side (x ∷ piece) v).state.phase ≡ true). over_stays result.state
        (bytes_come side piece) (ap (λ (q : Successor). is_over q.state.phase) (sym same) ∙ h))
        t in
        subst (λ (q : Successor). Runs s (bytes_come side (x ∷ piece)) q.effects q.state) (sym same)
        (result.state, result.effects, [], loud_step s side x v o asks, rest, sym (append-nil result.effects))
