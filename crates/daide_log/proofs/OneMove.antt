-- The bytes for which a session has room cause at most one move.
use Rattle.daide_log.proofs.Common.{◌≡◌, ℕ, ◌+◌, ◌-◌, ◌<◌, ◌≤◌, Bool, true, false, cond, eqb, List, [], ◌∷◌, ◌++◌}
use Rattle.daide_log.proofs.Common.{length, Option, Some, None, Result, Ok, Err, refl, sym, ap, ◌∙◌, subst, arith, ◌⊎◌}
use Rattle.daide_log.proofs.Common.{inl, inr, length-append, append-nil, ◌&&◌, eqb_tells, Side, Bot, Server, Head, Code}
use Rattle.daide_log.proofs.Common.{InvalidToken, parse_head, im_of, Verdict, Stopped, SessionPhase, WaitIm, WaitRm}
use Rattle.daide_log.proofs.Common.{Open, Over, Event, ImTimerExpired, OperatorStops, bytes_come, SessionState, Effect}
use Rattle.daide_log.proofs.Common.{Successor, Runs, coming, with_pending, with_noted, items_outcome, is_over, untimely}
use Rattle.daide_log.proofs.Common.{frame_outcome, answered, header_outcome, im_answered, im_timer_expired, level_in}
use Rattle.daide_log.proofs.Common.{event_outcome, fm_to, note_of, over_stays, one_run, IsOneEffect}
use Rattle.daide_frame.specs.Head.{is_im}
use Rattle.daide_frame.specs.Frames.{FrameEvent, Begun, Whole, Wrong, last_items, missing, missing_of_body, head_part, alien_in}
use Rattle.daide_frame.proofs.AlienLemmas.{ends_alien}
use Rattle.daide_frame.proofs.FramesLemmas.{at_head, at_body, last_items-short, last_items-head4, last_items-body4}
use Rattle.daide_frame.proofs.FramesLemmas.{missing-short, missing-of4, wanted}
use Rattle.daide_frame.proofs.ListLemmas.{eqb_same}
use Rattle.daide_frame.proofs.FeedingLemmas.{is_dm, alien_in-push}
use Rattle.daide_frame.proofs.OneByte.{byte_tells, ByteTells}

-- ---- the items that end with a byte

pub data Ending (limit : ℕ) (b : List ℕ) : List FrameEvent → Type 0 where
  quiet : Ending limit b []
  refused : (code : Code) → Ending limit b (Wrong code ∷ [])
  headed : (head : Head) → missing limit b ≡ 1 → Ending limit b (Begun head ∷ [])
  empty : (head : Head) → missing limit b ≡ 1 → Ending limit b (Begun head ∷ Whole head [] ∷ [])
  full : (head : Head) (body : List ℕ) → missing limit b ≡ 1 → Ending limit b (Whole head body ∷ [])

abbrev pub EndingAt : ℕ → List ℕ → ℕ → Type 0
EndingAt limit b x = Ending limit b (last_items limit (b ++ x ∷ []))

short : (limit : ℕ) (b : List ℕ) (x : ℕ) → length b < 3 → EndingAt limit b x
short limit b x h =
    subst (Ending limit b) (sym (last_items-short limit (b ++ x ∷ []) (omega (arith, length-append b (x ∷ []))))) quiet

fourth : (limit p q r x : ℕ) → EndingAt limit (p ∷ q ∷ r ∷ []) x
fourth limit p q r x =
    subst (Ending limit (p ∷ q ∷ r ∷ [])) (sym (last_items-head4 limit p q r x)) (go (parse_head (p ∷ q ∷ r ∷ x ∷ []) limit))
  where
    one : missing limit (p ∷ q ∷ r ∷ []) ≡ 1
    one = omega (arith, missing-short limit (p ∷ q ∷ r ∷ []) (omega arith))

    by : (head : Head) (k : Bool) → Ending limit (p ∷ q ∷ r ∷ []) (Begun head ∷ cond k (Whole head [] ∷ []) [])
    by head true = empty head one
    by head false = headed head one

    go : (o : Result Head Code) → Ending limit (p ∷ q ∷ r ∷ []) (at_head o)
    go (Err code) = refused code
    go (Ok head) = by head (eqb head.len 0)

body_byte : (limit p q r s : ℕ) (w : List ℕ) (x : ℕ) (o : Result Head Code) → parse_head (p ∷ q ∷ r ∷ s ∷ []) limit ≡ o →
    0 < missing_of_body (head_part o) w → EndingAt limit (p ∷ q ∷ r ∷ s ∷ w) x
body_byte limit p q r s w x (Err code) e h = absurd (omega arith)
body_byte limit p q r s w x (Ok head) e h =
    subst (Ending limit b)
    (sym (last_items-body4 limit p q r s v head e (omega (arith, length-append w (x ∷ [])))))
    (by_end (is_dm head && ends_alien v) (alien_in head v) (alien_in-push head w x n.0 n.1))
  where
    b : List ℕ
    b = p ∷ q ∷ r ∷ s ∷ w

    v : List ℕ
    v = w ++ x ∷ []

    n : (alien_in head w ≡ None) × (length w < head.len)
    n = wanted head w h

    left : missing limit b ≡ head.len - length w
    left = missing-of4 limit p q r s w ∙ ap (λ (o : Result Head Code). missing_of_body (head_part o) w) e ∙ rw n.0 refl

    by_length : ((eqb head.len (length v) ≡ true) × (head.len ≡ length v))
        ⊎ ((eqb head.len (length v) ≡ false) × (head.len ≡ length v → ⊥)) →
        Ending limit b (at_body head v None)
    by_length (inl t) = rw t.0 (full head v (omega (arith, left, length-append w (x ∷ []), t.1)))
    by_length (inr t) = rw t.0 quiet

    by_end : (k : Bool) (o : Option ℕ) → o ≡ cond {A = Option ℕ} k (Some (length v)) None → Ending limit b (at_body head v o)
    by_end true o q = rw q (rw (eqb_same (length v)) (refused InvalidToken))
    by_end false o q = rw q (by_length (eqb_tells head.len (length v)))

pub ending_at : (limit : ℕ) (b : List ℕ) (x : ℕ) → 0 < missing limit b → EndingAt limit b x
ending_at limit [] x h = short limit [] x (omega arith)
ending_at limit (p ∷ []) x h = short limit (p ∷ []) x (omega arith)
ending_at limit (p ∷ q ∷ []) x h = short limit (p ∷ q ∷ []) x (omega arith)
ending_at limit (p ∷ q ∷ r ∷ []) x h = fourth limit p q r x
ending_at limit (p ∷ q ∷ r ∷ s ∷ w) x h =
    body_byte limit p q r s w x (parse_head (p ∷ q ∷ r ∷ s ∷ []) limit) refl
    (subst (λ (n : ℕ). 0 < n) (missing-of4 limit p q r s w) h)

-- a byte that ends nothing reduces the number of missing bytes by one
pub less_missing : (limit : ℕ) (b : List ℕ) (x : ℕ) → 0 < missing limit b → last_items limit (b ++ x ∷ []) ≡ [] →
    missing limit (b ++ x ∷ []) + 1 ≡ missing limit b
less_missing limit b x h e = go (byte_tells limit b x h)
  where
    go : ByteTells limit b x → missing limit (b ++ x ∷ []) + 1 ≡ missing limit b
    go (inl on) = on.less e
    go (inr (inl over)) = absurd (over.loud e)
    go (inr (inr over)) = absurd (over.loud e)

-- ---- the moves of items

-- at most one move, which is not `Nothing`
abbrev pub IsSingle : List Effect → Type 0
IsSingle moves = IsOneEffect moves (note_of moves)

answered_single : (s : SessionState) (side : Side) (head : Head) (body : List ℕ) (v : Verdict) →
    IsSingle (answered s side head body v).effects
answered_single s side head body v = (refl, λ e. absurd (cc))

whole_single : (s : SessionState) (side : Side) (head : Head) (body : List ℕ) (v : Verdict) →
    IsSingle (frame_outcome s side head body v).effects
whole_single s side head body v = by_kind (is_im head.kind)
  where
    by_check : (r : Result (Unit {0}) Code) → IsSingle (im_answered (answered s side head body v) s side r).effects
    by_check (Ok good) = answered_single s side head body v
    by_check (Err code) = (refl, λ e. absurd (cc))

    by_kind : (k : Bool) →
        IsSingle (cond k (im_answered (answered s side head body v) s side (im_of body)) (answered s side head body v)).effects
    by_kind true = by_check (im_of body)
    by_kind false = answered_single s side head body v

-- the result of one item alone
alone : (o : Successor) → IsSingle o.effects → IsSingle (o.effects ++ [])
alone o h = subst IsSingle (sym (append-nil o.effects)) h

noted_live : (s : SessionState) (side : Side) → is_over s.phase ≡ false → is_over (with_noted s side (level_in s.phase)).phase ≡ false
noted_live s Bot e = e
noted_live s Server e = e

items_single : (limit : ℕ) (b : List ℕ) (items : List FrameEvent) → Ending limit b items → (s : SessionState) (side : Side)
    (v : Verdict) → is_over s.phase ≡ false → IsSingle (items_outcome s side items v).effects
items_single limit b _ quiet s side v live = refl
items_single limit b _ (refused code) s side v live = rw live (refl, λ e. absurd (cc))
items_single limit b _ (headed head one) s side v live = rw live (go (untimely s.phase side head.kind))
  where
    go : (o : Option Code) → IsSingle ((header_outcome s side o).effects ++ (items_outcome (header_outcome s side o).state side [] v).effects)
    go None = refl
    go (Some code) = (refl, λ e. absurd (cc))
items_single limit b _ (empty head one) s side v live = rw live (go (untimely s.phase side head.kind))
  where
    go : (o : Option Code) → IsSingle ((header_outcome s side o).effects
        ++ (items_outcome (header_outcome s side o).state side (Whole head [] ∷ []) v).effects)
    go None = rw (noted_live s side live)
        (alone (frame_outcome (with_noted s side (level_in s.phase)) side head [] v) (whole_single (with_noted s side (level_in s.phase)) side head [] v))
    go (Some code) = (refl, λ e. absurd (cc))
items_single limit b _ (full head body one) s side v live =
    rw live (alone (frame_outcome s side head body v) (whole_single s side head body v))

-- ---- the moves of bytes

pub over_moves : (s : SessionState) (events : List Event) (moves : List Effect) (new : SessionState) → is_over s.phase ≡ true →
    Runs s events moves new → moves ≡ []
over_moves s events moves new o run = (one_run events s moves [] new s run (over_stays s events o)).0

pub pending_phase : (s : SessionState) (side : Side) (bytes : List ℕ) → (with_pending s side bytes).phase ≡ s.phase
pending_phase s Bot bytes = refl
pending_phase s Server bytes = refl

pub pending_missing : (s : SessionState) (side : Side) (bytes : List ℕ) →
    missing (with_pending s side bytes).limits.cap (coming (with_pending s side bytes) side).pending
    ≡ missing s.limits.cap bytes
pending_missing s Bot bytes = refl
pending_missing s Server bytes = refl

pub no_more : (s : SessionState) (side : Side) (piece : List ℕ) (moves : List Effect) (new : SessionState) → length piece ≡ 0 →
    Runs s (bytes_come side piece) moves new → moves ≡ []
no_more s side [] moves new e run = run.0
no_more s side (x ∷ piece) moves new e run = absurd (omega arith)

pub one_move_a_piece : (piece : List ℕ) (s : SessionState) (side : Side) (moves : List Effect) (new : SessionState) →
    length piece ≤ missing s.limits.cap (coming s side).pending → Runs s (bytes_come side piece) moves new → IsSingle moves
one_move_a_piece [] s side moves new room run = subst IsSingle (sym run.0) refl
one_move_a_piece (x ∷ piece) s side moves new room run =
    by_phase (is_over s.phase) refl (λ s' moves' new' room' run'. one_move_a_piece piece s' side moves' new' room' run')
  where
    b : List ℕ
    b = (coming s side).pending

    cap : ℕ
    cap = s.limits.cap

    next : SessionState
    next = with_pending s side (b ++ x ∷ [])

    Later : Type 0
    Later = (s' : SessionState) (moves' : List Effect) (new' : SessionState) →
        length piece ≤ missing s'.limits.cap (coming s' side).pending → Runs s' (bytes_come side piece) moves' new' →
        IsSingle moves'

    -- the result of the byte
    made : is_over s.phase ≡ false →
        items_outcome next side (last_items cap (b ++ x ∷ [])) run.3.verdict ≡ record { state = run.0; effects = run.1 }
    made live = (let h = rw live at run.3.outcome in h)

    -- nothing follows it
    last_one : is_over s.phase ≡ false → run.2 ≡ [] → Ending cap b (last_items cap (b ++ x ∷ [])) → IsSingle moves
    last_one live none ending =
        subst IsSingle (sym (run.5 ∙ ap (λ (m : List Effect). run.1 ++ m) none ∙ append-nil run.1))
        (subst IsSingle (ap (λ (o : Successor). o.effects) (made live))
        (items_single cap b _ ending next side run.3.verdict (ap is_over (pending_phase s side (b ++ x ∷ [])) ∙ live)))

    by_ending : (items : List FrameEvent) → last_items cap (b ++ x ∷ []) ≡ items → Ending cap b items → is_over s.phase ≡ false →
        Later → IsSingle moves
    by_ending _ e quiet live later =
        let done : Successor = record { state = run.0; effects = run.1 } in
        let same : ◌≡◌ {A = Successor} (record { state = next; effects = [] }) done = sym (rw e refl) ∙ made live in
        let less = less_missing cap b x (omega arith) e in
        let rest = later run.0 run.2 new
        (subst (λ (m : SessionState). length piece ≤ missing m.limits.cap (coming m side).pending)
        (ap (λ (o : Successor). o.state) same)
        (omega (arith, less, pending_missing s side (b ++ x ∷ []), room)))
        run.4 in
        subst IsSingle (sym (run.5 ∙ ap (λ (m : List Effect). m ++ run.2) (sym (ap (λ (o : Successor). o.effects) same)))) rest
    by_ending _ e (refused code) live later =
        let over : is_over run.0.phase ≡ true = sym (ap (λ (o : Successor). is_over o.state.phase) (made live)) ∙ rw e (rw (ap is_over (pending_phase s side (b ++ x ∷ [])) ∙ live) refl) in
        last_one live (over_moves run.0 (bytes_come side piece) run.2 new over run.4) (subst (Ending cap b) (sym e) (refused code))
    by_ending _ e (headed head one) live later =
        last_one live (no_more run.0 side piece run.2 new (omega (arith, one, room)) run.4) (subst (Ending cap b) (sym e) (headed head one))
    by_ending _ e (empty head one) live later =
        last_one live (no_more run.0 side piece run.2 new (omega (arith, one, room)) run.4) (subst (Ending cap b) (sym e) (empty head one))
    by_ending _ e (full head body one) live later =
        last_one live (no_more run.0 side piece run.2 new (omega (arith, one, room)) run.4) (subst (Ending cap b) (sym e) (full head body one))

    by_phase : (o : Bool) → is_over s.phase ≡ o → Later → IsSingle moves
    by_phase true over later =
        subst IsSingle (sym (over_moves s (bytes_come side (x ∷ piece)) moves new over run)) refl
    by_phase false live later =
        by_ending (last_items cap (b ++ x ∷ [])) refl (ending_at cap b x (omega arith)) live later

-- ---- the moves of the timer

pub one_move_a_timer : (s : SessionState) (moves : List Effect) (new : SessionState) → Runs s (ImTimerExpired ∷ []) moves new →
    IsSingle moves
one_move_a_timer s moves new run =
    subst IsSingle (sym (run.5 ∙ ap (λ (m : List Effect). run.1 ++ m) run.4.0 ∙ append-nil run.1))
    (subst IsSingle (ap (λ (o : Successor). o.effects) run.3.outcome) (by_phase s.phase))
  where
    by_phase : (p : SessionPhase) → IsSingle (im_timer_expired p s).effects
    by_phase WaitIm = (refl, λ e. absurd (cc))
    by_phase WaitRm = refl
    by_phase (Open level) = refl
    by_phase (Over ending) = refl

-- ---- the moves of a stop

-- there is none, or the one of a stop
pub one_move_a_stop : (s : SessionState) (moves : List Effect) (new : SessionState) → Runs s (OperatorStops ∷ []) moves new →
    (moves ≡ []) ⊎ ((move : Effect) × (moves ≡ move ∷ []) × (move.reported ≡ Stopped))
one_move_a_stop s moves new run = by_phase (is_over s.phase) refl
  where
    made : moves ≡ (event_outcome s OperatorStops run.3.verdict).effects
    made = run.5 ∙ ap (λ (m : List Effect). run.1 ++ m) run.4.0 ∙ append-nil run.1
        ∙ sym (ap (λ (o : Successor). o.effects) run.3.outcome)

    by_phase : (over : Bool) → is_over s.phase ≡ over →
        (moves ≡ []) ⊎ ((move : Effect) × (moves ≡ move ∷ []) × (move.reported ≡ Stopped))
    by_phase true over = inl (made ∙ rw over refl)
    by_phase false over =
        let move : Effect = record { reported = Stopped; sent = fm_to s.phase Bot ++ fm_to s.phase Server } in
        inr (move, made ∙ rw over refl, refl)
