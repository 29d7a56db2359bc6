-- No event changes a session's limits.
use Rattle.daide_protocol.proofs.Common.{◌≡◌, ℕ, Bool, true, false, List, [], ◌∷◌, ◌++◌, refl, sym, ap, ◌∙◌, last_items}
use Rattle.daide_protocol.proofs.Common.{Verdict, SessionPhase, WaitIm, WaitRm, Open, Over, Event, Comes, Ends, Loses}
use Rattle.daide_protocol.proofs.Common.{ImTimerExpired, OperatorStops, SessionState, Effect, Successor, Runs}
use Rattle.daide_protocol.proofs.Common.{event_outcome, with_pending, coming, is_over, im_timer_expired}
use Rattle.daide_protocol.proofs.FramesHeard.{items_limits}
use Rattle.daide_protocol.proofs.PieceRuns.{limits_are}

im_timer_expired_limits : (phase : SessionPhase) (s : SessionState) → (im_timer_expired phase s).state.limits ≡ s.limits
im_timer_expired_limits WaitIm s = refl
im_timer_expired_limits WaitRm s = refl
im_timer_expired_limits (Open level) s = refl
im_timer_expired_limits (Over ending) s = refl

pub event_limits : (s : SessionState) (event : Event) (v : Verdict) → (event_outcome s event v).state.limits ≡ s.limits
event_limits s (Comes side x) v = go (is_over s.phase) refl
  where
    bytes : List ℕ
    bytes = (coming s side).pending ++ x ∷ []

    go : (b : Bool) → is_over s.phase ≡ b → (event_outcome s (Comes side x) v).state.limits ≡ s.limits
    go true e = rw e refl
    go false e =
        rw e (items_limits (with_pending s side bytes) side (last_items s.limits.cap bytes) v
        ∙ limits_are s side bytes)
event_limits s (Ends side) v = go (is_over s.phase) refl
  where
    go : (b : Bool) → is_over s.phase ≡ b → (event_outcome s (Ends side) v).state.limits ≡ s.limits
    go true e = rw e refl
    go false e = rw e refl
event_limits s (Loses side) v = go (is_over s.phase) refl
  where
    go : (b : Bool) → is_over s.phase ≡ b → (event_outcome s (Loses side) v).state.limits ≡ s.limits
    go true e = rw e refl
    go false e = rw e refl
event_limits s ImTimerExpired v = im_timer_expired_limits s.phase s
event_limits s OperatorStops v = go (is_over s.phase) refl
  where
    go : (b : Bool) → is_over s.phase ≡ b → (event_outcome s OperatorStops v).state.limits ≡ s.limits
    go true e = rw e refl
    go false e = rw e refl

-- a run does not change its limits
pub runs_limits : (events : List Event) (old new : SessionState) (effects : List Effect) → Runs old events effects new →
    new.limits ≡ old.limits
runs_limits [] old new effects run = ap (λ (s : SessionState). s.limits) run.1
runs_limits (event ∷ events) old new effects run =
    runs_limits events run.0 new run.2 run.4
    ∙ (ap (λ (o : Successor). o.state.limits) (sym run.3.outcome) ∙ event_limits old event run.3.verdict)
