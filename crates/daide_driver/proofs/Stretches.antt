-- Traces of port calls, one after another.
use Rattle.std.proofs.Common.{◌≡◌, ℕ, Bool, true, false, List, [], ◌∷◌, ◌++◌, refl, sym, ap}
use Rattle.std.proofs.Common.{◌∙◌, subst, append_assoc, append-nil}
use Rattle.std.specs.Prelude.{◌||◌}
use Rattle.daide_protocol.specs.Events.{Event}
use Rattle.daide_protocol.specs.Machine.{SessionState, Effect, Runs, is_over}
use Rattle.daide_protocol.specs.Wires.{SessionView, queued, sent_to, sent_bytes}
use Rattle.daide_protocol.proofs.OneRun.{one_run, runs_join}
use Rattle.daide_protocol.proofs.PieceRuns.{over_stays}
use Rattle.daide_protocol.proofs.AccountLemmas.{accounted_then}
use Rattle.daide_protocol.proofs.LimitsKept.{runs_limits}
use Rattle.daide_protocol.proofs.WireLemmas.{sent_to-append, sent_bytes-append}
use Rattle.daide_io.specs.Ports.{PortCall, events_of, has_failed}
use Rattle.daide_io.proofs.TraceLemmas.{events_of-append, taken-append, has_failed-append, transition_then}
use Rattle.daide_driver.specs.Record.{Moved, DeliversOutput}
use Rattle.daide_driver.specs.Totals.{RefinesRun}
use Rattle.daide_driver.specs.Record.{EvolveTogether}
use Rattle.daide_driver.specs.Turn.{Then}
use Rattle.daide_session.proofs.WorkLemmas.{paid_same}
use Rattle.daide_driver.proofs.AnswerWork.{works_then}

-- ---- one wire

joined : (w a t m b u r : List ℕ) → w ++ a ≡ t ++ m → m ++ b ≡ u ++ r → w ++ (a ++ b) ≡ (t ++ u) ++ r
joined w a t m b u r h k =
    sym (append_assoc w a b) ∙ ap (λ (x : List ℕ). x ++ b) h
    ∙ append_assoc t m b ∙ ap (λ (x : List ℕ). t ++ x) k ∙ sym (append_assoc t u r)

empty_parts : (xs ys : List ℕ) → ◌≡◌ {A = List ℕ} [] (xs ++ ys) → (xs ≡ []) × (ys ≡ [])
empty_parts [] ys e = (refl, sym e)
empty_parts (x ∷ xs) ys e = absurd (cc)

-- if nothing is queued and there is no further output, nothing more is accepted
stopped : (w a t m r b u s : List ℕ) → w ++ a ≡ t ++ r → m ≡ [] → b ≡ [] → m ++ b ≡ u ++ s →
    (s ≡ []) × (w ++ (a ++ b) ≡ (t ++ u) ++ r)
stopped w a t m r b u s h em eb k =
    let none : ◌≡◌ {A = List ℕ} [] (u ++ s) = sym (ap (λ (x : List ℕ). x ++ b) em ∙ eb) ∙ k in
    let parts = empty_parts u s none in
    (parts.1, rw (eb, parts.0) (rw (append-nil a, append-nil t) h))

moved_append : (f g o p : Bool) (w a t m b u r : List ℕ) → Moved f o w a t m → Moved g p m b u r →
    (o ≡ true → (b ≡ []) × (p ≡ true)) → Moved (f || g) p w (a ++ b) (t ++ u) r
moved_append false false o p w a t m b u r h k e = joined w a t m b u r h k
moved_append false true o p w a t m b u r h k e = (k.0, k.1, (k.2.0, joined w a t m b u k.2.0 h k.2.1))
moved_append true false o p w a t m b u r h k e =
    let quiet = e h.0 in
    let s = stopped w a t m h.2.0 b u r h.2.1 h.1 quiet.0 k in
    (quiet.1, s.0, (h.2.0, s.1))
moved_append true true o p w a t m b u r h k e =
    let quiet = e h.0 in
    let s = stopped w a t m h.2.0 b u k.2.0 h.2.1 h.1 quiet.0 k.2.1 in
    (k.0, k.1, (h.2.0, s.1))

-- ---- traces by which a session relays

-- a session that is over sends nothing
over_runs : (a b : SessionState) (es : List Event) (effects : List Effect) → is_over a.phase ≡ true →
    Runs a es effects b → (effects ≡ []) × (b ≡ a)
over_runs a b es effects over run = one_run es a effects [] b a run (over_stays a es over)

pub delivers_append : (a : SessionView) (xs : List PortCall) (b : SessionView) (ys : List PortCall) (c : SessionView) →
    DeliversOutput a xs b → DeliversOutput b ys c → DeliversOutput a (xs ++ ys) c
delivers_append a xs b ys c h k = record {
  effects = h.effects ++ k.effects;
  run = subst (λ (es : List Event). Runs a.state es (h.effects ++ k.effects) c.state) (sym (events_of-append xs ys))
      (runs_join (events_of xs) (events_of ys) a.state b.state c.state h.effects k.effects h.run k.run);
  wires = λ side.
      let quiet : is_over b.state.phase ≡ true →
      (sent_bytes (sent_to side k.effects) ≡ []) × (is_over c.state.phase ≡ true) =
      λ o. (let z = over_runs b.state c.state (events_of ys) k.effects o k.run in
      (ap (λ (x : List Effect). sent_bytes (sent_to side x)) z.0, ap (λ (s : SessionState). is_over s.phase) z.1 ∙ o)) in
      rw (
        has_failed-append side xs ys,
        taken-append side xs ys,
        sent_to-append side h.effects k.effects,
        sent_bytes-append (sent_to side h.effects) (sent_to side k.effects),
      )
      (moved_append (has_failed side xs) (has_failed side ys) (is_over b.state.phase) (is_over c.state.phase)
      _ _ _ _ _ _ _ (h.wires side) (k.wires side) quiet);
}

pub relays_append : (a : SessionView) (xs : List PortCall) (b : SessionView) (ys : List PortCall) (c : SessionView) →
    RefinesRun a xs b → RefinesRun b ys c → RefinesRun a (xs ++ ys) c
unfolding delivers_append
relays_append a xs b ys c h k = record {
  sends = delivers_append a xs b ys c h.sends k.sends;
  counts = accounted_then h.sends.effects k.sends.effects a b c
      (runs_limits (events_of xs) a.state b.state h.sends.effects h.sends.run) h.counts k.counts;
  work = works_then a xs b ys c (events_of-append xs ys) h.work k.work;
}

pub relays_nil : (a : SessionView) → RefinesRun a [] a
relays_nil a = record {
  sends = record { effects = []; run = (refl, refl); wires = λ side. append-nil (sent_bytes (queued a side)) };
  counts = refl;
  work = λ side. paid_same side a a refl refl;
}

-- ---- calls in a row

module _ {P : Type 0} (transition : P → PortCall → P → Type 0) where
  pub carries_then : (K L : SessionView → List PortCall → SessionView → Type 0) (a b c : SessionView × P) →
      EvolveTogether transition K a b → EvolveTogether transition L b c → EvolveTogether transition (Then K L) a c
  carries_then K L a b c h k = record {
    call = h.call ++ k.call;
    session = (b.0, h.call, k.call, refl, h.session, k.session);
    ports = transition_then transition h.call k.call a.1 b.1 c.1 h.ports k.ports;
  }

  pub carries_weaker : (K L : SessionView → List PortCall → SessionView → Type 0) (a b : SessionView × P) →
      ((xs : List PortCall) → K a.0 xs b.0 → L a.0 xs b.0) → EvolveTogether transition K a b → EvolveTogether transition L a b
  carries_weaker K L a b f h = record { call = h.call; session = f h.call h.session; ports = h.ports }

  -- no port call was made
  pub carries_nothing : (K : SessionView → List PortCall → SessionView → Type 0) (a b : SessionView) (p : P) →
      K a [] b → EvolveTogether transition K (a, p) (b, p)
  carries_nothing K a b p h = record { call = []; session = h; ports = refl }

  -- one port call was made
  pub carries_one : (K : SessionView → List PortCall → SessionView → Type 0) (a b : SessionView) (p q : P) (answer : PortCall) →
      transition p answer q → K a (answer ∷ []) b → EvolveTogether transition K (a, p) (b, q)
  carries_one K a b p q answer given h = record { call = answer ∷ []; session = h; ports = (q, given, refl) }
