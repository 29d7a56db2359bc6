-- From a state, events have one run: the same effects, and the same state after it. And runs can be concatenated.
use Rattle.daide_protocol.proofs.Common.{◌≡◌, ℕ, List, [], ◌∷◌, ◌++◌, Option, Some, None, sym, ap, ◌∙◌, subst}
use Rattle.daide_protocol.proofs.Common.{append_assoc, Verdict, Words, Event, SessionState, Effect, Successor, Question}
use Rattle.daide_protocol.proofs.Common.{Transition, Runs, IsCorrectVerdict, question, side2_of, event_outcome}
use Rattle.daide_reader.proofs.VerdictLemmas.{verdict_is_one}
use Rattle.daide_grammar.specs.SideMessages.{IsMessageOver}

-- ---- one verdict

one_right : (words : Words) (max_depth : ℕ) (q : Option Question) (v w : Verdict) →
    IsCorrectVerdict words max_depth q v → IsCorrectVerdict words max_depth q w → v ≡ w
one_right words max_depth None v w a b = a ∙ sym b
one_right words max_depth (Some q) v w a b =
    verdict_is_one (IsMessageOver words (side2_of q.side) q.level) max_depth q.message v w a b

-- ---- one run

one_step : (old : SessionState) (event : Event) (a b : List Effect) (new other : SessionState) →
    Transition old event a new → Transition old event b other →
    ◌≡◌ {A = Successor} (record { state = new; effects = a }) (record { state = other; effects = b })
one_step old event a b new other s t =
    let same = one_right old.limits.words old.limits.max_depth (question old event) s.verdict t.verdict
    s.right t.right in
    sym s.outcome ∙ (ap (event_outcome old event) same ∙ t.outcome)

pub one_run : (events : List Event) (old : SessionState) (a b : List Effect) (new other : SessionState) →
    Runs old events a new → Runs old events b other →
    (a ≡ b) × (new ≡ other)
one_run [] old a b new other r s = (r.0 ∙ sym s.0, r.1 ∙ sym s.1)
one_run (event ∷ events) old a b new other r s =
    let e = one_step old event r.1 s.1 r.0 s.0 r.3 s.3 in
    let mid : r.0 ≡ s.0 = ap (λ (o : Successor). o.state) e in
    let first : r.1 ≡ s.1 = ap (λ (o : Successor). o.effects) e in
    let rest = one_run events s.0 r.2 s.2 new other (subst (λ (m : SessionState). Runs m events r.2 new) mid r.4) s.4 in
    (r.5 ∙ (ap (λ (x : List Effect). x ++ r.2) first ∙ (ap (λ (x : List Effect). s.1 ++ x) rest.0 ∙ sym s.5)), rest.1)

-- ---- runs join

pub runs_join : (events more : List Event) (old mid new : SessionState) (a b : List Effect) → Runs old events a mid →
    Runs mid more b new →
    Runs old (events ++ more) (a ++ b) new
runs_join [] more old mid new a b r s =
    subst (λ (m : SessionState). Runs m more (a ++ b) new) r.1
    (subst (λ (x : List Effect). Runs mid more (x ++ b) new) (sym r.0) s)
runs_join (event ∷ events) more old mid new a b r s = (
  r.0,
  r.1,
  r.2 ++ b,
  r.3,
  runs_join events more r.0 mid new r.2 b r.4 s,
  ap (λ (x : List Effect). x ++ b) r.5
      ∙ append_assoc r.1 r.2 b,
)
