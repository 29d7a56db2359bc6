-- Each event has a transition from each state, and events have a run: the one that is computed with the protocol's own
-- table.
use Rattle.daide_protocol.proofs.Common.{◌≡◌, ℕ, List, [], ◌∷◌, ◌++◌, Option, Some, None, refl, sym, ◌∙◌, ap, subst}
use Rattle.daide_protocol.proofs.Common.{Words, Verdict, Relay, Event, Limits, SessionState, Effect, Successor}
use Rattle.daide_protocol.proofs.Common.{Question, Transition, Runs, IsCorrectVerdict, question, side2_of}
use Rattle.daide_protocol.proofs.Common.{event_outcome, nothing, Bot, Level, Ended, Phase, SessionPhase, WaitIm, WaitRm}
use Rattle.daide_protocol.proofs.Common.{Open, Over}
use Rattle.daide_reader.proofs.SomeVerdict.{plain_verdict, plain_verdict_right}
use Rattle.daide_protocol.specs.declared.phase.Phase.TheVariants as Plain
use Rattle.daide_protocol.proofs.LimitsKept.{event_limits}

-- a message has the grammar's verdict; without a message it is Relay
abbrev pub judged : ℕ → Option Question → Verdict
judged max_depth None = Relay
judged max_depth (Some q) = plain_verdict (side2_of q.side) q.level max_depth q.message

judged_right : (max_depth : ℕ) (q : Option Question) → IsCorrectVerdict [] max_depth q (judged max_depth q)
judged_right max_depth None = refl
judged_right max_depth (Some q) = plain_verdict_right (side2_of q.side) q.level max_depth q.message

-- the outcome of an event
abbrev pub outcome_at : SessionState → Event → Successor
outcome_at old event = event_outcome old event (judged old.limits.max_depth (question old event))

step_at : (old : SessionState) (event : Event) → old.limits.words ≡ [] →
    Transition old event (outcome_at old event).effects (outcome_at old event).state
step_at old event none = record {
  verdict = judged old.limits.max_depth (question old event);
  right = subst (λ (w : Words). IsCorrectVerdict w old.limits.max_depth (question old event)
      (judged old.limits.max_depth (question old event))) (sym none)
      (judged_right old.limits.max_depth (question old event));
  outcome = refl;
}

pub some_step : (old : SessionState) (event : Event) → old.limits.words ≡ [] →
    (effects : List Effect) × (new : SessionState) × Transition old event effects new
some_step old event none = ((outcome_at old event).effects, (outcome_at old event).state, step_at old event none)

-- the outcome of a list of events
abbrev pub outcome_of : SessionState → List Event → Successor
outcome_of old [] = nothing old
outcome_of old (event ∷ events) =
    let first = outcome_at old event in
    let more = outcome_of first.state events in
    record { state = more.state; effects = first.effects ++ more.effects }

pub run_of : (old : SessionState) (events : List Event) → old.limits.words ≡ [] →
    Runs old events (outcome_of old events).effects (outcome_of old events).state
run_of old [] none = (refl, refl)
run_of old (event ∷ events) none =
    let first = outcome_at old event in
    let more = outcome_of first.state events in
    let kept = event_limits old event (judged old.limits.max_depth (question old event)) in
    let rest = run_of first.state events (ap (λ (l : Limits). l.words) kept ∙ none) in
    (first.state, first.effects, more.effects, step_at old event none, rest, refl)

pub some_run : (old : SessionState) (events : List Event) → old.limits.words ≡ [] →
    (effects : List Effect) × (new : SessionState) × Runs old events effects new
some_run old events none = ((outcome_of old events).effects, (outcome_of old events).state, run_of old events none)

-- ---- sessions of facts

-- a phase: at this level, if it is open; by the end of the bot, if it is over
abbrev pub phase_at : Phase → Level → SessionPhase
phase_at Plain.WaitIm level = WaitIm
phase_at Plain.WaitRm level = WaitRm
phase_at Plain.Open level = Open level
phase_at Plain.Over level = Over (Ended Bot)

abbrev pub in_phase : Phase → Level → SessionState → SessionState
in_phase phase level state = record state { phase = phase_at phase level }
