-- With an operator's words too, each event has a transition from each state, and events have a run.
use Rattle.daide_protocol.proofs.Common.{◌≡◌, ℕ, true, List, [], ◌∷◌, ◌++◌, Option, Some, None, refl, sym, ◌∙◌, ap}
use Rattle.daide_protocol.proofs.Common.{subst, append-nil, may_end_of, Words, Verdict, Relay, Event, Effect, Limits}
use Rattle.daide_protocol.proofs.Common.{Question, SessionState, Transition, Runs, IsCorrectVerdict, event_outcome}
use Rattle.daide_protocol.proofs.Common.{question, side2_of}
use Rattle.daide_grammar.specs.Table.LawfulStack.{start_symbol}
use Rattle.daide_grammar.specs.SideMessages.{dialect_of}
use Rattle.daide_grammar.specs.Table.Symbols.{start_symbol_of}
use Rattle.daide_words.specs.Table.OverWords.{answer_over, are_free}
use Rattle.daide_words.specs.Proofs.WordLaws.{laws_over}
use Rattle.daide_reader.proofs.SomeVerdict.{verdict_by, verdict_by_right}
use Rattle.daide_protocol.proofs.LimitsKept.{runs_limits}
use Rattle.daide_protocol.proofs.WordedVerdicts.{worded_verdicts}

module _ (words : Words) (free : are_free words ≡ true) where
  -- a message has a verdict; without a message it is Relay
  some_right : (max_depth : ℕ) (q : Option Question) → (v : Verdict) × IsCorrectVerdict words max_depth q v
  some_right max_depth None = (Relay, refl)
  some_right max_depth (Some q) =
      let side = side2_of q.side in
      let first = start_symbol_of side q.level in
      let v = verdict_by (dialect_of words).class_of (answer_over words) may_end_of max_depth first q.message in (
        v,
        worded_verdicts words free side q.level max_depth q.message v
            (verdict_by_right _ _ _ _ _ (laws_over words free) first max_depth (start_symbol side q.level) q.message),
      )

  pub step_over : (old : SessionState) (event : Event) → old.limits.words ≡ words →
      (effects : List Effect) × (new : SessionState) × Transition old event effects new
  step_over old event same =
      let judged = some_right old.limits.max_depth (question old event) in
      let outcome = event_outcome old event judged.0 in (
        outcome.effects,
        outcome.state,
        record {
          verdict = judged.0;
          right = subst (λ (w : Words). IsCorrectVerdict w old.limits.max_depth (question old event) judged.0) (sym same)
              judged.1;
          outcome = refl;
        },
      )

  pub run_over : (old : SessionState) (events : List Event) → old.limits.words ≡ words →
      (effects : List Effect) × (new : SessionState) × Runs old events effects new
  run_over old [] same = ([], old, (refl, refl))
  run_over old (event ∷ events) same =
      let first = step_over old event same in
      let alone : Runs old (event ∷ []) first.0 first.1 =
      (first.1, first.0, [], first.2, (refl, refl), sym (append-nil first.0)) in
      let kept = runs_limits (event ∷ []) old first.1 first.0 alone in
      let rest = run_over first.1 events (ap (λ (l : Limits). l.words) kept ∙ same) in
      (first.0 ++ rest.0, rest.1, (first.1, first.0, rest.0, first.2, rest.2, refl))
