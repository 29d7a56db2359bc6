use Rattle.daide_grammar.proofs.Common.{◌≡◌, ◌<◌, ◌≤◌, ℕ, action, rest_of}
use Rattle.daide_grammar.proofs.plain.rules.rule_of_rest.Given as goal

-- no rule so far leaves the symbols
abbrev pub invariant-loop-rule : goal.invariant-loop-rule
invariant-loop-rule l = record {
  none : (n : ℕ) → 2 ≤ n → n < l.rule → ¬ (rest_of (action n) ≡ l.wanted);
}
