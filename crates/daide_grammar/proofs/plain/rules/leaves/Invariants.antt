use Rattle.daide_grammar.proofs.Common.{◌≡◌, take, action, rest_of}
use Rattle.daide_grammar.proofs.plain.rules.leaves.Given as goal

-- the symbols so far are those of the rule
abbrev pub invariant-loop-place : goal.invariant-loop-place
invariant-loop-place l = record {
  same : take l.place l.wanted ≡ take l.place (rest_of (action l.fn.rule));
}
