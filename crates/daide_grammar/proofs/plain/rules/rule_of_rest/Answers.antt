use Rattle.daide_grammar.proofs.Common.{◌≡◌, Bool, false, true, sym, ap, ◌∙◌, arith, Take, action, rest_of}
use Rattle.daide_grammar.specs.Table.Answers.{symbols_of}
use Rattle.daide_grammar.proofs.PlainRules.{takes_rest, from_two, none_yet}
use Rattle.daide_grammar.proofs.plain.rules.rule_of_rest.Goals as goal

pub loop-rule-init : goal.loop-rule-init
loop-rule-init c = record { none = λ n low less e. absurd (omega (arith, low, less)) }

pub returns-then-leaves : goal.returns-then-leaves
returns-then-leaves c =
    c.of.ensures ∙ takes_rest c.loop-rule.rule c.loop-rule.auto.rule
    ∙ ap Take (c.leaves.ensures.0 c.if-leaves.true ∙ c.as_slice-wanted.ensures)

pub loop-rule-preserved : goal.loop-rule-preserved
loop-rule-preserved c = record {
  none = none_yet (λ n. rest_of (action n) ≡ c.as_slice-wanted.result.now) c.loop-rule.rule c.loop-rule.invariant.none
      (λ e. absurd (not_both c.if-leaves.false (c.leaves.ensures.1 e)));
}
  where
    not_both : {b : Bool} → b ≡ false → b ≡ true → ⊥
    not_both e f = cc

pub returns : goal.returns
returns c =
    let rule = c.requires.0 in
    let rest = symbols_of c.args.rest.now in
    absurd (c.loop-rule.invariant.none rule (from_two rule rest c.requires.2)
    (omega (arith, c.requires.1, c.loop-rule-test.false)) (ap rest_of c.requires.2 ∙ sym c.as_slice-wanted.ensures))
