use Rattle.daide_explain.proofs.Common.{◌++◌, List, ℕ, refl, ap, ◌∙◌, on_ok_weaker, tokens_of, words_of, expected_line}
use Rattle.daide_explain.proofs.text.write_expected.Goals as goal

pub returns-clause-text : goal.returns-clause-text
returns-clause-text g c =
    let words = words_of c.args.rules.now.words.now in
    let p = tokens_of c.args.before.now in
    let kept = c.in_ok-tokens.tokens.items in
    let ends = c.is_end_expected-ends.result in
    on_ok_weaker c.write_line.result
    (λ e. (
      expected_line words p kept ends,
      (kept, ends, record { tokens = c.in_ok-tokens.ensures.listed; at_end = c.is_end_expected-ends.ensures }, refl),
      e ∙ ap (λ (ts : List ℕ). c.args.text.now.items ++ expected_line words p ts ends) c.as_slice.ensures.value,
    ))
    c.write_line.ensures.text
