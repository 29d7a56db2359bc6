use Rattle.daide_explain.proofs.Common.{◌++◌, List, ℕ, refl, ap, ◌∙◌, append_assoc, on_ok_weaker}
use Rattle.daide_explain.proofs.text.write_place.Goals as goal

pub returns-clause-text : goal.returns-clause-text
returns-clause-text g c =
    let first = c.in_ok-write_cause.ensures.text in
    on_ok_weaker c.write_elsewhere.result
    (λ second. (
      first.0 ++ second.0,
      (first.0, second.0, first.1, second.1, refl),
      second.2 ∙ (ap (λ (l : List ℕ). l ++ second.0) first.2 ∙ append_assoc c.args.text.now.items first.0 second.0),
    ))
    c.write_elsewhere.ensures.text
