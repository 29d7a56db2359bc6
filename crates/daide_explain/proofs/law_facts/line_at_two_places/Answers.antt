use Rattle.daide_explain.proofs.Common.{◌≡◌, [], ◌∷◌, true, Bool, refl, ap, ◌∙◌, L0, Client, expected_line}
use Rattle.daide_explain.proofs.ExplainedFacts.{At0, gof, obs, obs_ends, obs_expected, obs_gof_place}
use Rattle.daide_explain.proofs.PlaceFacts.{not_expected}
use Rattle.daide_explain.proofs.law_facts.line_at_two_places.Goals as goal

pub returns : goal.returns
returns c = record {
  start = λ text h.
      let exact = c.explanation_is_exact.ensures [] Client L0 254 [] text refl h in
      (exact.0, exact.1, exact.2, (exact.3 obs).0 obs_expected);
  after = λ text h.
      let exact = c.explanation_is_exact.ensures [] Client L0 254 (obs ∷ []) text refl h in
      let ends : exact.1 ≡ true = exact.4.1 obs_ends in (
        exact.0,
        exact.2 ∙ ap (λ (b : Bool). expected_line [] (obs ∷ []) exact.0 b) ends,
        λ printed. not_expected At0 254 (obs ∷ []) [] gof obs_gof_place ((exact.3 gof).1 printed),
      );
}
