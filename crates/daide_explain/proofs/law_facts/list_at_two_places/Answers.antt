use Rattle.daide_explain.proofs.Common.{[], ◌∷◌, refl, L0, Client}
use Rattle.daide_explain.proofs.ExplainedFacts.{At0, gof, obs, obs_expected, obs_gof_place}
use Rattle.daide_explain.proofs.PlaceFacts.{not_expected}
use Rattle.daide_explain.proofs.law_facts.list_at_two_places.Goals as goal

pub returns : goal.returns
returns c = record {
  listed = λ kept h. (c.list_is_exact.ensures [] Client L0 254 [] kept refl h obs).0 obs_expected;
  left_out = λ kept h listed. not_expected At0 254 (obs ∷ []) [] gof obs_gof_place
      ((c.list_is_exact.ensures [] Client L0 254 (obs ∷ []) kept refl h gof).1 listed);
}
