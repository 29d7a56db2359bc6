use Rattle.daide_explain.proofs.Common.{[], ◌∷◌, refl, L0, Client}
use Rattle.daide_explain.proofs.ExplainedFacts.{gof, obs, obs_gof_place, nothing_place, nothing_is_no_message}
use Rattle.daide_explain.proofs.law_facts.never_listed_at_two_messages.Goals as goal

pub returns : goal.returns
returns c = record {
  token = λ kept ends h. (c.refused_class_is_never_listed.ensures [] Client L0 254 (obs ∷ gof ∷ []) 1 kept ends refl
      obs_gof_place h).0 gof [] refl;
  end = λ kept ends h. (c.refused_class_is_never_listed.ensures [] Client L0 254 [] 0 kept ends refl
      nothing_place h).1 refl nothing_is_no_message;
}
