use Rattle.daide_explain.proofs.Common.{[], ◌∷◌, L0, Client}
use Rattle.daide_explain.proofs.ExplainedFacts.{gof, obs, obs_gof_place}
use Rattle.daide_explain.proofs.law_facts.refused_at_a_message.Goals as goal

pub returns : goal.returns
returns c = c.refused_token_is_not_expected.ensures [] Client L0 254 (obs ∷ []) [] gof obs_gof_place
