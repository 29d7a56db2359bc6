use Rattle.daide_explain.proofs.Common.{◌≡◌, ℕ, [], ◌∷◌, refl, arith, L0, Client}
use Rattle.daide_explain.proofs.ExplainedFacts.{gof, obs, obs_gof_place}
use Rattle.daide_explain.proofs.law_facts.something_expected_at_a_message.Goals as goal

pub returns : goal.returns
returns c h =
    let only = c.nothing_expected_only_for_depth.ensures [] Client L0 254 (obs ∷ gof ∷ []) 1 refl obs_gof_place h in
    let full : ◌≡◌ {A = ℕ} 0 254 = only.full in
    absurd (omega arith)
