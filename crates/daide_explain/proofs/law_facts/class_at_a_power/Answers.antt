use Rattle.daide_explain.proofs.Common.{[], ◌∷◌, refl, bra, class_of, L10, Client}
use Rattle.daide_explain.proofs.ExplainedFacts.{fra, snd}
use Rattle.daide_explain.proofs.law_facts.class_at_a_power.Goals as goal

pub returns : goal.returns
unfolding class_of
returns c h = c.class_decides_what_is_expected.ensures [] Client L10 254 (snd ∷ bra ∷ []) 0x4101 fra refl refl h
