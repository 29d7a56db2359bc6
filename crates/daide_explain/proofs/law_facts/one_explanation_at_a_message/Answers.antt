use Rattle.daide_explain.proofs.Common.{[], ◌∷◌, ◌++◌, codes, bra, L0, Client, Prn}
use Rattle.daide_explain.proofs.ExplainedFacts.{gof, gof_open}
use Rattle.daide_explain.proofs.law_facts.one_explanation_at_a_message.Goals as goal

pub returns : goal.returns
returns c text h =
    c.explained_in_one_way.ensures [] Client L0 254 (gof ∷ bra ∷ []) Prn text (codes "unpaired: ( at 1" ++ 10 ∷ []) h
    gof_open
