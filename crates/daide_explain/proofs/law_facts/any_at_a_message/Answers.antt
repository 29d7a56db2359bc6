use Rattle.daide_explain.proofs.Common.{[], refl, arith, L10, Client}
use Rattle.daide_explain.proofs.ExplainedFacts.{gof, try_open, unknown_tried}
use Rattle.daide_explain.proofs.law_facts.any_at_a_message.Goals as goal

pub returns : goal.returns
returns c =
    c.any_is_each_token_but_brackets.ensures [] Client L10 254 try_open refl unknown_tried gof (omega arith) (omega arith)
