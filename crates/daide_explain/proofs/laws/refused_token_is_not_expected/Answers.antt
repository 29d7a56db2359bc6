use Rattle.daide_explain.proofs.Common.{IsMessageOver, grammar_words}
use Rattle.daide_explain.proofs.PlaceFacts.{not_expected}
use Rattle.daide_explain.proofs.laws.refused_token_is_not_expected.Goals as goal

pub returns : goal.returns
returns c = λ words end level max_depth before after t h.
    not_expected (IsMessageOver (grammar_words words) end level) max_depth before after t h
