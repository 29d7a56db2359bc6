use Rattle.daide_explain.proofs.Common.{inl, grammar_words, accepted_free}
use Rattle.daide_explain.proofs.Likeness.{expected_along}
use Rattle.daide_explain.proofs.laws.class_decides_what_is_expected.Goals as goal

pub returns : goal.returns
returns c = λ words end level max_depth p t u accepted same h.
    expected_along (grammar_words words) (accepted_free words accepted) end level max_depth p t u (inl same) h
