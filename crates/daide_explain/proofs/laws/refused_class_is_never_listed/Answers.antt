use Rattle.daide_explain.proofs.Common.{take, IsMessageOver, grammar_words, accepted_free}
use Rattle.daide_explain.proofs.Printed.{never_listed, no_end, refused_there}
use Rattle.daide_explain.proofs.laws.refused_class_is_never_listed.Goals as goal

pub returns : goal.returns
returns c = λ words end level max_depth m place kept ends accepted h expected.
    let message = IsMessageOver (grammar_words words) end level in (
      λ t after e.
          never_listed words end level max_depth (take place m) (accepted_free words accepted) kept expected.tokens t
          (refused_there message max_depth m after place t h e),
      no_end words message max_depth m kept place ends expected,
    )
