use Rattle.daide_explain.proofs.Common.{accepted_free}
use Rattle.daide_explain.proofs.Printed.{printed}
use Rattle.daide_explain.proofs.laws.explanation_is_exact.Goals as goal

pub returns : goal.returns
returns c = λ words end level max_depth p text accepted h. (
  h.0,
  h.1,
  h.3,
  printed words end level max_depth p (accepted_free words accepted) h.0 h.2.tokens,
  h.2.at_end,
)
