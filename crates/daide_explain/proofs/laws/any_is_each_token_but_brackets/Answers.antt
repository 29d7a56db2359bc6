use Rattle.daide_explain.proofs.Common.{accepted_free}
use Rattle.daide_explain.proofs.Printed.{any_expected}
use Rattle.daide_explain.proofs.laws.any_is_each_token_but_brackets.Goals as goal

pub returns : goal.returns
returns c = λ words end level max_depth p accepted h.
    any_expected words end level max_depth p (accepted_free words accepted) h
