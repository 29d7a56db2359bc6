use Rattle.daide_explain.proofs.Common.{accepted_free}
use Rattle.daide_explain.proofs.Exact.{exact}
use Rattle.daide_explain.proofs.laws.list_is_exact.Goals as goal

pub returns : goal.returns
returns c = λ words end level max_depth p kept accepted h.
    exact words end level max_depth p kept (accepted_free words accepted) h
