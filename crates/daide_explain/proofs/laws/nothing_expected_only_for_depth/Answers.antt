use Rattle.daide_explain.proofs.Common.{accepted_free}
use Rattle.daide_explain.proofs.OnlyDepth.{nothing_at}
use Rattle.daide_explain.proofs.laws.nothing_expected_only_for_depth.Goals as goal

pub returns : goal.returns
returns c = λ words end level max_depth m place accepted h none.
    nothing_at words end level max_depth (accepted_free words accepted) m place h none
