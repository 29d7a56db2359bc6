use Rattle.std.proofs.Common.{inl, inr, refl}
use Rattle.daide_run.proofs.running.serve_sockets.Goals as goal

pub returns-in-Err : goal.returns-in-Err
returns-in-Err g c = inl (_, refl, refl, c.in-Err.ensures.refused)

pub returns : goal.returns
returns g c = inr (_, c.run_on.ensures.runs)
