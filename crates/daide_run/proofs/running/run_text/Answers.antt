use Rattle.std.proofs.Common.{inl, inr, refl}
use Rattle.daide_run.proofs.running.run_text.Goals as goal

pub returns-in-Ok-clause-runs : goal.returns-in-Ok-clause-runs
returns-in-Ok-clause-runs g c = inr (c.in-Ok.settings, c.in-Ok.ensures.judged, c.serve_reported.ensures)

pub returns-in-Err-clause-runs : goal.returns-in-Err-clause-runs
returns-in-Err-clause-runs g c = inl (c.in-Err.fault, refl, c.in-Err.ensures.refused, refl)
