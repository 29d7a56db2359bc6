use Rattle.std.proofs.Common.{inl}
use Rattle.daide_tools.proofs.judging.judge_text.Goals as goal

pub returns-in-Err-clause-caused : goal.returns-in-Err-clause-caused
returns-in-Err-clause-caused g c = inl (inl c.in-Err.ensures.refused)
