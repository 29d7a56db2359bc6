use Rattle.std.proofs.Common.{inr, refl}
use Rattle.std.proofs.lemmas.Result.{IfOk-weaker}
use Rattle.daide_commands.proofs.run_order.run.Goals as goal

pub returns-in-Ok-run_text-clause-ran : goal.returns-in-Ok-run_text-clause-ran
returns-in-Ok-run_text-clause-ran g c =
    inr (c.as_str.result.now, rw c.as_str.ensures.value c.in-Ok.ensures, _, c.in-Ok-run_text.ensures.runs, refl)

pub returns-clause-ran : goal.returns-clause-ran
returns-clause-ran g c =
    IfOk-weaker c.end_failed.result _ _
    (λ status is. inr (c.as_str.result.now, rw c.as_str.ensures.value c.in-Ok.ensures, _, c.in-Err-run_text.ensures.runs, is))
    c.end_failed.ensures
