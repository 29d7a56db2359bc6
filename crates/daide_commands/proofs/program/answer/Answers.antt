use Rattle.std.proofs.Common.{Ok, Err, refl}
use Rattle.std.proofs.lemmas.Result.{IfOk-weaker}
use Rattle.clap.specs.Words.{kind_of, subcommand_rows_of}
use Rattle.daide_commands.proofs.program.answer.Goals as goal

pub returns-in-Ok-clause-answered : goal.returns-in-Ok-clause-answered
returns-in-Ok-clause-answered g c =
    IfOk-weaker c.carry_out.result _ _
    (λ status ends. (Ok (subcommand_rows_of c.in-Ok.matches), c.in-Ok.ensures, (c.order_of.result, c.order_of.ensures, ends)))
    c.carry_out.ensures.ended

pub returns-in-Err-clause-answered : goal.returns-in-Err-clause-answered
returns-in-Err-clause-answered g c =
    IfOk-weaker c.report_usage.result _ _
    (λ status ends. (Err (kind_of c.in-Err.why), c.in-Err.ensures, (refl, ends)))
    c.report_usage.ensures.usage
