use Rattle.std.proofs.lemmas.Result.{IfOk-weaker}
use Rattle.daide_show.specs.Shown.{request_of}
use Rattle.daide_tools.proofs.EndingLemmas.{reading_fault, show_cause_of, show_refused}
use Rattle.daide_tools.proofs.showing.show_read.Goals as goal

pub returns-in-Err : goal.returns-in-Err
returns-in-Err g c =
    IfOk-weaker c.print_fault.result _ _
    (λ status e. show_refused _ (request_of c.args.request.now) (g.I.Read.remaining c.args.input.now)
    (g.O.Write.contents c.args.output.now) c.in-Err.fault status
    (reading_fault _ _ _ c.in-Err.ensures.too_long c.in-Err.ensures.faults)
    (show_cause_of _ (λ h. h) (λ h. absurd h) c.in-Err.fault c.in-Err.ensures.caused) e)
    c.print_fault.ensures.status
