use Rattle.std.proofs.lemmas.Result.{IfOk-weaker}
use Rattle.daide_causes.specs.Causes.{HasFailed}
use Rattle.daide_settings.specs.Given.{given_of}
use Rattle.daide_tools.proofs.ControllingLemmas.{run_answered}
use Rattle.daide_tools.proofs.controlling.status_at.Goals as goal

pub returns-in-Ok-clause-ended : goal.returns-in-Ok-clause-ended
returns-in-Ok-clause-ended g c =
    IfOk-weaker c.status_of.result _ _
    (λ one ends. run_answered g.R.FileOpener.Opens g.F.Read.remaining g.R.RunReacher.Reaches g.S.Write.contents
    g.S.Read.remaining (HasFailed g.O.Sink.Fails) c.args.form.is_several c.args.form.format c.args.name.now (given_of c.in-Ok.settings)
    (g.O.Write.contents c.args.output.now) (g.O.Write.contents c.status_of.new.output) one c.in-Ok.ensures ends)
    c.status_of.ensures.ended
