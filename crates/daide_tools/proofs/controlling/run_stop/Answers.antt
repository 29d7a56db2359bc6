use Rattle.std.proofs.lemmas.Result.{IfOk-weaker}
use Rattle.daide_settings.specs.Given.{given_of}
use Rattle.daide_tools.proofs.ControllingLemmas.{run_stopped}
use Rattle.daide_tools.proofs.controlling.run_stop.Goals as goal

pub returns-in-Ok-clause-stopped : goal.returns-in-Ok-clause-stopped
returns-in-Ok-clause-stopped g c =
    IfOk-weaker c.stop_of.result _ _
    (λ status ends. run_stopped g.R.FileOpener.Opens g.F.Read.remaining g.R.RunReacher.Reaches g.S.Write.contents
    g.S.Read.remaining c.args.order (given_of c.in-Ok.settings) status c.in-Ok.ensures ends)
    c.stop_of.ensures.stopped
