use Rattle.std.proofs.Common.{map, Some}
use Rattle.std.proofs.lemmas.Result.{IfOk-weaker}
use Rattle.daide_causes.specs.Causes.{HasFailed, WasRefused}
use Rattle.daide_tools.specs.Checking.{CannotRead}
use Rattle.daide_tools.proofs.CheckingLemmas.{logs_unsaid}
use Rattle.daide_tools.proofs.checking.run_check.Goals as goal

pub returns-in-Some-clause-reported : goal.returns-in-Some-clause-reported
returns-in-Some-clause-reported g c =
    IfOk-weaker c.check_names.result _ _
    (λ status h. rw c.in-Some.is
    (logs_unsaid g.R.FileOpener.Opens g.F.Read.remaining c.args.order.is_explained
    (CannotRead g.R.FileOpener.Opens (HasFailed g.I.Source.Fails) (HasFailed g.F.Source.Fails))
    (WasRefused g.A.Memory.Refuses) (HasFailed g.O.Sink.Fails) (HasFailed g.E.Sink.Fails)
    (Some (map (λ name. name.now) c.in-Some.names.now))
    (g.I.Read.remaining c.args.input.now) (g.I.Read.remaining c.check_names.new.input)
    (g.O.Write.contents c.args.output.now) (g.O.Write.contents c.check_names.new.output)
    (g.E.Write.contents c.args.errors.now) (g.E.Write.contents c.check_names.new.errors) status h))
    c.check_names.ensures.checked
