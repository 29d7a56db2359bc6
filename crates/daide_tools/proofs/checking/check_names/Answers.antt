use Rattle.std.proofs.Common.{◌≢◌, length, rules}
use Rattle.std.proofs.lemmas.Result.{IfOk-weaker}
use Rattle.daide_causes.specs.Causes.{HasFailed, WasRefused}
use Rattle.daide_tools.specs.Checking.{CannotRead, SaysOfNamed}
use Rattle.daide_tools.proofs.CheckingLemmas.{not_one}
use Rattle.daide_tools.proofs.checking.check_names.Goals.{in_default-via-then-names-lt1, in_default-via-else-names-lt1+else-names-lt2}
use Rattle.daide_tools.proofs.checking.check_names.Goals as goal

pub returns-in_default-clause-checked : goal.returns-in_default-clause-checked
returns-in_default-clause-checked g c =
    let several : length c.args.names.now ≢ 1 =
    elim c.in_default.branch [
      | in_default-via-then-names-lt1 w ↦ search rules
      | in_default-via-else-names-lt1+else-names-lt2 w ↦ search rules
    ] in
    IfOk-weaker c.check_several.result _ _
    (λ status h. not_one g.R.FileOpener.Opens g.F.Read.remaining c.args.is_explained
    (SaysOfNamed
    (CannotRead g.R.FileOpener.Opens (HasFailed g.I.Source.Fails) (HasFailed g.F.Source.Fails))
    (HasFailed g.O.Sink.Fails) (HasFailed g.E.Sink.Fails)) (WasRefused g.A.Memory.Refuses) c.args.names.now
    (g.I.Read.remaining c.args.input.now) (g.I.Read.remaining c.check_several.new.input)
    (g.O.Write.contents c.args.output.now) (g.O.Write.contents c.check_several.new.output)
    (g.E.Write.contents c.args.errors.now) (g.E.Write.contents c.check_several.new.errors) status several h)
    c.check_several.ensures.checked
