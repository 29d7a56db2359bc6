use Rattle.std.proofs.Common.{inl}
use Rattle.std.proofs.lemmas.Result.{IfOk-weaker}
use Rattle.daide_causes.specs.Causes.{HasFailed, WasRefused}
use Rattle.daide_tools.specs.Checking.{CannotRead, SaysOfNamed}
use Rattle.daide_tools.proofs.CheckingLemmas.{none_left}
use Rattle.daide_tools.proofs.several.check_several.Goals as goal

pub returns-clause-checked : goal.returns-clause-checked
returns-clause-checked g c =
    IfOk-weaker c.end_with_table.result _ _
    (λ status ended. inl (
      g.O.Write.contents c.loop-rest.output,
      g.E.Write.contents c.loop-rest.errors,
      c.loop-rest.status,
      c.loop-rest.invariant.each (g.I.Read.remaining c.loop-rest.input) (g.O.Write.contents c.loop-rest.output)
          (g.E.Write.contents c.loop-rest.errors) c.loop-rest.status
          (none_left g.R.FileOpener.Opens g.F.Read.remaining c.args.is_explained
          (SaysOfNamed
          (CannotRead g.R.FileOpener.Opens (HasFailed g.I.Source.Fails) (HasFailed g.F.Source.Fails))
          (HasFailed g.O.Sink.Fails) (HasFailed g.E.Sink.Fails)) (WasRefused g.A.Memory.Refuses)
          c.loop-rest.rest.now (g.I.Read.remaining c.loop-rest.input) (g.O.Write.contents c.loop-rest.output)
          (g.E.Write.contents c.loop-rest.errors) c.loop-rest.status c.in_default.len_below),
      ended,
    ))
    c.end_with_table.ensures.ended
