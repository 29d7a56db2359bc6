use Rattle.std.proofs.Common.{◌≤◌, ℕ, List, map, length, Option}
use Rattle.daide_tools.specs.Controlling.{EndsStatuses, RunAnswers}
use Rattle.daide_tools.proofs.controlling.status_of_each.Given as goal

-- the answers of the runs that are left are those of all after the ones so far
abbrev pub invariant-loop-rest : goal.invariant-loop-rest
invariant-loop-rest g l = record {
  each : (new : Option (List ℕ)) (all : ℕ) →
      EndsStatuses (RunAnswers g.R.FileOpener.Opens g.F.Read.remaining g.R.RunReacher.Reaches
      g.S.Write.contents g.S.Read.remaining l.form.is_several l.form.format)
      (map (λ name. name.now) l.rest) (g.O.Write.contents l.output) new l.status all →
      EndsStatuses (RunAnswers g.R.FileOpener.Opens g.F.Read.remaining g.R.RunReacher.Reaches
      g.S.Write.contents g.S.Read.remaining l.form.is_several l.form.format)
      (map (λ name. name.now) l.fn.names) (g.O.Write.contents l.fn.output) new 0 all;
  bounded : l.status ≤ 1;
}

abbrev pub decreases-loop-rest : goal.decreases-loop-rest
decreases-loop-rest g l = length l.rest
