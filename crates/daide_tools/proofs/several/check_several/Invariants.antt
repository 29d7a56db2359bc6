use Rattle.std.proofs.Common.{◌≤◌, ℕ, List, map, length, Option}
use Rattle.daide_causes.specs.Causes.{HasFailed, WasRefused}
use Rattle.daide_tools.specs.Checking.{CannotRead, ChecksEach, SaysOfNamed}
use Rattle.daide_tools.proofs.several.check_several.Given as goal

-- the reports of the logs that are left are those of all after the ones so far
abbrev pub invariant-loop-rest : goal.invariant-loop-rest
invariant-loop-rest g l = record {
  each : (left reported told : Option (List ℕ)) (all : ℕ) →
      ChecksEach g.R.FileOpener.Opens g.F.Read.remaining l.is_explained
      (SaysOfNamed
      (CannotRead g.R.FileOpener.Opens (HasFailed g.I.Source.Fails) (HasFailed g.F.Source.Fails))
      (HasFailed g.O.Sink.Fails) (HasFailed g.E.Sink.Fails)) (WasRefused g.A.Memory.Refuses)
      (map (λ path. path.now) l.rest) (g.I.Read.remaining l.input) left (g.O.Write.contents l.output) reported
      (g.E.Write.contents l.errors) told l.status all →
      ChecksEach g.R.FileOpener.Opens g.F.Read.remaining l.is_explained
      (SaysOfNamed
      (CannotRead g.R.FileOpener.Opens (HasFailed g.I.Source.Fails) (HasFailed g.F.Source.Fails))
      (HasFailed g.O.Sink.Fails) (HasFailed g.E.Sink.Fails)) (WasRefused g.A.Memory.Refuses)
      (map (λ path. path.now) l.fn.paths) (g.I.Read.remaining l.fn.input) left (g.O.Write.contents l.fn.output) reported
      (g.E.Write.contents l.fn.errors) told 0 all;
  bounded : l.status ≤ 3;
}

abbrev pub decreases-loop-rest : goal.decreases-loop-rest
decreases-loop-rest g l = length l.rest
