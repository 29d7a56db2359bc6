use Rattle.daide_settings.proofs.Common.{length, IsUnknownLine}
use Rattle.daide_settings.proofs.ReportLemmas.{IsWithout}
use Rattle.daide_settings.proofs.settings.judged.write_unknown_lines.Given as goal

abbrev pub invariant-loop-rest : goal.invariant-loop-rest
invariant-loop-rest g l =
    IsWithout (λ key. IsUnknownLine key.now) l.fn.keys l.rest l.fn.report.items l.report.items

abbrev pub decreases-loop-rest : goal.decreases-loop-rest
decreases-loop-rest g l = length l.rest
