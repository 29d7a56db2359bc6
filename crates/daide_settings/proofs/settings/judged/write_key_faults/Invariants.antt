use Rattle.daide_settings.proofs.Common.{length, get_member, table_view, key_text, fault_at, IsFaultPart}
use Rattle.daide_settings.proofs.ReportLemmas.{IsWithout}
use Rattle.daide_settings.proofs.settings.judged.write_key_faults.Given as goal

abbrev pub invariant-loop-rest : goal.invariant-loop-rest
invariant-loop-rest g l = IsWithout
    (λ key part. IsFaultPart key (fault_at key (table_view l.table)) (get_member (key_text key) (table_view l.table)) part)
    l.fn.keys l.rest l.fn.report.items l.report.items

abbrev pub decreases-loop-rest : goal.decreases-loop-rest
decreases-loop-rest g l = length l.rest
