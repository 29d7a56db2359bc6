use Rattle.daide_settings.proofs.Common.{◌++◌, refl, on_ok_weaker}
use Rattle.daide_settings.proofs.ReportLemmas.{two_in_sequence}
use Rattle.daide_settings.proofs.settings.judged.write_faults.Goals as goal

pub returns-clause-written : goal.returns-clause-written
returns-clause-written g c =
    let unknown = c.in_ok-write_all_unknown.ensures.written in
    on_ok_weaker c.write_key_faults.result
    (λ faults. (
      unknown.0 ++ faults.0,
      (unknown.0, faults.0, unknown.1, faults.1, refl),
      two_in_sequence _ unknown.0 faults.0 _ _ unknown.2 faults.2,
    ))
    c.write_key_faults.ensures.written
