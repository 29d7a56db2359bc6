use Rattle.daide_log.proofs.ItemsReported.{record_reported}
use Rattle.daide_log.proofs.laws.records_are_reported.Goals as goal

pub returns : goal.returns
returns c = λ config words items moves state good well names fit few run.
    record_reported config words items moves state good well names fit few run
