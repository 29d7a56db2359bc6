use Rattle.daide_log.proofs.AloneLemmas.{sessions_alone}
use Rattle.daide_log.proofs.laws.sessions_are_alone.Goals as goal

pub returns : goal.returns
returns w = λ log own second own_second lines limits session text summary h e none some few k own_is report.
    sessions_alone log own second own_second lines limits session text summary h e none some few k own_is report
