use Rattle.daide_protocol.proofs.Common.{refl, initial_state}
use Rattle.daide_protocol.proofs.EndingLemmas.{ending_known}
use Rattle.daide_protocol.proofs.EndedLemmas.{runs_end}
use Rattle.daide_protocol.proofs.laws.ending_is_known.Goals as goal

pub returns : goal.returns
returns c = λ limits events effects new run.
    (ending_known new.phase, runs_end (initial_state limits) events effects new run refl)
