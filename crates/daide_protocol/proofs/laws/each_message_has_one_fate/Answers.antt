use Rattle.daide_protocol.proofs.Common.{initial_state}
use Rattle.daide_protocol.proofs.FateLemmas.{run_fates, frames_come}
use Rattle.daide_protocol.proofs.laws.each_message_has_one_fate.Goals as goal

pub returns : goal.returns
returns c = λ limits events effects new run. record {
  fates = run_fates (initial_state limits) events effects new run;
  frames = λ side. frames_come side limits events effects new run;
}
