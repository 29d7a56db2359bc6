use Rattle.daide_log.proofs.Common.{refl}
use Rattle.daide_log.proofs.PlayLemmas.{appends_none}
use Rattle.daide_log.proofs.style.PlainStyleStyle.close.Goals as goal

pub returns-clause-text : goal.returns-clause-text
returns-clause-text g c = (refl, appends_none _)
