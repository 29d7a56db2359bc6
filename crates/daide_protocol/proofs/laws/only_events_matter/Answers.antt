use Rattle.daide_protocol.proofs.CallLemmas.{events_alone}
use Rattle.daide_protocol.proofs.laws.only_events_matter.Goals as goal

pub returns : goal.returns
returns c = events_alone
