use Rattle.daide_protocol.proofs.PassingLemmas.{only_messages}
use Rattle.daide_protocol.proofs.laws.only_messages_pass.Goals as goal

pub returns : goal.returns
returns c = only_messages
