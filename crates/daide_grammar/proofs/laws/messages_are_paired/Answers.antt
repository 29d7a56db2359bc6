use Rattle.daide_grammar.proofs.Languages.{message-paired}
use Rattle.daide_grammar.proofs.laws.messages_are_paired.Goals as goal

pub returns : goal.returns
returns c = message-paired
