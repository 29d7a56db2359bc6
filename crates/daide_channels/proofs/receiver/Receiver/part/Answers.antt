use Rattle.daide_channels.proofs.Common.{rules}
use Rattle.daide_channels.proofs.receiver.Receiver.part.Goals as goal

pub returns-in-Some-Huh : goal.returns-in-Some-Huh
returns-in-Some-Huh g c = search rules
