use Rattle.std.proofs.Common.{refl}
use Rattle.daide_sockets.specs.Accepting.{HasDescriptors, LacksDescriptors}
use Rattle.daide_sockets.proofs.poller.Poller.accept.Goals as goal

pub returns-in-Ok-clause-calls : goal.returns-in-Ok-clause-calls
returns-in-Ok-clause-calls g c = HasDescriptors c.check_descriptors.new.self (rw c.in-Ok.is at c.check_descriptors.ensures) c.accept.ensures

pub returns-in-Err-clause-calls : goal.returns-in-Err-clause-calls
returns-in-Err-clause-calls g c = LacksDescriptors c.in-Err.error (rw c.in-Err.is at c.check_descriptors.ensures) refl
