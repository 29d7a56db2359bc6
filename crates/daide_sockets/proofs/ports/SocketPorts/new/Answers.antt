use Rattle.std.proofs.Common.{rules}
use Rattle.daide_sockets.proofs.SocketLemmas.{begins_so}
use Rattle.daide_sockets.proofs.ports.SocketPorts.new.Goals as goal

pub returns-clause-begins : goal.returns-clause-begins
returns-clause-begins g c = begins_so _ _ _ (search rules) (search rules) (search rules) (search rules) (search rules)
    (search rules) (search rules) (search rules)
