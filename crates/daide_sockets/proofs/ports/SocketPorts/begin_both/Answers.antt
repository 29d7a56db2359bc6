use Rattle.daide_sockets.proofs.ports.SocketPorts.begin_both.Goals as goal

pub returns-clause-bot_writes : goal.returns-clause-bot_writes
returns-clause-bot_writes g c = rw c.at_mut.ensures.value at c.begin_turn.ensures.writes

pub returns-clause-server_writes : goal.returns-clause-server_writes
returns-clause-server_writes g c = rw c.at_mut-2.ensures.value at c.begin_turn-2.ensures.writes
