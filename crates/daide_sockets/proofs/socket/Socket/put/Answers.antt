use Rattle.std.proofs.Common.{rules}
use Rattle.daide_sockets.proofs.socket.Socket.put.Goals as goal

-- the timeouts of a put of which something, or nothing, was accepted
pub returns-else-count-eq0-clause-in_time : goal.returns-else-count-eq0-clause-in_time
returns-else-count-eq0-clause-in_time g c = record {
  kept = record {
    stall_time = search rules;
    silent_from = search rules;
    stall = search rules;
    failed = search rules;
  };
  stall = (rw (← c.queued_len-queued.ensures) c.note_put.ensures.waits, c.note_put.ensures.ends);
}
