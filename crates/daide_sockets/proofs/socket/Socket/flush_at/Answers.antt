use Rattle.daide_sockets.proofs.SocketLemmas.{same_in_time, same_unread}
use Rattle.daide_sockets.proofs.socket.Socket.flush_at.Goals as goal

pub returns-clause-written : goal.returns-clause-written
returns-clause-written g c = λ h.
    rw (c.note_written.ensures.stream, c.note_written.ensures.readiness) (c.flush.ensures.written h.0 h.1)

pub returns-then-not-has_queued-clause-stays : goal.returns-then-not-has_queued-clause-stays
returns-then-not-has_queued-clause-stays g c = same_unread g.S.Duplex.calls c.args.self.now

pub returns-then-not-has_queued-clause-in_time : goal.returns-then-not-has_queued-clause-in_time
returns-then-not-has_queued-clause-in_time g c = same_in_time c.args.now c.args.self.now
