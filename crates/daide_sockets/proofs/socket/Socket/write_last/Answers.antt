use Rattle.std.proofs.Common.{refl, arith}
use Rattle.daide_sockets.proofs.socket.Socket.write_last.Goals as goal

-- the peer took a byte
pub returns-then-queued_len-before-clause-tries : goal.returns-then-queued_len-before-clause-tries
returns-then-queued_len-before-clause-tries g c =
    let flushed = c.flush_at.ensures in
    let less = c.if-queued_len-before.true in
    let before = c.queued_len-before.ensures in
    let after = c.queued_len.ensures in
    record {
      tried = c.flush_at.new.self.stream;
      written = flushed.written;
      nothing = λ over. ((flushed.nothing over).0, flushed.unasked over);
      takes = λ took. refl;
      gives_up = λ none. absurd (omega (arith, none, less, before, after));
    }

-- it took none, and is given up
pub returns-clause-tries : goal.returns-clause-tries
returns-clause-tries g c =
    let flushed = c.flush_at.ensures in
    let kept = c.if-queued_len-before.false in
    let before = c.queued_len-before.ensures in
    let after = c.queued_len.ensures in
    record {
      tried = c.flush_at.new.self.stream;
      written = flushed.written;
      nothing = λ over. ((flushed.nothing over).0, flushed.unasked over);
      takes = λ took. absurd (omega (arith, took, kept, before, after));
      gives_up = λ none. c.give_up.ensures;
    }
