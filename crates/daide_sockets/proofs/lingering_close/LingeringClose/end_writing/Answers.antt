use Rattle.std.proofs.Common.{[], ap, sym, refl, inl, inr, subst, ◌∙◌, rules}
use Rattle.daide_buffered_io.specs.Buffers.{Passes, ReadsNothing}
use Rattle.daide_buffered_io.proofs.BufferLemmas.{flush_then, unread_then}
use Rattle.daide_sockets.specs.Lingering.{ClosingStream, IsWriting}
use Rattle.daide_sockets.proofs.lingering_close.LingeringClose.end_writing.Goals as goal

pub returns-then-has_queued-clause-writes : goal.returns-then-has_queued-clause-writes
returns-then-has_queued-clause-writes g c = record {
  tried = c.write_on.new.self;
  tries = c.write_on.ensures.tries;
  write_buffer = refl;
  failed = refl;
  key = refl;
  known = refl;
  stall_time = refl;
  stalls_at = refl;
  flushes = (c.write_on.ensures.passes, c.write_on.ensures.unread);
  quota = c.write_on.ensures.stays.0;
  closes_at = c.write_on.ensures.bound;
  stage = inl (
    subst (λ (o : ClosingStream g.row.S.Denot). IsWriting o.stream) c.self.view_is
        (c.has_queued.ensures.may c.if-has_queued.true, c.has_queued.ensures.some c.if-has_queued.true),
    c.write_on.ensures.stays.1,
  );
}

pub returns-clause-writes : goal.returns-clause-writes
returns-clause-writes g c =
    let tried = c.write_on.new.self in
    let last = c.shut_down.ensures in
    record {
      tried = tried;
      tries = c.write_on.ensures.tries;
      write_buffer = last.unwritten.write_buffer
          ∙ ap (λ (o : ClosingStream g.row.S.Denot). o.stream.write_buffer) c.self.view_is;
      failed = last.failed ∙ ap (λ (o : ClosingStream g.row.S.Denot). o.stream.has_failed) c.self.view_is;
      key = last.known.0 ∙ ap (λ (o : ClosingStream g.row.S.Denot). o.key) c.self.view_is;
      known = last.known.1 ∙ ap (λ (o : ClosingStream g.row.S.Denot). o.known) c.self.view_is;
      stall_time = last.stalls.0 ∙ ap (λ (o : ClosingStream g.row.S.Denot). o.stall_time) c.self.view_is;
      stalls_at = last.stalls.1 ∙ ap (λ (o : ClosingStream g.row.S.Denot). o.stalls_at) c.self.view_is;
      flushes = (
        flush_then g.S.Duplex.to_give g.S.Duplex.taken c.args.self.now.stream tried.stream c.shut_down.new.self.stream []
            c.write_on.ensures.passes
            (subst (λ (o : ClosingStream g.row.S.Denot). Passes g.S.Duplex.to_give g.S.Duplex.taken o.stream [] []
            c.shut_down.new.self.stream) c.self.view_is last.passes),
        unread_then g.S.Duplex.to_give g.S.Duplex.taken c.args.self.now.stream tried.stream c.shut_down.new.self.stream
            c.write_on.ensures.unread
            (subst (λ (o : ClosingStream g.row.S.Denot). ReadsNothing g.S.Duplex.to_give o.stream
            c.shut_down.new.self.stream) c.self.view_is last.unread),
      );
      quota = last.stays.0 ∙ ap (λ (o : ClosingStream g.row.S.Denot). o.quota) c.self.view_is ∙ c.write_on.ensures.stays.0;
      closes_at = last.bound ∙ ap (λ (o : ClosingStream g.row.S.Denot). o.closes_at) c.self.view_is ∙ c.write_on.ensures.bound;
      stage = inr (
        λ h. last.unwritten.write_buffer ∙ c.has_queued.ensures.none c.if-has_queued.false (sym last.failed ∙ h),
        search rules,
      );
    }
