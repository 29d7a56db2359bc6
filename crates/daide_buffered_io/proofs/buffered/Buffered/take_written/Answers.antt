use Rattle.std.proofs.Common.{rules, refl, sym, ◌≡◌, [], ap, ◌∙◌}
use Rattle.daide_buffered_io.specs.Buffers.{Buffer, buffered_bytes}
use Rattle.daide_buffered_io.proofs.BufferLemmas.{of_view, drain_passes, held_passes, flush_then}
use Rattle.daide_buffered_io.proofs.CallLemmas.{one_put, puts_then}
use Rattle.daide_buffered_io.proofs.buffered.Buffered.take_written.Goals as goal

pub returns-then-eq-clause-passes : goal.returns-then-eq-clause-passes
returns-then-eq-clause-passes g c =
    let with_held : Buffer g.row.S.Denot → Buffer g.row.S.Denot = λ b. record b { write_buffer = c.args.storage.bytes } in
    of_view g.S.Duplex.to_give g.S.Duplex.taken _ _ _ _ _ (ap with_held c.self.view_is)
    (drain_passes g.S.Duplex.to_give g.S.Duplex.taken _ _ c.drain.result c.args.storage.bytes c.drain.new.self.bytes
    refl c.kept.ensures.bytes c.drain.ensures.taken c.drain.ensures.rest
    (record { read_buffer = refl; gives = c.drain.ensures.apart }))

pub returns-in-Some-clause-passes : goal.returns-in-Some-clause-passes
returns-in-Some-clause-passes g c =
    let with_held : Buffer g.row.S.Denot → Buffer g.row.S.Denot = λ b. record b { write_buffer = c.args.storage.bytes } in
    let left = c.in-Some.left.bytes in
    let between : Buffer g.row.S.Denot =
    record {
      stream = c.drain.new.stream;
      read_buffer = buffered_bytes c.self.inside.read_buffer;
      write_buffer = left;
      has_failed = c.self.inside.has_failed;
    } in
    of_view g.S.Duplex.to_give g.S.Duplex.taken _ _ _ _ _ (ap with_held c.self.view_is)
    (flush_then g.S.Duplex.to_give g.S.Duplex.taken _ between _ _
    (drain_passes g.S.Duplex.to_give g.S.Duplex.taken _ between c.drain.result c.args.storage.bytes left refl refl
    c.drain.ensures.taken (c.in-Some.ensures.bytes ∙ c.drain.ensures.rest)
    (record { read_buffer = refl; gives = c.drain.ensures.apart }))
    (held_passes g.S.Duplex.to_give g.S.Duplex.taken between _ _ c.hold.ensures.rest.0 c.hold.ensures.rest.1
    c.hold.ensures.write_buffer))

pub returns-in-None-clause-passes : goal.returns-in-None-clause-passes
returns-in-None-clause-passes g c =
    let with_held : Buffer g.row.S.Denot → Buffer g.row.S.Denot = λ b. record b { write_buffer = c.args.storage.bytes } in
    let none : buffered_bytes c.self.inside.write_buffer ≡ [] = search rules in
    of_view g.S.Duplex.to_give g.S.Duplex.taken _ _ _ _ _ (ap with_held c.self.view_is)
    (flush_then g.S.Duplex.to_give g.S.Duplex.taken _ _ _ _
    (drain_passes g.S.Duplex.to_give g.S.Duplex.taken _ _ c.drain.result c.args.storage.bytes [] refl none
    c.drain.ensures.taken (c.in-None.ensures.bytes ∙ c.drain.ensures.rest)
    (record { read_buffer = refl; gives = c.drain.ensures.apart })) c.take_first.ensures.passes)

pub returns-then-eq-clause-writes : goal.returns-then-eq-clause-writes
returns-then-eq-clause-writes g c =
    rw (sym c.self.view_is) (one_put g.S.Duplex.calls c.args.storage.bytes _ _ _ _ _ c.drain.ensures.asked)

pub returns-in-Some-clause-writes : goal.returns-in-Some-clause-writes
returns-in-Some-clause-writes g c =
    rw (sym c.self.view_is, c.hold.ensures.rest.0)
    (one_put g.S.Duplex.calls c.args.storage.bytes _ _ _ _ _ c.drain.ensures.asked)

pub returns-in-None-clause-writes : goal.returns-in-None-clause-writes
returns-in-None-clause-writes g c =
    rw (sym c.self.view_is) (puts_then g.S.Duplex.calls _ _ _ _ _ _
    (one_put g.S.Duplex.calls c.args.storage.bytes _ _ _ _ _ c.drain.ensures.asked) c.take_first.ensures.writes)
