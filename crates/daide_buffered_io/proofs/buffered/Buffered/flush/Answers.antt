use Rattle.std.proofs.Common.{rules, refl, sym, ◌≡◌}
use Rattle.daide_buffered_io.specs.Buffers.{buffered_bytes}
use Rattle.daide_buffered_io.proofs.BufferLemmas.{of_view, still_passes, drain_passes}
use Rattle.daide_buffered_io.proofs.CallLemmas.{one_put}
use Rattle.daide_buffered_io.proofs.buffered.Buffered.flush.Goals as goal

pub returns-then-self-clause-passes : goal.returns-then-self-clause-passes
returns-then-self-clause-passes g c =
    still_passes g.S.Duplex.to_give g.S.Duplex.taken _ _ (record { read_buffer = refl; gives = refl })
    (record { write_buffer = refl; takes = refl })

pub returns-in_default-clause-passes : goal.returns-in_default-clause-passes
returns-in_default-clause-passes g c =
    of_view g.S.Duplex.to_give g.S.Duplex.taken _ _ _ _ _ c.self.view_is
    (still_passes g.S.Duplex.to_give g.S.Duplex.taken _ _ (record { read_buffer = refl; gives = refl })
    (record { write_buffer = search rules; takes = refl }))

pub returns-clause-passes : goal.returns-clause-passes
returns-clause-passes g c =
    let same : buffered_bytes c.self.inside.write_buffer ≡ c.in-Some.storage.bytes = search rules in
    of_view g.S.Duplex.to_give g.S.Duplex.taken _ _ _ _ _ c.self.view_is
    (drain_passes g.S.Duplex.to_give g.S.Duplex.taken _ _ c.drain.result c.in-Some.storage.bytes c.drain.new.self.bytes
    same c.kept.ensures.bytes c.drain.ensures.taken c.drain.ensures.rest
    (record { read_buffer = refl; gives = c.drain.ensures.apart }))

pub returns-clause-writes : goal.returns-clause-writes
returns-clause-writes g c =
    rw (sym c.self.view_is) (one_put g.S.Duplex.calls c.in-Some.storage.bytes _ _ _ _ _ c.drain.ensures.asked)
