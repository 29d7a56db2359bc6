use Rattle.std.proofs.Common.{refl}
use Rattle.daide_buffered_io.proofs.BufferLemmas.{of_view, still_passes}
use Rattle.daide_buffered_io.proofs.buffered.Buffered.end_writing.Goals as goal

pub returns-clause-passes : goal.returns-clause-passes
returns-clause-passes g c =
    of_view g.S.Duplex.to_give g.S.Duplex.taken _ _ _ _ _ c.self.view_is
    (still_passes g.S.Duplex.to_give g.S.Duplex.taken _ _
    (record { read_buffer = refl; gives = c.end_writing.ensures.apart })
    (record { write_buffer = refl; takes = c.end_writing.ensures.taken }))
