use Rattle.daide_buffered_io.proofs.BufferLemmas.{same_passes}
use Rattle.daide_sockets.proofs.lingering_close.LingeringClose.shut_down.Goals as goal

pub returns-then-not-is_written-clause-passes : goal.returns-then-not-is_written-clause-passes
returns-then-not-is_written-clause-passes g c = same_passes g.S.Duplex.to_give g.S.Duplex.taken _
