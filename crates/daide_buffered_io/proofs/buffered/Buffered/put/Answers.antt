use Rattle.daide_buffered_io.proofs.BufferLemmas.{same_passes, then_flush}
use Rattle.daide_buffered_io.proofs.CallLemmas.{puts_then}
use Rattle.daide_buffered_io.proofs.buffered.Buffered.put.Goals as goal

pub returns-then-self-clause-passes : goal.returns-then-self-clause-passes
returns-then-self-clause-passes g c = same_passes g.S.Duplex.to_give g.S.Duplex.taken _

pub returns-clause-passes : goal.returns-clause-passes
returns-clause-passes g c =
    then_flush g.S.Duplex.to_give g.S.Duplex.taken _ _ _ _ c.take_behind-put.ensures.passes c.flush.ensures.passes

pub returns-clause-writes : goal.returns-clause-writes
returns-clause-writes g c =
    puts_then g.S.Duplex.calls _ _ _ _ _ _ c.take_behind-put.ensures.writes c.flush.ensures.writes
