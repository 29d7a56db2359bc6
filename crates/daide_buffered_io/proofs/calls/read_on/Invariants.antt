-- Loop invariant: all reads so far were interrupted and moved no byte, and the buffer keeps its length.
use Rattle.std.proofs.Common.{◌≡◌, length, replicate}
use Rattle.std.specs.Io.KnownBytes.{Keeps}
use Rattle.daide_io.specs.Ports.{AppendsTo}
use Rattle.daide_io.specs.Streams.{Read}
use Rattle.daide_io.specs.declared.outcome.IoResult.TheVariants.{Interrupted}
use Rattle.daide_buffered_io.proofs.calls.read_on.Given as goal

abbrev pub invariant-loop : goal.invariant-loop
invariant-loop g l =
    (length l.buffer ≡ length l.fn.buffer) × Keeps (g.S.Duplex.to_give l.fn.stream) (g.S.Duplex.to_give l.stream)
    × (g.S.Duplex.taken l.stream ≡ g.S.Duplex.taken l.fn.stream)
    × AppendsTo (g.S.Duplex.calls l.fn.stream) (replicate l.counter (Read (length l.fn.buffer) Interrupted))
    (g.S.Duplex.calls l.stream)
