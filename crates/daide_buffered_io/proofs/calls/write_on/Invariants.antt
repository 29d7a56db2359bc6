-- Loop invariant: all writes so far were interrupted and moved no byte.
use Rattle.std.proofs.Common.{◌≡◌, replicate}
use Rattle.std.specs.Io.KnownBytes.{Keeps}
use Rattle.daide_io.specs.Ports.{AppendsTo}
use Rattle.daide_io.specs.Streams.{Written}
use Rattle.daide_io.specs.declared.outcome.IoResult.TheVariants.{Interrupted}
use Rattle.daide_buffered_io.proofs.calls.write_on.Given as goal

abbrev pub invariant-loop : goal.invariant-loop
invariant-loop g l =
    Keeps (g.S.Duplex.taken l.fn.stream) (g.S.Duplex.taken l.stream)
    × (g.S.Duplex.to_give l.stream ≡ g.S.Duplex.to_give l.fn.stream)
    × AppendsTo (g.S.Duplex.calls l.fn.stream) (replicate l.counter (Written l.fn.bytes Interrupted))
    (g.S.Duplex.calls l.stream)
