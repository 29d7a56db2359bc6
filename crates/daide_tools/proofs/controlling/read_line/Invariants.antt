use Rattle.std.specs.Io.KnownBytes.{Consumes}
use Rattle.daide_tools.proofs.controlling.read_line.Given as goal

-- the stream gave the bytes of the line so far
abbrev pub invariant-loop : goal.invariant-loop
invariant-loop g l = Consumes (g.S.Read.remaining l.fn.stream) (g.S.Read.remaining l.stream) l.line.items
