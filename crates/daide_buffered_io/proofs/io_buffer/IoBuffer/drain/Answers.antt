use Rattle.std.proofs.Common.{ℕ, List, subst, arith}
use Rattle.daide_io.specs.declared.ports.Put.TheVariants.{Took, Failed}
use Rattle.daide_buffered_io.specs.Calls.{IsPut}
use Rattle.daide_buffered_io.proofs.CallLemmas.{whole_put}
use Rattle.daide_buffered_io.proofs.io_buffer.IoBuffer.drain.Goals as goal

pub returns-in-Took-clause-asked : goal.returns-in-Took-clause-asked
returns-in-Took-clause-asked g c =
    subst (λ (l : List ℕ). IsPut g.S.Duplex.calls l c.args.readiness.now c.args.stream.now (Took c.in-Took.taken)
    c.put_to.new.readiness c.put_to.new.stream) c.as_slice.ensures.value
    (whole_put g.S.Duplex.calls c.as_slice.result.now 16384 _ _ _ _ _ (omega (arith, c.as_slice.ensures.few))
    c.in-Took.ensures.asked)

pub returns-in-Failed-clause-asked : goal.returns-in-Failed-clause-asked
returns-in-Failed-clause-asked g c =
    subst (λ (l : List ℕ). IsPut g.S.Duplex.calls l c.args.readiness.now c.args.stream.now Failed
    c.put_to.new.readiness c.put_to.new.stream) c.as_slice.ensures.value
    (whole_put g.S.Duplex.calls c.as_slice.result.now 16384 _ _ _ _ _ (omega (arith, c.as_slice.ensures.few))
    c.in-Failed.ensures.asked)
