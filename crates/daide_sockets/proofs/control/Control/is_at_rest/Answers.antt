use Rattle.std.proofs.Common.{sym, ◌∙◌}
use Rattle.daide_sockets.proofs.AtRestLemmas.{rest_armed}
use Rattle.daide_sockets.proofs.control.Control.is_at_rest.Goals as goal

pub returns-then-listener_rests-clause-armed : goal.returns-then-listener_rests-clause-armed
returns-then-listener_rests-clause-armed g c = λ free.
    rest_armed c.args.table.now c.args.self.now (rw c.as_slice.ensures at (sym c.are_places_free.ensures ∙ free))
    (c.listener_rests.ensures.armed c.if-listener_rests.true)
