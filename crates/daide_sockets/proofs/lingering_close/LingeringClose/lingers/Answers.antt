use Rattle.std.proofs.Common.{inr, subst}
use Rattle.daide_sockets.specs.Lingering.{ClosingStream, IsWritingOver}
use Rattle.daide_sockets.proofs.LingeringLemmas.{last_leaves}
use Rattle.daide_sockets.proofs.lingering_close.LingeringClose.lingers.Goals as goal

pub returns-clause-leaves : goal.returns-clause-leaves
returns-clause-leaves g c = λ e. inr (last_leaves g.S.Duplex.to_give g.S.Duplex.taken g.S.Duplex.calls c.args.now _ _ _
    c.drops_last.ensures e (subst (λ (o : ClosingStream g.row.S.Denot). IsWritingOver o.stream) c.self.view_is
    (c.has_queued.ensures.none c.if-has_queued.false)))
