use Rattle.std.proofs.Common.{ap, length, arith, ◌∙◌}
use Rattle.daide_sockets.specs.Lingering.{ClosingStream}
use Rattle.daide_sockets.specs.Table.{freed}
use Rattle.daide_sockets.proofs.RowLemmas.{one_leaves}
use Rattle.daide_sockets.proofs.lingering_close.ClosingSockets.remove_first.Goals as goal

pub returns-clause-rows : goal.returns-clause-rows
returns-clause-rows g c =
    let len = ap length c.self.view_is in
    let inside = c.requires in
    one_leaves _ _ c.self.inside.sockets.items c.args.self.now _ 0 c.remove-oldest.result c.self.view_is
    (omega (arith, len, inside)) c.remove-oldest.ensures.value c.remove-oldest.ensures.items
    (c.release.ensures ∙ ap (λ (o : ClosingStream g.row.S.Denot). freed c.args.table.now o.key) c.oldest.view_is)
