use Rattle.std.proofs.Common.{◌∙◌, ap, length, arith, refl}
use Rattle.daide_sockets.proofs.LingeringLemmas.{lingers_here, leaves_here, remove_set}
use Rattle.daide_sockets.proofs.RowLemmas.{one_gone, one_stays}
use Rattle.daide_sockets.proofs.lingering_close.ClosingSockets.look_at.Goals as goal

pub returns-then-goes_on-clause-looks : goal.returns-then-goes_on-clause-looks
returns-then-goes_on-clause-looks g c =
    let len = ap length c.self.view_is in
    let inside = c.requires in
    lingers_here g.S.Duplex.to_give g.S.Duplex.taken g.S.Duplex.calls c.args.now c.self.inside.sockets.items c.args.self.now _ c.args.at
    c.index_mut-closing.result.now c.goes_on.new.self c.self.view_is (omega (arith, len, inside))
    c.index_mut-closing.ensures.value refl (_, c.goes_on.ensures.lingers c.if-goes_on.true)

pub returns-clause-looks : goal.returns-clause-looks
returns-clause-looks g c =
    let len = ap length c.self.view_is in
    let inside = c.requires in
    leaves_here g.S.Duplex.to_give g.S.Duplex.taken g.S.Duplex.calls c.args.now c.self.inside.sockets.items c.args.self.now _ c.args.at
    c.index_mut-closing.result.now c.goes_on.new.self c.self.view_is (omega (arith, len, inside))
    c.index_mut-closing.ensures.value c.remove.ensures.items (_, c.goes_on.ensures.leaves c.if-goes_on.false)

pub returns-then-goes_on-clause-rows : goal.returns-then-goes_on-clause-rows
returns-then-goes_on-clause-rows g c =
    let len = ap length c.self.view_is in
    let inside = c.requires in
    one_stays _ _ c.self.inside.sockets.items c.args.self.now c.args.at c.index_mut-closing.result.now c.goes_on.new.self
    c.self.view_is (omega (arith, len, inside)) c.index_mut-closing.ensures.value c.goes_on.ensures.key
    (c.goes_on.ensures.stays c.if-goes_on.true)

pub returns-clause-rows : goal.returns-clause-rows
returns-clause-rows g c =
    let len = ap length c.self.view_is in
    let inside = c.requires in
    one_gone _ _ c.self.inside.sockets.items c.args.self.now _ c.args.at c.index_mut-closing.result.now c.self.view_is
    (omega (arith, len, inside)) c.index_mut-closing.ensures.value
    (c.remove.ensures.items ∙ remove_set g.S.Duplex.to_give g.S.Duplex.taken g.S.Duplex.calls c.args.now _ c.args.at c.goes_on.new.self)
    (c.goes_on.ensures.frees c.if-goes_on.false)
