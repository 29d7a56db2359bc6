use Rattle.std.proofs.Common.{ℕ, subst, refl, ◌∙◌, arith}
use Rattle.daide_sockets.specs.Lingering.{LooksAlong, in_pass}
use Rattle.daide_sockets.proofs.LingeringLemmas.{around, round_ends}
use Rattle.daide_sockets.proofs.lingering_close.Closings.look_around.Goals as goal

pub returns-clause-looks : goal.returns-clause-looks
returns-clause-looks g c =
    let to = c.min-to.ensures in
    let before = c.len.ensures.count in
    let behind = c.len-2.ensures.count in
    let ends = round_ends g.S.Duplex.to_give g.S.Duplex.taken g.S.Duplex.calls c.args.now _ _ _ c.self.inside.pass_end _ _
    c.look_along-self-inside.ensures.looks (omega (arith, to)) c.self.invariant.1 in
    let counted = ends.1 in
    around g.S.Duplex.to_give g.S.Duplex.taken g.S.Duplex.calls c.args.now (in_pass c.args.self.now) _ _
    (c.self.view_is ∙ c.begin_pass.ensures)
    (subst (λ (n : ℕ). LooksAlong g.S.Duplex.to_give g.S.Duplex.taken g.S.Duplex.calls c.args.now c.self.inside.next n
    c.self.inside.sockets c.look_along-self-inside.result c.look_along-self-inside.new.self) to
    c.look_along-self-inside.ensures.looks)
    (omega (arith, counted, before, behind)) refl
