use Rattle.std.proofs.Common.{Bool, ap, refl, sym}
use Rattle.std.specs.Prelude.{◌||◌}
use Rattle.daide_sockets.specs.Clock.{is_time_over}
use Rattle.daide_sockets.proofs.LingeringLemmas.{piece_dropped}
use Rattle.daide_sockets.proofs.lingering_close.LingeringClose.drops_last.Goals as goal

pub returns-then-is_last : goal.returns-then-is_last
returns-then-is_last g c =
    let piece = c.drop_piece-is_last.ensures in
    let late = is_time_over c.args.now c.self.inside.released_at in
    piece_dropped g.S.Duplex.to_give g.S.Duplex.taken g.S.Duplex.calls c.args.now _ _ _ piece.dropped.0 piece.pulled.0
    _ late _ c.self.view_is piece.dropped.1 piece.dropped.2 piece.unwritten piece.failed refl refl refl piece.pulled.1
    piece.pulled.2 piece.pulled.3 refl (ap (λ (b : Bool). b || late) (sym c.if-is_last.true))

pub returns : goal.returns
returns g c =
    let piece = c.drop_piece-is_last.ensures in
    let late = c.is_time_over.result in
    piece_dropped g.S.Duplex.to_give g.S.Duplex.taken g.S.Duplex.calls c.args.now _ _ _ piece.dropped.0 piece.pulled.0
    _ late _ c.self.view_is piece.dropped.1 piece.dropped.2 piece.unwritten piece.failed refl refl refl piece.pulled.1
    piece.pulled.2 piece.pulled.3 c.is_time_over.ensures (ap (λ (b : Bool). b || late) (sym c.if-is_last.false))
