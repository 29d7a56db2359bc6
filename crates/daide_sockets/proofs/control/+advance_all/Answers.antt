use Rattle.std.proofs.Common.{◌≡◌, ℕ, ◌+◌, ◌<◌, ◌∷◌, length, ap, subst, nat_lt, arith, rules}
use Rattle.daide_sockets.specs.ControlSlots.{PlaceAdvances, PlacesAdvance, room_after}
use Rattle.daide_sockets.specs.Table.{control_connection_key, report_at}
use Rattle.daide_sockets.proofs.ControlLemmas.{control_then, later_advance, listener_beside, listener_then, one_row}
use Rattle.daide_sockets.proofs.control.+advance_all.Goals as goal

pub returns-clause-advances : goal.returns-clause-advances
returns-clause-advances g t c =
    let whole : c.args.places.now ≡ c.in-Some.place.now ∷ c.in-Some.rest.now = search rules in
    let few : c.args.number < 8 = let n = ap length whole in let most = c.requires in omega (arith, n, most) in
    let is = c.control_connection_key-key.ensures few in
    let left : c.room_after-left.result ≡ room_after c.args.room c.in-Some.place.now c.advance_place.new.place =
    rw (c.waits_in-waited.ensures, c.waits_in.ensures) at c.room_after-left.ensures in
    rw whole (
      subst (λ (key : ℕ). PlaceAdvances g.S.Duplex.to_give g.S.Duplex.taken g.S.Duplex.calls c.args.view.run.now
          c.args.view.present.now.bots.items (nat_lt 0 c.args.room) c.args.table.now.reading (report_at c.args.table.now key)
          c.in-Some.place.now c.advance_place.new.place) is c.advance_place.ensures.advances,
      later_advance g.S.Duplex.to_give g.S.Duplex.taken g.S.Duplex.calls c.args.view.run.now
          c.args.view.present.now.bots.items c.args.table.now c.advance_place.new.table c.control_connection_key-key.result
          c.args.number (c.args.number + 1) _ _ _ (omega arith) is c.advance_place.ensures.table
          (subst (λ (room : ℕ). PlacesAdvance g.S.Duplex.to_give g.S.Duplex.taken g.S.Duplex.calls c.args.view.run.now
          c.args.view.present.now.bots.items c.advance_place.new.table (c.args.number + 1) room c.in-Some.rest.now
          c.advance_all.new.places) left c.advance_all.ensures.advances),
    )

pub returns-clause-table : goal.returns-clause-table
returns-clause-table g t c =
    let whole : c.args.places.now ≡ c.in-Some.place.now ∷ c.in-Some.rest.now = search rules in
    let few : c.args.number < 8 = let n = ap length whole in let most = c.requires in omega (arith, n, most) in
    let is = c.control_connection_key-key.ensures few in
    control_then _ _ _ (one_row _ _ _ c.args.number few is c.advance_place.ensures.table) c.advance_all.ensures.table

pub returns-clause-listener : goal.returns-clause-listener
returns-clause-listener g t c =
    let whole : c.args.places.now ≡ c.in-Some.place.now ∷ c.in-Some.rest.now = search rules in
    let few : c.args.number < 8 = let n = ap length whole in let most = c.requires in omega (arith, n, most) in
    let is = c.control_connection_key-key.ensures few in
    let old = c.args.table.now in
    let mid = c.advance_place.new.table in
    let key = c.control_connection_key-key.result in
    listener_then old mid c.advance_all.new.table (one_row old mid key c.args.number few is c.advance_place.ensures.table)
    (listener_beside old mid key c.args.number is c.advance_place.ensures.table) c.advance_all.ensures.listener
