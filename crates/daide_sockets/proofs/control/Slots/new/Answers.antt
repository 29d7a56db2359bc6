use Rattle.std.proofs.Common.{◌≡◌, Bool, List, Option, true, ap, ◌∙◌, arith}
use Rattle.daide_sockets.specs.ControlSlots.{are_places_free}
use Rattle.daide_sockets.specs.declared.control_connection.ControlConnection.{ControlConnection}
use Rattle.daide_sockets.proofs.ControlLemmas.{one_more_free}
use Rattle.daide_sockets.proofs.control.Slots.new.Goals as goal

pub push_reserved-requires : goal.push_reserved-requires
push_reserved-requires g c =
    let so_far = c.loop-place.invariant in
    let below = c.loop-place-test.true in
    omega (arith, so_far.count, so_far.room, below)

pub loop-place-preserved : goal.loop-place-preserved
loop-place-preserved g c =
    let so_far = c.loop-place.invariant in
    record {
      free = ap (λ (l : List (Option (ControlConnection g.row.S.Denot))). are_places_free l) c.push_reserved.ensures.items
          ∙ one_more_free c.loop-place.places.items so_far.free;
      count = let same = c.push_reserved.ensures.len in omega (arith, same, so_far.count);
      room = let same = c.push_reserved.ensures.capacity in omega (arith, same, so_far.room);
    }
