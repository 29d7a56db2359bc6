use Rattle.std.proofs.Common.{List, Option, ap, ◌∙◌, arith}
use Rattle.daide_sockets.specs.Pairing.{Arriving, pending_connects}
use Rattle.daide_sockets.proofs.PairingLemmas.{none_more}
use Rattle.daide_sockets.proofs.system.beginning.no_arrivals.Goals as goal

pub push_reserved-requires : goal.push_reserved-requires
push_reserved-requires g c =
    let so_far = c.loop-place.invariant in
    let below = c.loop-place-test.true in
    omega (arith, so_far.count, so_far.room, below, c.loop-place.arrivals.ok.0)

pub loop-place-preserved : goal.loop-place-preserved
loop-place-preserved g c =
    let so_far = c.loop-place.invariant in
    record {
      free = ap (λ (l : List (Option (Arriving g.row.S.Denot))). pending_connects l) c.push_reserved.ensures.items
          ∙ none_more c.loop-place.arrivals.items so_far.free;
      count = let same = c.push_reserved.ensures.len in omega (arith, same, so_far.count);
      room = let same = c.push_reserved.ensures.capacity in omega (arith, same, so_far.room);
    }
