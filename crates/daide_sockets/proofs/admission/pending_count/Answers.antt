use Rattle.std.proofs.Common.{◌≡◌, List, Option, drop, ap, arith}
use Rattle.std.proofs.lemmas.List.{drop_all}
use Rattle.daide_sockets.specs.Pairing.{Arriving, pending_connects}
use Rattle.daide_sockets.proofs.PairingLemmas.{counts_next}
use Rattle.daide_sockets.proofs.admission.pending_count.Goals as goal
use Rattle.daide_sockets.proofs.admission.pending_count.Goals.{then-is_some, else-is_some}

pub loop-arrival-preserved : goal.loop-arrival-preserved
loop-arrival-preserved g c =
    let counted = c.loop-arrival.invariant.counted in
    let few = c.loop-arrival.invariant.few in
    let next = counts_next c.args.arrivals.now c.loop-arrival.arrival-index c.arrival-item.result c.is_some.result
    c.loop-arrival-test.true c.arrival-item.is c.is_some.ensures in
    elim c.if-is_some.branch [
      | then-is_some w ↦ let yes = w.if-is_some.true in
          rw w.count-is (record { counted = let one = next.0 yes in omega (arith, counted, one); few = omega (arith, few) })
      | else-is_some w ↦ let no = w.if-is_some.false in
          rw w.count-is (record { counted = let none = next.1 no in omega (arith, counted, none); few = omega (arith, few) })
    ]

pub returns : goal.returns
returns g c =
    let counted = c.loop-arrival.invariant.counted in
    let rest : pending_connects (drop c.loop-arrival.arrival-index c.args.arrivals.now) ≡ 0 =
    ap (λ (l : List (Option (Arriving g.row.S.Denot))). pending_connects l)
    (drop_all c.loop-arrival.arrival-index c.args.arrivals.now c.loop-arrival-test.false) in
    omega (arith, counted, rest)
