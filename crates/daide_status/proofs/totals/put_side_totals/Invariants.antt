use Rattle.std.proofs.Common.{◌≡◌, ◌++◌, take}
use Rattle.std.specs.List.{flat_map}
use Rattle.daide_protocol.specs.Account.{all_counters, side_count}
use Rattle.daide_protocol.specs.AccountText.{counter_name}
use Rattle.daide_status.specs.Totals.{side_total}
use Rattle.daide_status.proofs.totals.put_side_totals.Given as goal

abbrev pub invariant-loop-counter : goal.invariant-loop-counter
invariant-loop-counter g l =
    l.out.items ≡ l.initial.out.items
    ++ flat_map (λ counter. side_total l.side (counter_name counter) (side_count counter l.counts)) (take l.counter-index all_counters)
