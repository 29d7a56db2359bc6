use Rattle.std.proofs.Common.{◌≡◌, ◌++◌, take}
use Rattle.std.specs.List.{flat_map}
use Rattle.std.specs.Fmt.{decimal}
use Rattle.daide_protocol.specs.Account.{all_counters, side_count}
use Rattle.daide_status.specs.Columns.{counter_width}
use Rattle.daide_status.specs.Pieces.{cell}
use Rattle.daide_status.proofs.table.put_side.Given as goal

abbrev pub invariant-loop-counter : goal.invariant-loop-counter
invariant-loop-counter g l =
    l.out.items ≡ l.initial.out.items
    ++ flat_map (λ counter. cell (counter_width counter) (decimal (side_count counter l.counts))) (take l.counter-index all_counters)
