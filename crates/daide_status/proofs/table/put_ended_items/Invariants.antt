use Rattle.std.proofs.Common.{◌≡◌, ◌++◌, take}
use Rattle.std.specs.List.{flat_map}
use Rattle.daide_status.specs.Columns.{ended_item}
use Rattle.daide_status.specs.Counts.{all_causes, end_count}
use Rattle.daide_status.proofs.table.put_ended_items.Given as goal

abbrev pub invariant-loop-cause : goal.invariant-loop-cause
invariant-loop-cause g l =
    l.out.items ≡ l.initial.out.items
    ++ flat_map (λ cause. ended_item cause (end_count cause l.ends)) (take l.cause-index all_causes)
