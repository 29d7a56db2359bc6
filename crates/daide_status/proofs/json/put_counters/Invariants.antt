use Rattle.std.proofs.Common.{◌≡◌, ◌++◌, take}
use Rattle.std.specs.List.{flat_map}
use Rattle.daide_protocol.specs.Account.{all_counters, side_count}
use Rattle.daide_protocol.specs.AccountText.{counter_name}
use Rattle.daide_status.specs.Json.{json_sides}
use Rattle.daide_status.proofs.json.put_counters.Given as goal

abbrev pub invariant-loop-counter : goal.invariant-loop-counter
invariant-loop-counter g l =
    l.out.items ≡ l.initial.out.items
    ++ flat_map (λ counter. json_sides (counter_name counter) (side_count counter l.bot) (side_count counter l.server))
    (take l.counter-index all_counters)
