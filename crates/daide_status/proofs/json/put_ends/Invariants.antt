use Rattle.std.proofs.Common.{◌≡◌, ◌++◌, take}
use Rattle.std.specs.List.{flat_map}
use Rattle.daide_status.specs.Counts.{end_count, other_causes}
use Rattle.daide_status.specs.Json.{json_further}
use Rattle.daide_status.proofs.json.put_ends.Given as goal

abbrev pub invariant-loop-cause : goal.invariant-loop-cause
invariant-loop-cause g l =
    l.out.items ≡ l.initial.out.items
    ++ flat_map (λ cause. json_further cause (end_count cause l.ends)) (take l.cause-index other_causes)
