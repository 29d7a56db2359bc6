use Rattle.std.proofs.Common.{◌≡◌, ◌++◌, take}
use Rattle.std.specs.List.{flat_map}
use Rattle.daide_status.specs.Counts.{all_causes, end_count}
use Rattle.daide_status.specs.Totals.{end_sample}
use Rattle.daide_status.proofs.totals.put_end_samples.Given as goal

abbrev pub invariant-loop-cause : goal.invariant-loop-cause
invariant-loop-cause g l =
    l.out.items ≡ l.initial.out.items
    ++ flat_map (λ cause. end_sample cause (end_count cause l.ends)) (take l.cause-index all_causes)
