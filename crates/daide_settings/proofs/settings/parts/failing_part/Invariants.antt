use Rattle.daide_settings.proofs.Common.{◌≡◌, ◌+◌, ◌≤◌, length, items_view}
use Rattle.daide_settings.specs.Parts.{failing_part}
use Rattle.daide_settings.proofs.settings.parts.failing_part.Given as goal

-- the part among the values left is that among all
abbrev pub invariant-loop-rest : goal.invariant-loop-rest
invariant-loop-rest l = record {
  same : failing_part l.by_type l.place (items_view l.rest) ≡ failing_part l.by_type 0 (items_view l.values);
  few : l.place + length l.rest ≤ length l.values;
}

abbrev pub decreases-loop-rest : goal.decreases-loop-rest
decreases-loop-rest l = length l.rest
