use Rattle.daide_settings.proofs.Common.{◌≡◌, ◌+◌, ◌≤◌, length}
use Rattle.daide_settings.specs.Ranges.{count_at}
use Rattle.daide_settings.proofs.settings.ranges.count_at.Given as goal

-- those counted so far, and those of the rest, are all; and there are at most as many as hosts passed
abbrev pub invariant-loop-rest : goal.invariant-loop-rest
invariant-loop-rest l = record {
  counted : l.count + count_at l.host l.rest ≡ count_at l.host l.present;
  few : l.count + length l.rest ≤ length l.present;
}

abbrev pub decreases-loop-rest : goal.decreases-loop-rest
decreases-loop-rest l = length l.rest
