use Rattle.daide_settings.proofs.Common.{◌≡◌, ◌+◌, ◌≤◌, length, items_view}
use Rattle.daide_settings.specs.Parts.{mistyped_part}
use Rattle.daide_settings.proofs.settings.parts.mistyped_part.Given as goal

-- the part among the entries left is that among all
abbrev pub invariant-loop-rest : goal.invariant-loop-rest
invariant-loop-rest l = record {
  same : mistyped_part l.place (items_view l.rest) ≡ mistyped_part 0 (items_view l.entries);
  few : l.place + length l.rest ≤ length l.entries;
}

abbrev pub decreases-loop-rest : goal.decreases-loop-rest
decreases-loop-rest l = length l.rest
