use Rattle.daide_settings.proofs.Common.{◌≡◌, drop, length, items_view}
use Rattle.daide_settings.specs.Ranges.{named_or_range, ranges_of}
use Rattle.daide_settings.proofs.RangeItems.{further}
use Rattle.daide_settings.proofs.settings.allow.ranges_of.Given as goal

-- the result of the values left, after the ranges so far, is the result of all values
abbrev pub invariant-loop-value : goal.invariant-loop-value
invariant-loop-value l = record {
  judged : named_or_range (ranges_of (items_view l.values))
      ≡ further l.ranges.items (items_view (drop l.value-index l.values));
  counted : length l.ranges.items ≡ l.value-index;
}
