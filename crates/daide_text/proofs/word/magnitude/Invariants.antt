use Rattle.std.proofs.Common.{◌≡◌, ◌≤◌, ◌<◌, length}
use Rattle.std.specs.List.{list_all}
use Rattle.daide_text.specs.Word.{greatest_magnitude, is_digit, value_after}
use Rattle.daide_text.proofs.word.magnitude.Given as goal

-- the characters before the rest are digits, and the value so far, continued by the rest, is that of all
abbrev pub invariant-loop-rest : goal.invariant-loop-rest
invariant-loop-rest l = record {
  some : 0 < length l.digits;
  digits : list_all is_digit l.digits ≡ list_all is_digit l.rest;
  value : value_after 0 l.digits ≡ value_after l.value l.rest;
  bound : l.value ≤ greatest_magnitude;
}

abbrev pub decreases-loop-rest : goal.decreases-loop-rest
decreases-loop-rest l = length l.rest
