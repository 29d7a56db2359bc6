use Rattle.daide_reader.proofs.Common.{◌≡◌, ◌≤◌, ◌+◌, Some, drop, tokens_of, count_all}
use Rattle.daide_reader.proofs.slice.count_from.Given as goal

-- the count so far, continued over the rest, is the whole count
abbrev pub invariant-loop-i : goal.invariant-loop-i
invariant-loop-i l = record {
  few : l.opened ≤ 32767 + l.i;
  left : count_all (Some l.opened) (drop l.i (tokens_of l.body))
      ≡ count_all l.fn.unclosed (drop l.next (tokens_of l.body));
}
