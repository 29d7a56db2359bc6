use Rattle.daide_log.proofs.Common.{◌≡◌, ◌+◌, ◌++◌, length, map, take}
use Rattle.daide_log.specs.RecordItem.{printable}
use Rattle.daide_log.proofs.comment.put_address.Given as goal

abbrev pub invariant-loop-i : goal.invariant-loop-i
invariant-loop-i l =
    (l.line.items ≡ l.initial.line.items ++ map printable (take l.i l.bytes))
    × (length l.line.items ≡ length l.initial.line.items + l.i)
