use Rattle.daide_log.proofs.Common.{◌≡◌, ◌+◌, ◌++◌, length, take}
use Rattle.daide_log.proofs.report.put.Given as goal

-- the bytes before i were appended to the line
abbrev pub invariant-loop-i : goal.invariant-loop-i
invariant-loop-i l =
    (l.line.items ≡ l.initial.line.items ++ take l.i l.text)
    × (length l.line.items ≡ length l.initial.line.items + l.i)
