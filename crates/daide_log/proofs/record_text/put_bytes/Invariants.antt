use Rattle.daide_log.proofs.Common.{◌≡◌, ◌+◌, ◌*◌, ◌++◌, length, take, encode_upper}
use Rattle.daide_log.proofs.record_text.put_bytes.Given as goal

abbrev pub invariant-loop-i : goal.invariant-loop-i
invariant-loop-i l =
    (l.line.items ≡ l.initial.line.items ++ encode_upper (take l.i l.bytes))
    × (length l.line.items ≡ length l.initial.line.items + 2 * l.i)
