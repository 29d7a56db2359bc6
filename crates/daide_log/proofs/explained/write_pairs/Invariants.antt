use Rattle.daide_log.proofs.Common.{length, ◌≡◌, ◌++◌}
use Rattle.daide_log.specs.Explained.{pairs}
use Rattle.daide_log.proofs.explained.write_pairs.Given as goal

abbrev pub invariant-bytes : goal.invariant-bytes
invariant-bytes g l = l.text.items ++ pairs l.rest ≡ l.fn.text.items ++ pairs l.bytes

abbrev pub decreases-bytes : goal.decreases-bytes
decreases-bytes g l = length l.rest
