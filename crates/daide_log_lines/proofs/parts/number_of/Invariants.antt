use Rattle.std.proofs.Common.{◌≡◌, length}
use Rattle.daide_log_lines.specs.LogLine.{number_on}
use Rattle.daide_log_lines.proofs.parts.number_of.Given as goal

-- the number so far, continued by the digits that are left, is that of all digits
abbrev pub invariant-loop-rest : goal.invariant-loop-rest
invariant-loop-rest l = number_on l.number l.rest ≡ number_on 0 l.fn.digits

abbrev pub decreases-loop-rest : goal.decreases-loop-rest
decreases-loop-rest l = length l.rest
