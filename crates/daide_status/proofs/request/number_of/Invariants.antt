use Rattle.std.proofs.Common.{◌≡◌, length}
use Rattle.daide_status.specs.Requests.{continued_number}
use Rattle.daide_status.proofs.request.number_of.Given as goal

-- the number so far, continued by the digits that are left, is that of all digits
abbrev pub invariant-loop-rest : goal.invariant-loop-rest
invariant-loop-rest l = continued_number l.number l.rest ≡ continued_number 0 l.fn.digits

abbrev pub decreases-loop-rest : goal.decreases-loop-rest
decreases-loop-rest l = length l.rest
