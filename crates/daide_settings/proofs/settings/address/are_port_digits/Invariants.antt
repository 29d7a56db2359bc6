use Rattle.daide_settings.proofs.Common.{◌≡◌, ◌≤◌, length}
use Rattle.daide_settings.specs.Addresses.{are_port_digits, most_port}
use Rattle.daide_settings.proofs.settings.address.are_port_digits.Given as goal

-- the result of the remaining digits is that of all
abbrev pub invariant-loop-rest : goal.invariant-loop-rest
invariant-loop-rest l = record {
  same : are_port_digits l.number l.rest ≡ are_port_digits l.fn.number l.digits;
  small : l.number ≤ most_port;
}

abbrev pub decreases-loop-rest : goal.decreases-loop-rest
decreases-loop-rest l = length l.rest
