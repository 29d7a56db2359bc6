use Rattle.daide_settings.proofs.Common.{◌≡◌, length}
use Rattle.daide_settings.specs.Addresses.{ends_in_port}
use Rattle.daide_settings.proofs.settings.address.ends_in_port.Given as goal

-- no colon passed so far has a port after it
abbrev pub invariant-loop-rest : goal.invariant-loop-rest
invariant-loop-rest l = ends_in_port l.rest ≡ ends_in_port l.text

abbrev pub decreases-loop-rest : goal.decreases-loop-rest
decreases-loop-rest l = length l.rest
