use Rattle.std.proofs.Common.{◌≢◌}
use Rattle.daide_sockets.specs.declared.addresses.AddressFault.TheVariants.{Unknown}
use Rattle.daide_sockets.proofs.addresses.try_connect.Given as goal

-- no fault so far calls the name unknown
abbrev pub invariant-loop-place : goal.invariant-loop-place
invariant-loop-place g l = l.cause ≢ Unknown
