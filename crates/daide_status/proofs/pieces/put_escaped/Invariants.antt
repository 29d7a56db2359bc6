use Rattle.std.proofs.Common.{◌≡◌, ◌++◌, length}
use Rattle.std.specs.List.{flat_map}
use Rattle.daide_status.specs.Pieces.{escaped_byte}
use Rattle.daide_status.proofs.pieces.put_escaped.Given as goal

abbrev pub invariant-bytes : goal.invariant-bytes
invariant-bytes g l =
    l.out.items ++ flat_map escaped_byte l.rest ≡ l.initial.out.items ++ flat_map escaped_byte l.text

abbrev pub decreases-bytes : goal.decreases-bytes
decreases-bytes g l = length l.rest
