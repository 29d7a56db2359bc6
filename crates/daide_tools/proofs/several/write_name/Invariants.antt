use Rattle.std.proofs.Common.{ℕ, List, ◌++◌, map, length, Option, codes}
use Rattle.std.specs.Io.KnownBytes.{Appends}
use Rattle.daide_tools.specs.Checking.{shown_byte}
use Rattle.daide_tools.proofs.several.write_name.Given as goal

-- what is appended after the bytes that are left follows the whole name
abbrev pub invariant-loop-rest : goal.invariant-loop-rest
invariant-loop-rest g l = (new : Option (List ℕ)) (tail : List ℕ) →
    Appends (g.O.Write.contents l.output) new (map shown_byte l.rest ++ tail) →
    Appends (g.O.Write.contents l.fn.output) new (codes "# " ++ (map shown_byte l.path ++ tail))

abbrev pub decreases-loop-rest : goal.decreases-loop-rest
decreases-loop-rest g l = length l.rest
