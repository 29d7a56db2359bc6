use Rattle.std.proofs.Common.{◌≡◌, length, map}
use Rattle.std.specs.List.{list_any}
use Rattle.daide_command_line.specs.CommandLine.{begins_negative}
use Rattle.daide_command_line.proofs.arguments.has_negative.Given as goal

abbrev pub invariant-loop-rest : goal.invariant-loop-rest
invariant-loop-rest g l =
    list_any begins_negative (map g.S.AsStr.text l.fn.words) ≡ list_any begins_negative (map g.S.AsStr.text l.rest)

abbrev pub decreases-loop-rest : goal.decreases-loop-rest
decreases-loop-rest g l = length l.rest
