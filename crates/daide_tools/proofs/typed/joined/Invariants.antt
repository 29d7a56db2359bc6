use Rattle.std.proofs.Common.{◌≡◌, ◌++◌, length, map}
use Rattle.std.specs.List.{join_with_byte}
use Rattle.daide_tools.proofs.typed.joined.Given as goal

abbrev pub invariant-loop-rest : goal.invariant-loop-rest
invariant-loop-rest g l =
    l.text.items ++ join_with_byte 32 (map (λ word. word.now) l.rest)
    ≡ join_with_byte 32 (map (λ word. word.now) l.fn.words)

abbrev pub decreases-loop-rest : goal.decreases-loop-rest
decreases-loop-rest g l = length l.rest
