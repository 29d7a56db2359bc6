use Rattle.daide_show.proofs.Common.{◌≡◌, ◌++◌, length, digits_from, digits_of}
use Rattle.daide_show.proofs.frame_view.input.digits_of.Given as goal

-- the digits so far, followed by those of the rest from its place on, are those of the input
abbrev pub invariant-loop-rest : goal.invariant-loop-rest
invariant-loop-rest g l = l.digits.items ++ digits_from l.place l.rest ≡ digits_of l.input

abbrev pub decreases-loop-rest : goal.decreases-loop-rest
decreases-loop-rest g l = length l.rest
