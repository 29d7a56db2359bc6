use Rattle.daide_channels.proofs.Common.{◌≡◌, other, at}
use Rattle.daide_channels.proofs.GoneLemmas.{IsLosing}
use Rattle.daide_channels.proofs.channels.Channels.lose.Given as goal

-- each iteration removes one first frame, and the parts of the other wire stay
abbrev pub invariant-loop : goal.invariant-loop
invariant-loop g l =
    IsLosing l.fn.self l.self l.fn.to l.counter
    × (at l.self.parts (other l.fn.to) ≡ at l.fn.self.parts (other l.fn.to))
