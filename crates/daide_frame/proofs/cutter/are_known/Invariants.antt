use Rattle.std.proofs.Common.{◌≡◌, true}
use Rattle.daide_frame.proofs.Common.{AreKnown}
use Rattle.daide_frame.proofs.cutter.are_known.Given as goal

-- none of the tokens so far is alien
abbrev pub invariant-loop-k : goal.invariant-loop-k
invariant-loop-k l = l.known ≡ true → AreKnown l.body l.first l.k
