use Rattle.std.proofs.Common.{◌≡◌, ◌*◌, ◌-◌, ◌≤◌, length, drop}
use Rattle.daide_frame.specs.Frames.{first_alien, shifted_place}
use Rattle.daide_frame.proofs.cutter.known_front.Given as goal

-- none of the tokens so far is alien
abbrev pub invariant-loop-i : goal.invariant-loop-i
invariant-loop-i l =
    (2 * l.i ≤ length l.body) × (first_alien l.body ≡ shifted_place (2 * l.i) (first_alien (drop (2 * l.i) l.body)))

abbrev pub decreases-loop-i : goal.decreases-loop-i
decreases-loop-i l = l.tokens - l.i
