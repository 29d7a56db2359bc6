use Rattle.daide_show.proofs.Common.{◌≡◌, ◌*◌, drop}
use Rattle.daide_frame.specs.Frames.{shifted_place, first_alien}
use Rattle.daide_show.proofs.frame_view.cause.first_alien_end.Given as goal

-- none of the tokens so far is invalid
abbrev pub invariant-loop-i : goal.invariant-loop-i
invariant-loop-i l = first_alien l.body ≡ shifted_place (2 * l.i) (first_alien (drop (2 * l.i) l.body))
