use Rattle.daide_show.proofs.Common.{◌≡◌, ◌≤◌, ◌+◌, ◌-◌, length}
use Rattle.daide_show.specs.declared.frame_view.places.Place.TheVariants.{Outside}
use Rattle.daide_show.specs.Note.{refusal_from}
use Rattle.daide_show.proofs.notes.digits_note.Given as goal

-- no byte before the rest is refused
abbrev pub invariant-loop-rest : goal.invariant-loop-rest
invariant-loop-rest l =
    (length l.rest ≤ length l.input)
    × (refusal_from (length l.input - length l.rest + 1) l.place l.rest ≡ refusal_from 1 Outside l.input)

abbrev pub decreases-loop-rest : goal.decreases-loop-rest
decreases-loop-rest l = length l.rest
