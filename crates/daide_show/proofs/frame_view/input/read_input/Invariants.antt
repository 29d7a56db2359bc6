use Rattle.daide_show.specs.Input.{IsPartlyRead}
use Rattle.daide_show.proofs.frame_view.input.read_input.Given as goal

-- the input so far is what the reader returned, at least one byte each turn
abbrev pub invariant-loop-turn : goal.invariant-loop-turn
invariant-loop-turn g l =
    IsPartlyRead (g.R.Read.remaining l.initial.reader) (g.R.Read.remaining l.reader) l.input.items l._turn
