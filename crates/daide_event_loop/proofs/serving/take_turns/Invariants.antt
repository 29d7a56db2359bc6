use Rattle.daide_event_loop.proofs.BeginningLemmas.{Taken}
use Rattle.daide_event_loop.proofs.serving.take_turns.Given as goal

-- so many turns were made, and each made progress
abbrev pub invariant-loop-turns : goal.invariant-loop-turns
invariant-loop-turns g l =
    Taken g.P.Ports.transition g.S.System.transition l.initial.system l.initial.slab l.place l.turns l.slab l.system
