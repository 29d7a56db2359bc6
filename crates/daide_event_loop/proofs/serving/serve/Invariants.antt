use Rattle.daide_event_loop.specs.Serving.{initial_service}
use Rattle.daide_event_loop.proofs.ServingLemmas.{Ran}
use Rattle.daide_event_loop.proofs.serving.serve.Given as goal

-- the rounds so far
abbrev pub invariant-loop-round : goal.invariant-loop-round
invariant-loop-round g l =
    Ran g.P.Ports.transition g.S.System.transition l._round (initial_service l.settings) l.initial.system l.service l.system
