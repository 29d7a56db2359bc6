use Rattle.std.proofs.Common.{◌≤◌, ◌-◌}
use Rattle.daide_event_loop.proofs.ServingLemmas.{Visited}
use Rattle.daide_event_loop.proofs.serving.Service.visit_ready.Given as goal

-- the visits so far
abbrev pub invariant-loop-turns : goal.invariant-loop-turns
invariant-loop-turns g l = (l.turns ≤ 32)
    × Visited g.P.Ports.transition g.S.System.transition l.initial.system l.initial.self l.turns l.self l.system

abbrev pub decreases-loop-turns : goal.decreases-loop-turns
decreases-loop-turns g l = 32 - l.turns
