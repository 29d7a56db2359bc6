use Rattle.daide_driver.specs.Record.{EvolveTogether}
use Rattle.daide_driver.specs.Relay.{Turns}
use Rattle.daide_driver.proofs.relaying.make_turns.Given as goal

-- the turns so far
abbrev pub invariant-loop : goal.invariant-loop
invariant-loop g l =
    EvolveTogether g.P.Ports.transition (Turns l.counter) (l.fn.session, l.fn.ports) (l.session, l.ports)
