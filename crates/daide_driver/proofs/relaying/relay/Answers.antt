use Rattle.daide_driver.proofs.Stretches.{carries_weaker}
use Rattle.daide_driver.specs.Relay.{MakesTurns, WholeRelay}
use Rattle.daide_driver.proofs.RelayLemmas.{relayed}
use Rattle.daide_driver.proofs.relaying.relay.Goals as goal

pub returns-clause-relayed : goal.returns-clause-relayed
returns-clause-relayed g c =
    let end = c.make_turns-end.result in
    let new = c.make_turns-end.new.session in
    carries_weaker g.P.Ports.transition (MakesTurns end c.args.turns) (WholeRelay end c.args.turns) _ _
    (λ xs. relayed end c.args.turns c.args.session.now xs new c.bounds.ensures) c.make_turns-end.ensures.turns
