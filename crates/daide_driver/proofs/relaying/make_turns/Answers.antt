use Rattle.std.proofs.Common.{sym, ◌∙◌}
use Rattle.daide_driver.specs.Whole.{WholeTurn}
use Rattle.daide_driver.proofs.RelayLemmas.{another_turn, no_turn}
use Rattle.daide_driver.proofs.Stretches.{carries_weaker}
use Rattle.daide_driver.proofs.relaying.make_turns.Goals as goal

pub loop-init : goal.loop-init
loop-init g c = no_turn g.P.Ports.transition c.args.session.now c.args.ports.now

pub loop-preserved : goal.loop-preserved
loop-preserved g c =
    another_turn g.P.Ports.transition c.loop.counter _ (c.loop.session, c.loop.ports) _ c.loop.invariant
    (sym c.is_closed.ensures ∙ c.if-is_closed.false)
    (carries_weaker g.P.Ports.transition _ WholeTurn _ _ (λ xs h. h.0) c.turn.ensures.exchange)
