use Rattle.daide_channels.proofs.Common.{refl, ◌∙◌, arith}
use Rattle.daide_channels.proofs.GoneLemmas.{losing_none, losing_one, lost_all}
use Rattle.daide_channels.proofs.channels.Channels.lose.Goals as goal

pub loop-init : goal.loop-init
loop-init g c = (losing_none c.args.self.now c.args.to, refl)

pub loop-preserved : goal.loop-preserved
loop-preserved g c = (
  losing_one c.args.self.now c.loop.self c.drop_first.new.self c.args.to c.loop.counter c.loop.invariant.0
      c.drop_first.ensures.lets_go c.drop_first.ensures.queued,
  c.drop_first.ensures.other_front ∙ c.loop.invariant.1,
)

pub returns-clause-lets_go : goal.returns-clause-lets_go
returns-clause-lets_go g c = c.loop.invariant.0.goes

pub returns-clause-queued : goal.returns-clause-queued
returns-clause-queued g c =
    lost_all c.args.self.now c.loop.self c.args.to c.loop.counter c.loop.invariant.0 (omega arith)

pub returns-clause-other_front : goal.returns-clause-other_front
returns-clause-other_front g c = c.loop.invariant.1
