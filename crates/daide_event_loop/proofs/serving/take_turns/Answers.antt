use Rattle.std.proofs.Common.{◌∙◌, arith}
use Rattle.std.proofs.lemmas.Bool.{not-true, not-false}
use Rattle.daide_event_loop.proofs.BeginningLemmas.{none_taken, another_turn, last_turn, all_taken, turned_there, moved_there}
use Rattle.daide_event_loop.proofs.serving.take_turns.Goals as goal

pub loop-turns-init : goal.loop-turns-init
loop-turns-init g c =
    none_taken g.P.Ports.transition g.S.System.transition c.args.system.now c.args.slab.now c.args.place c.requires

pub take_turn-requires : goal.take_turn-requires
take_turn-requires g c = c.loop-turns.invariant.held

pub meter-requires : goal.meter-requires
meter-requires g c =
    let turn = c.take_turn.ensures in
    turned_there g.P.Ports.transition _ c.args.place turn.0 _ turn.2

pub loop-turns-preserved : goal.loop-turns-preserved
loop-turns-preserved g c =
    let turn = c.take_turn.ensures in
    another_turn g.P.Ports.transition g.S.System.transition _ _ _ _ _ _ c.args.place _ c.loop-turns.invariant turn.0 turn.1 turn.2
    (moved_there g.P.Ports.transition c.take_turn.new.slab c.args.place c.meter.result
    (turned_there g.P.Ports.transition _ c.args.place turn.0 _ turn.2) c.meter.ensures
    ∙ not-false c.meter.result.moved.made_progress c.if-not-meter.false)

pub returns-then-not-meter : goal.returns-then-not-meter
returns-then-not-meter g c =
    let turn = c.take_turn.ensures in
    last_turn g.P.Ports.transition g.S.System.transition _ _ _ _ _ _ c.args.place _ c.loop-turns.invariant turn.0 turn.1 turn.2
    c.loop-turns-test.true
    (moved_there g.P.Ports.transition c.take_turn.new.slab c.args.place c.meter.result
    (turned_there g.P.Ports.transition _ c.args.place turn.0 _ turn.2) c.meter.ensures
    ∙ not-true c.meter.result.moved.made_progress c.if-not-meter.true)

pub returns : goal.returns
returns g c =
    all_taken g.P.Ports.transition g.S.System.transition _ _ _ _ c.args.place _ c.loop-turns.invariant (omega arith)
